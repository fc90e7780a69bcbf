-- `interpreter::begin` meets its contract.
-- Assumes nothing.
use native.Mathlib.Omega.{arith}
use Rattle.interpreter.specs.Script.{answer_names}
use Rattle.interpreter.proofs.Ending.{wrote-first}
use Rattle.interpreter.proofs.chunk.begin.Goals as goal

pub returns : goal.returns
returns c =
    let w = wrote-first c.args.out.now answer_names _ _ (omega arith) c.put_bytes.ensures.wrote in
    record { size = w.0; out = w.1 }
