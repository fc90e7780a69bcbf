-- `interpreter::Reader::fill` meets its contract. The loop: filling what is left goes on from what is in the buffer.
-- Assumes nothing.
use mathlib.Core.Path.{◌≡◌}
use Prim.Native.Nat.{◌-◌}
use lib.ListN.{length}
use Rattle.interpreter.proofs.FillLoop.{Filling}
use Rattle.interpreter.proofs.Reader.fill.Given as goal

abbrev pub invariant-loop-taken : goal.invariant-loop-taken
invariant-loop-taken l =
    (l.writer.out.ghost_name ≡ l.initial.writer.out.ghost_name) × Filling l.initial.self l.chunk l.initial.writer.out.now l.self l.taken l.writer

abbrev pub decreases-loop-taken : goal.decreases-loop-taken
decreases-loop-taken l = length l.chunk - l.taken
