-- `interpreter::Reader::new` meets its contract.
-- Assumes nothing.
use Rattle.interpreter.proofs.Reader.new.Goals as goal

pub returns : goal.returns
returns c = rw c.first.ensures
