-- `rampscript::run` meets its contract. The loop: the chunks that were read were consumed; and with each turn fewer bytes may still be read.
-- Assumes nothing.
use Rattle.interpreter.proofs.Bounds.{left}
use Rattle.rampscript.proofs.Turns.{Made}
use Rattle.rampscript.proofs.run.Given as goal

abbrev pub invariant-loop-count : goal.invariant-loop-count
invariant-loop-count l = Made l.initial.reader l.reader

abbrev pub decreases-loop-count : goal.decreases-loop-count
decreases-loop-count l = left l.reader.session
