-- `rampscript::answer` meets its contract. The loop: the bytes before the rest were consumed.
-- Assumes nothing.
use lib.ListN.{length}
use Rattle.rampscript.proofs.Chunks.{Answers}
use Rattle.rampscript.proofs.answer.Given as goal

abbrev pub invariant-loop-rest : goal.invariant-loop-rest
invariant-loop-rest l = Answers l.initial.reader l.initial.chunk l.rest l.reader

abbrev pub decreases-loop-rest : goal.decreases-loop-rest
decreases-loop-rest l = length l.rest
