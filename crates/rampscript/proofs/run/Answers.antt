-- `rampscript::run` meets its contract. The loop: the chunks that were read were consumed; and with each turn fewer bytes may still be read.
-- Assumes nothing.
use Rattle.rampscript.proofs.Turns.{made_none, made_more, fewer}
use Rattle.rampscript.proofs.run.Goals as goal

pub loop-count-init : goal.loop-count-init
loop-count-init c = made_none _

pub loop-count-smaller : goal.loop-count-smaller
loop-count-smaller c =
    fewer _ _ _ _ c.loop-count.invariant c.make_turn.ensures _ c.in_ok-count.was c.if-count-eq0.false c.if-not-reader.false

pub loop-count-preserved : goal.loop-count-preserved
loop-count-preserved c =
    made_more _ _ _ _ c.loop-count.invariant c.make_turn.ensures _ c.in_ok-count.was c.if-count-eq0.false
