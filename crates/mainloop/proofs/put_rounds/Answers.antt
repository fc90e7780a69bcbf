-- `mainloop::put_rounds` meets its contract.
-- Assumes nothing.
use native.Mathlib.Omega.{arith}
use Rattle.mainloop.proofs.Kept.{listed_next}
use Rattle.mainloop.proofs.put_rounds.Goals as goal

pub loop-i-preserved : goal.loop-i-preserved
loop-i-preserved c = listed_next _ _ _ _ (omega arith) c.loop-i.invariant c.put_round.ensures
