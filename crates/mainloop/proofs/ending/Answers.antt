-- `mainloop::ending` meets its contract.
-- Assumes nothing.
use Rattle.listing.proofs.Lists.{lists_more}
use Rattle.mainloop.specs.Rounds.{ending}
use Rattle.mainloop.proofs.ending.Goals as goal

pub returns : goal.returns
unfolding ending
returns c = lists_more (lists_more c.open_eight.ensures c.draw_all.ensures) c.sum.ensures
