-- `mainloop::opening` meets its contract.
-- Assumes nothing.
use Rattle.listing.proofs.Lists.{lists_more}
use Rattle.mainloop.specs.Rounds.{opening}
use Rattle.mainloop.proofs.opening.Goals as goal

pub returns : goal.returns
unfolding opening
returns c = lists_more (lists_more c.open_eight.ensures c.open_eight-2.ensures) c.draw.ensures
