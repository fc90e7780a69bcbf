-- `mainloop::draw_all` meets its contract. The loop's invariant: the draws before this one are made and listed.
-- Assumes nothing.
use Prim.Native.Nat.{◌-◌}
use Rattle.listing.specs.Listing.{Lists}
use Rattle.mainloop.specs.Rounds.{draws_from}
use Rattle.mainloop.proofs.draw_all.Given as goal

abbrev pub invariant-loop-ticket : goal.invariant-loop-ticket
invariant-loop-ticket l = Lists (draws_from 1 (l.ticket - 1)) l.fn.list l.list
