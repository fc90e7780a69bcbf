-- `mainloop::open_eight` meets its contract. The loop's invariant: the opens before this one are made and listed.
-- Assumes nothing.
use lib.ListN.{replicate}
use Rattle.calls.specs.Call.{Open}
use Rattle.listing.specs.Listing.{Lists}
use Rattle.mainloop.proofs.open_eight.Given as goal

abbrev pub invariant-loop : goal.invariant-loop
invariant-loop l = Lists (replicate l.counter (Open l.mode l.key 16)) l.fn.list l.list
