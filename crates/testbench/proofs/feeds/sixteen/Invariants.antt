-- The opens that are left fill the hub.
-- Assumes nothing.
use Rattle.std.proofs.Common.{◌≡◌, ◌-◌, replicate}
use Rattle.calls.specs.Call.{Open, final}
use Rattle.hub.specs.Hub.{on_hub}
use Rattle.testbench.specs.Feeds.{sixteen}
use Rattle.testbench.proofs.feeds.sixteen.Given as goal

abbrev pub invariant-loop : goal.invariant-loop
invariant-loop l = final on_hub l.hub (replicate (16 - l.counter) (Open 2 (replicate 16 0) 16)) ≡ sixteen
