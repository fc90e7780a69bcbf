-- `testbench::feeds::testbench_parts_in_place` meets its contract.
-- Assumes nothing.
use native.Mathlib.Omega.{arith}
use Rattle.std.proofs.lemmas.Grind.{common_steps}
use Rattle.calls.specs.Call.{final}
use Rattle.hub.specs.Hub.{on_hub}
use Rattle.testbench.specs.Feeds.{drawn_of_parts}
use Rattle.testbench.proofs.feeds.testbench_parts_in_place.Goals as goal

pub returns : goal.returns
unfolding drawn_of_parts final on_hub
returns c = record { answer = grind (arith, common_steps); after = grind (arith, common_steps) }
