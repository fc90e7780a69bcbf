-- `testbench::feeds::sixteen` meets its contract.
-- Assumes nothing.
use Rattle.std.proofs.Common.{replicate, ap, ◌∙◌}
use Rattle.calls.specs.Call.{Open, final}
use Rattle.calls.proofs.Repeats.{again-next, again-end}
use Rattle.hub.specs.declared.Hub.{Hub}
use Rattle.hub.specs.Hub.{on_hub}
use Rattle.testbench.specs.Feeds.{sixteen}
use Rattle.testbench.proofs.feeds.sixteen.Goals as goal

pub loop-init : goal.loop-init
unfolding sixteen
loop-init c = ap (λ (h : Hub). final on_hub h (replicate 16 (Open 2 (replicate 16 0) 16))) c.empty-hub.ensures

pub loop-preserved : goal.loop-preserved
unfolding on_hub
loop-preserved c =
    again-next on_hub (Open 2 (replicate 16 0) 16) 16 c.loop.counter c.loop.hub c.loop-test.true c.open.result.hub c.open.ensures.hub ∙ c.loop.invariant

pub returns : goal.returns
returns c = again-end on_hub (Open 2 (replicate 16 0) 16) 16 c.loop.counter c.loop.hub c.loop-test.false ∙ c.loop.invariant
