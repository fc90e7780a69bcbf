-- `controller::feed_often` meets its contract.
-- Assumes nothing.
use Rattle.std.proofs.Common.{◌∙◌}
use Rattle.calls.specs.Call.{Feed}
use Rattle.calls.proofs.Repeats.{again-next, again-end}
use Rattle.hub.specs.Hub.{on_hub}
use Rattle.controller.proofs.feed_often.Goals as goal

pub loop-preserved : goal.loop-preserved
unfolding on_hub
loop-preserved c =
    again-next on_hub (Feed c.args.ticket c.args.bytes.now) c.args.times c.loop.counter c.loop.hub c.loop-test.true c.feed.new.hub c.feed.ensures.after
    ∙ c.loop.invariant

pub returns : goal.returns
returns c = again-end on_hub (Feed c.args.ticket c.args.bytes.now) c.args.times c.loop.counter c.loop.hub c.loop-test.false ∙ c.loop.invariant
