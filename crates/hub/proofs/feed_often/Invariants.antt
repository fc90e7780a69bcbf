-- The feeds that are left leave what all of them do.
-- Assumes nothing.
use Rattle.std.proofs.Common.{◌≡◌, ◌-◌, replicate}
use Rattle.calls.specs.Call.{Feed, final}
use Rattle.hub.specs.Hub.{on_hub}
use Rattle.hub.proofs.feed_often.Given as goal

abbrev pub invariant-loop : goal.invariant-loop
invariant-loop l = final on_hub l.hub (replicate (l.times - l.counter) (Feed l.ticket l.bytes)) ≡ final on_hub l.fn.hub (replicate l.times (Feed l.ticket l.bytes))
