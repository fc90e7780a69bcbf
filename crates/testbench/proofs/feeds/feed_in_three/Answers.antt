-- `testbench::feeds::feed_in_three` meets its contract: a cut past the end is one at the end.
-- Assumes nothing.
use mathlib.Core.Path.{◌≡◌}
use native.Mathlib.Omega.{arith}
use lib.ListN.{take, drop}
use Rattle.std.proofs.lemmas.Grind.{common_steps}
use Rattle.word.proofs.Lists.{take_min, drop_min}
use Rattle.calls.specs.Call.{final}
use Rattle.testbench.proofs.feeds.feed_in_three.Goals as goal

pub returns : goal.returns
unfolding final
returns c =
    let a = c.args in
    let m = a.message.now in
    let begin : c.split_at.result.0.now ≡ take a.first m = grind (arith, common_steps, take_min) in
    let middle : c.split_at-2.result.0.now ≡ take a.second (drop a.first m) = grind (arith, common_steps, take_min, drop_min) in
    let end : c.split_at-2.result.1.now ≡ drop a.second (drop a.first m) = grind (arith, common_steps, drop_min) in
    rw (c.feed_often.ensures, c.feed_often-twice.ensures, c.feed_often-once.ensures, begin, middle, end)
