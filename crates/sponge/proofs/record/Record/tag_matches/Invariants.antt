-- `sponge::Record::tag_matches` meets its contract. The loop's invariant: the difference is 0 exactly where the bytes looked at are those of the words.
-- Assumes nothing.
use Rattle.std.proofs.Common.{◌≡◌}
use Rattle.sponge.proofs.Tags.{SameBelow}
use Rattle.sponge.proofs.record.Record.tag_matches.Given as goal

abbrev pub invariant-loop-i : goal.invariant-loop-i
invariant-loop-i l = (l.difference ≡ 0 → SameBelow l.self.words l.tag l.i) × (SameBelow l.self.words l.tag l.i → l.difference ≡ 0)
