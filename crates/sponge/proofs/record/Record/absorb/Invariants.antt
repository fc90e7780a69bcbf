-- `sponge::Record::absorb` meets its contract: the bytes that are left are `Feeding`.
-- Assumes nothing.
use Rattle.std.proofs.Common.{◌<◌, length}
use Rattle.mode.specs.Mode.{row}
use Rattle.sponge.specs.Record.{feed_bytes}
use Rattle.sponge.proofs.Parts.{Feeding}
use Rattle.sponge.proofs.record.Record.absorb.Given as goal

abbrev pub invariant-loop-left : goal.invariant-loop-left
invariant-loop-left l =
    (l.place < l.rate) × Feeding (row l.self.mode) (feed_bytes (row l.self.mode) l.self.fed l.bytes l.self) l.self.mode l.place l.left l.current

abbrev pub decreases-loop-left : goal.decreases-loop-left
decreases-loop-left l = length l.left
