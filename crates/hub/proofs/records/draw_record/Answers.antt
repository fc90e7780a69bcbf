-- `hub::records::draw_record` meets its contract: as many bytes are drawn as the part that was lent has.
-- Assumes nothing.
use Rattle.std.proofs.Common.{◌≡◌, length, sym, ap, ◌∙◌, ltb-false}
use native.Mathlib.Nat.{add-sub_cancel_left}
use Rattle.sponge.specs.Record.{finished, next_bytes}
use Rattle.sponge.proofs.Calls.{length-next_bytes}
use Rattle.checks.specs.Buffers.{written}
use Rattle.checks.proofs.Buffers.{part-written, part_length}
use Rattle.hub.proofs.records.draw_record.Goals as goal

pub returns-clause-drawn : goal.returns-clause-drawn
returns-clause-drawn c =
    let a = c.args in
    let part = part_length _ _ _ (ltb-false _ _ (sym c.exceeds.ensures ∙ c.if-exceeds.false)) in
    let drawn-bytes : c.squeeze.new.out ≡ next_bytes a.count (finished a.before) = rw (c.squeeze.ensures.written, c.finish.ensures, part) in
    let long = ap length drawn-bytes ∙ length-next_bytes _ _ ∙ sym (add-sub_cancel_left _ _) in
    (rw (c.squeeze.ensures.after, c.finish.ensures, part), part-written _ _ _ _ long ∙ ap (written a.buffer.now a.place) drawn-bytes)
