-- `sponge::Record::tag_matches` meets its contract.
-- Assumes nothing.
use Rattle.std.proofs.Common.{◌≡◌, ℕ, length, get_or, sym, ap, ◌∙◌, ap₂, arith, below_more}
use lib.Bits.{bit_xor, bit_or, xor_self}
use Rattle.word.proofs.Bits.{xor_none, or_none}
use Rattle.mode.specs.Mode.{row}
use Rattle.sponge.specs.Record.{block, tag_matches}
use Rattle.sponge.proofs.Tags.{another_length, judged}
use Rattle.sponge.proofs.record.Record.tag_matches.Goals as goal

pub returns-then-tag-tag_length : goal.returns-then-tag-tag_length
unfolding tag_matches block
returns-then-tag-tag_length c =
    let a = c.args in
    sym (another_length a.tag.now a.self.words (row a.self.mode).most_drawn (row a.self.mode).draw_rate
    (λ e. omega (arith, c.tag_length.ensures, e)))

pub loop-i-preserved : goal.loop-i-preserved
loop-i-preserved c =
    let now = c.loop-i in
    let tag = c.args.tag.now in
    let b : ℕ = get_or tag now.i 0 in
    let own = c.byte_at in (
      λ e.
          let none = or_none now.difference (bit_xor b own.result) e in
          below_more _ _ (now.invariant.0 none.0) (xor_none b own.result none.1 ∙ own.ensures),
      λ h.
          let before : now.difference ≡ 0 = now.invariant.1 (λ k j. h k (omega arith)) in
          let equal : b ≡ own.result = h now.i (omega arith) ∙ sym own.ensures in
          ap₂ bit_or before (ap (λ (x : ℕ). bit_xor x own.result) equal ∙ xor_self own.result),
    )

pub returns : goal.returns
unfolding tag_matches block
returns c =
    let last = c.loop-i in
    let a = c.args in
    let tag = a.tag.now in
    let all : last.i ≡ length tag = omega arith in
    judged tag a.self.words (row a.self.mode).most_drawn (row a.self.mode).draw_rate last.difference
    (omega (arith, c.tag_length.ensures))
    (rw all at last.invariant.0) (rw all at last.invariant.1)
