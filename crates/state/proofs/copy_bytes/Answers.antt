-- `state::copy_bytes` meets its contract. The loop's invariant: the first bytes of the slice are those that the words have from the place on.
-- Assumes nothing.
use Rattle.std.proofs.Common.{rules, ◌≡◌, ◌∙◌, ◌+◌, ◌*◌, ◌-◌, ◌/◌, refl, sym, ap, [], ◌∷◌, ℕ, length, arith}
use Rattle.std.proofs.lemmas.Slice.{take-put_mid}
use Rattle.std.proofs.lemmas.List.{take_more_set}
use lib.ListN.{length-set}
use Rattle.word.specs.Bytes.{bytes_from, to_bytes}
use Rattle.word.proofs.Bytes.{bytes_from-word, length-bytes_from, big_endian-written}
use Rattle.state.proofs.Copying.{copied_next}
use Rattle.state.proofs.copy_bytes.Goals as goal

pub loop-i-init : goal.loop-i-init
unfolding bytes_from
loop-i-init c = (search rules, refl, refl)

pub loop-i-preserved-then-out-i-ge8 : goal.loop-i-preserved-then-out-i-ge8
loop-i-preserved-then-out-i-ge8 c =
    let now = c.loop-i in
    let k : ℕ = c.args.place + now.i in
    let index : 8 * (k / 8) ≡ k = omega arith in
    let word : c.copy_from_slice.new.self ≡ bytes_from k 8 c.args.words = c.copy_from_slice.ensures.after ∙ c.to_be_bytes.ensures
    ∙ big_endian-written c.word_of.result ∙ ap (to_bytes 8) c.word_of.ensures ∙ sym (bytes_from-word c.args.words (k / 8)) ∙ ap (λ (n : ℕ). bytes_from n 8 c.args.words) index in
    let count : length c.copy_from_slice.new.self ≡ 8 = ap length word ∙ length-bytes_from 8 k c.args.words in (
      search rules,
      take-put_mid now.i (now.i + 8 - now.i) now.out c.copy_from_slice.new.self (now.i + 8) (omega (arith, count)) (omega arith) ∙ copied_next _ _ c.args.place now.i 8 c.args.words now.invariant.1 word,
      search rules,
    )

pub loop-i-preserved : goal.loop-i-preserved
unfolding bytes_from
loop-i-preserved c =
    let now = c.loop-i in
    let byte : c.byte_at.result ∷ [] ≡ bytes_from (c.args.place + now.i) 1 c.args.words = ap (λ (b : ℕ). b ∷ []) c.byte_at.ensures in (
      simp length-set (omega arith),
      take_more_set now.out now.i c.byte_at.result (omega arith) ∙ copied_next _ _ c.args.place now.i 1 c.args.words now.invariant.1 byte,
      simp length-set now.invariant.2,
    )
