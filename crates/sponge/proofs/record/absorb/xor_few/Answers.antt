-- `sponge::record::absorb::xor_few` meets its contract.
-- Assumes nothing.
use Rattle.std.proofs.Common.{◌≡◌, ℕ, List, [], ◌∷◌, length, refl, ap, ◌∙◌, arith, rules}
use Rattle.word.specs.Bytes.{xor_from, to_bytes}
use Rattle.word.proofs.Bytes.{Bytes}
use Rattle.word.proofs.WordAt.{xor_few_lem}
use Rattle.sponge.proofs.record.absorb.xor_few.Goals as goal

xor_none : (bs ws : List ℕ) (k : ℕ) → length bs ≡ 0 → ws ≡ xor_from k bs ws
unfolding xor_from
xor_none [] ws k e = refl
xor_none (b ∷ bs) ws k e = absurd (omega arith)

pub returns-then-is_empty : goal.returns-then-is_empty
returns-then-is_empty c =
    let a = c.args in
    let none : length a.bytes.now ≡ 0 = search rules in
    xor_none a.bytes.now a.words a.place none

pub returns-else-is_empty : goal.returns-else-is_empty
returns-else-is_empty c =
    let a = c.args in
    let bytes : Bytes a.bytes.now = λ i. omega (arith, c.shared_slice_known-1.given i) in
    c.xor_word_at.ensures
    ∙ ap (λ (x : ℕ). xor_from a.place (to_bytes 8 x) a.words) c.word_of_bytes.ensures
    ∙ xor_few_lem a.bytes.now bytes (omega arith) a.place a.words
