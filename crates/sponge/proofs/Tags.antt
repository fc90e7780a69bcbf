-- The comparison of a tag.
-- Assumes nothing.
use Rattle.std.proofs.Common.{◌≡◌, ℕ, ◌<◌, min, true, false, eqb, ◌≢◌, List, length, get_or, take, sym, ap, ◌∙◌, zero-add, arith, length-take, eq-eqb, ne_eqb}
use native.Mathlib.Decide.{ℕ_discrete}
use Rattle.checks.specs.Equality.{same}
use Rattle.checks.proofs.Equality.{equal-same, same-equal, other-same}
use Rattle.word.specs.Bytes.{byte_at, bytes_from}
use Rattle.word.proofs.Lists.{take_min}
use Rattle.mode.specs.Mode.{row}
use Rattle.word.proofs.Bytes.{length-bytes_from, take-bytes_from, by_bytes, each-byte}
use Rattle.sponge.specs.declared.record.Record.{Record}
use Rattle.sponge.specs.Record.{block, tag_matches}

-- for the reader: the comparison of a tag is equality of lists, both ways: it passes where the tag is as many first bytes of the block as are drawn at most,
-- and nowhere else
pub tag-both_ways : (tag : List ℕ) (r : Record)
    → (tag_matches tag r ≡ true → tag ≡ take (row r.mode).most_drawn (block r)) × (tag ≡ take (row r.mode).most_drawn (block r) → tag_matches tag r ≡ true)
unfolding tag_matches
tag-both_ways tag r = (same-equal tag (take (row r.mode).most_drawn (block r)), equal-same tag (take (row r.mode).most_drawn (block r)))

-- ---- a tag, byte by byte

-- the first i bytes of the tag are those of the words
abbrev pub SameBelow : List ℕ → List ℕ → ℕ → Type 0
SameBelow words tag i = (k : ℕ) → k < i → get_or tag k 0 ≡ byte_at words k

-- a tag of another length than the d first bytes of a block of R
pub another_length : (tag words : List ℕ) (d R : ℕ) → length tag ≢ min d R → same tag (take d (bytes_from 0 R words)) ≡ false
another_length tag words d R h =
    other-same tag (take d (bytes_from 0 R words)) (λ e. h (ap length e ∙ length-take d (bytes_from 0 R words) ∙ ap (min d) (length-bytes_from R 0 words)))

-- a number that is 0 exactly where all bytes of the tag are those of the words
pub judged : (tag words : List ℕ) (d R difference : ℕ) → length tag ≡ min d R
    → (difference ≡ 0 → SameBelow words tag (length tag)) → (SameBelow words tag (length tag) → difference ≡ 0)
    → eqb difference 0 ≡ same tag (take d (bytes_from 0 R words))
judged tag words d R difference h to from = rw (first, take-bytes_from (length tag) R 0 words (omega (arith, h))) (go (ℕ_discrete difference 0))
  where
    first : take d (bytes_from 0 R words) ≡ take (length tag) (bytes_from 0 R words)
    first = sym (take_min d (bytes_from 0 R words)) ∙ ap (λ (k : ℕ). take k (bytes_from 0 R words)) (ap (min d) (length-bytes_from R 0 words) ∙ sym h)

    go : Dec (difference ≡ 0) → eqb difference 0 ≡ same tag (bytes_from 0 (length tag) words)
    go (yes e) =
        eq-eqb difference 0 e
        ∙ sym (equal-same tag (bytes_from 0 (length tag) words) (by_bytes tag 0 words (λ i l. to e i l ∙ ap (byte_at words) (sym (zero-add i)))))
    go (no n) =
        ne_eqb difference 0 n
        ∙ sym (other-same tag (bytes_from 0 (length tag) words) (λ e. n (from (λ i l. each-byte tag 0 words e i l ∙ ap (byte_at words) (zero-add i)))))
