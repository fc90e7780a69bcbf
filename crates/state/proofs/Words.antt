-- An xor into one of five words, as code makes it that takes the words apart.
-- Assumes nothing.
use mathlib.Core.Path.{◌≡◌, refl, sym, ap₂, ◌∙◌}
use mathlib.Core.List.{List}
use Prim.Native.Nat.{ℕ, ◌≤◌}
use native.Mathlib.Omega.{arith}
use lib.Bits.{bit_xor}
use lib.ListN.{length, get_or, set}
use Rattle.word.specs.Bytes.{xor_word, xor_from, window}
use Rattle.word.proofs.Arrays.{listed, written_out, cons_same}
use Rattle.word.proofs.Lists.{set_past}
use Rattle.word.proofs.Windows.{xor_from-words}

-- the five words, one by one
abbrev pub five : List ℕ → List ℕ
five l = listed 5 (λ i. get_or l i 0)

-- x goes into word k of the five
pub xor_here : (l : List ℕ) (j x k : ℕ) → length l ≡ 5 → j ≡ k → set (five l) k (bit_xor (get_or l k 0) x) ≡ xor_word j x l
unfolding xor_word
xor_here l j x k h e = ap₂ (λ (t : List ℕ) (m : ℕ). set t m (bit_xor (get_or l m 0) x)) (sym (written_out 5 l h)) (sym e)

-- x goes into none
pub xor_nowhere : (l : List ℕ) (j x : ℕ) → length l ≡ 5 → 5 ≤ j → l ≡ xor_word j x l
unfolding xor_word
xor_nowhere l j x h past = sym (set_past l j (bit_xor (get_or l j 0) x) (omega arith))

-- five words that are each xored with the number that the bytes make in it
pub each_xored : (ws xs bs : List ℕ) (k : ℕ) → length ws ≡ 5 → length xs ≡ 5
    → get_or xs 0 0 ≡ bit_xor (get_or ws 0 0) (window k bs 0)
    → get_or xs 1 0 ≡ bit_xor (get_or ws 1 0) (window k bs 1)
    → get_or xs 2 0 ≡ bit_xor (get_or ws 2 0) (window k bs 2)
    → get_or xs 3 0 ≡ bit_xor (get_or ws 3 0) (window k bs 3)
    → get_or xs 4 0 ≡ bit_xor (get_or ws 4 0) (window k bs 4)
    → xs ≡ xor_from k bs ws
each_xored ws xs bs k e f a b c d g =
    written_out 5 xs f ∙ cons_same a (cons_same b (cons_same c (cons_same d (cons_same g refl)))) ∙ sym (xor_from-words 5 bs ws k e)
