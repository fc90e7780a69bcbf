-- Rotation, over every width and every number of places: by shifts, in range, and told by bits.
-- Assumes nothing.
use mathlib.Core.Path.{◌≡◌, sym, ap, ap₂, ◌∙◌, subst}
use Prim.Native.Nat.{ℕ, zero, suc, ◌+◌, ◌-◌, ◌*◌, ◌/◌, ◌%◌, ◌^◌, ◌≤◌, ◌<◌}
use native.Mathlib.Nat.{add_comm, mod-lt, mod-eq_of_lt, sub-add_cancel, mul-mod_left, add-zero, lt_of_le_of_lt, le_of_lt, div-one, mod_self, mod-one, mul-one, zero-mul, sub-zero, pow-zero, add-mod_left}
use native.Mathlib.Decide.{dec_lt}
use native.Mathlib.Omega.{arith}
use lib.Pow.{mod-pow-add, shr_lt, shr_le, shl-shr, pow_pos}
use lib.Bits.{bit_or, or_shifted_r, or_lt, or_self}
use Rattle.word.specs.Word.{bit, word, rotr}
use Rattle.word.proofs.Bits.{bit_shr, bit_mod, bit-low, bit_high, is_word}

-- what stays of x in a word of n + m bits that is shifted left by m: its n low bits
shifted : (m n x : ℕ) → x * 2 ^ m % 2 ^ (n + m) ≡ x % 2 ^ n * 2 ^ m
shifted m n x =
    mod-pow-add (x * 2 ^ m) n m
    ∙ ap₂ (λ (a b : ℕ). a % 2 ^ n * 2 ^ m + b) (shl-shr x m) (mul-mod_left x (2 ^ m))
    ∙ add-zero (x % 2 ^ n * 2 ^ m)

-- a word of m + n bits whose n low bits go on top, by shifts
swapped : (m n x : ℕ) → x < 2 ^ (m + n) → bit_or (x / 2 ^ n) (x * 2 ^ m % 2 ^ (m + n)) ≡ x / 2 ^ n + x % 2 ^ n * 2 ^ m
swapped m n x h =
    ap (λ (w : ℕ). bit_or (x / 2 ^ n) (x * 2 ^ m % 2 ^ w)) (add_comm m n)
    ∙ ap (bit_or (x / 2 ^ n)) (shifted m n x)
    ∙ or_shifted_r (x % 2 ^ n) m (x / 2 ^ n) (shr_lt m n h)
    ∙ add_comm (x % 2 ^ n * 2 ^ m) (x / 2 ^ n)

-- for a word of w bits: n places to the right, w - n to the left
by_shifts : (w n x : ℕ) → n ≤ w → x < 2 ^ w → bit_or (x / 2 ^ n) (x * 2 ^ (w - n) % 2 ^ w) ≡ rotr w n x
unfolding rotr
by_shifts w n x l h =
    subst (λ (v : ℕ). x < 2 ^ v → bit_or (x / 2 ^ n) (x * 2 ^ (w - n) % 2 ^ v) ≡ x / 2 ^ n + x % 2 ^ n * 2 ^ (w - n))
    (sub-add_cancel l) (swapped (w - n) n x) h

-- the same where no shift reaches the width: by 0 places both shifts leave the word as it is
pub rotr-by_shifts : (w n x : ℕ) → n < w → x < 2 ^ w → bit_or (x / 2 ^ n) (x * 2 ^ ((w - n) % w) % 2 ^ w) ≡ rotr w n x
unfolding rotr
rotr-by_shifts w zero x l h =
    simp (sub-zero, mod_self, pow-zero, mul-one, div-one, mod-one, mod-eq_of_lt h, or_self, zero-mul, add-zero)
rotr-by_shifts w (suc n) x l h =
    ap (λ (k : ℕ). bit_or (x / 2 ^ suc n) (x * 2 ^ k % 2 ^ w)) (mod-eq_of_lt (less w n l))
    ∙ by_shifts w (suc n) x (le_of_lt l) h
  where
    less : (w n : ℕ) → suc n < w → w - suc n < w
    less w n l = omega arith

-- by any number of places up to its width a word stays a word
pub rotr-lt : (w n x : ℕ) → n ≤ w → x < 2 ^ w → rotr w n x < 2 ^ w
rotr-lt w n x l h =
    subst (λ (y : ℕ). y < 2 ^ w) (by_shifts w n x l h)
    (or_lt w (x / 2 ^ n) (x * 2 ^ (w - n) % 2 ^ w) (lt_of_le_of_lt (shr_le x n) h) (mod-lt (x * 2 ^ (w - n)) (pow_pos w)))

-- for the reader: the bit at place j of the rotated word is the one n places above, where the places go round
pub rotr-bits : (w n x : ℕ) → n ≤ w → x < 2 ^ w → rotr w n x ≡ word w (λ j. bit ((j + n) % w) x)
unfolding rotr
rotr-bits w n x l h =
    is_word w (λ j. bit ((j + n) % w) x) (rotr-lt w n x l h)
    (λ j m. ap (bit j) (add_comm (x / 2 ^ n) (x % 2 ^ n * 2 ^ (w - n))) ∙ placed j m (dec_lt j (w - n)))
  where
    placed : (j : ℕ) → j < w → Dec (j < w - n) → bit j (x % 2 ^ n * 2 ^ (w - n) + x / 2 ^ n) ≡ bit ((j + n) % w) x
    placed j m (yes below) =
        let inside : j + n < w = omega arith in
        bit-low j (w - n) (x % 2 ^ n) (x / 2 ^ n) below
        ∙ bit_shr n j x
        ∙ ap (λ (k : ℕ). bit k x) (add_comm n j ∙ sym (mod-eq_of_lt inside))
    placed j m (no not-below) =
        let k = j - (w - n) in
        let place : j ≡ (w - n) + k = omega arith in
        let round : j + n ≡ w + k = omega arith in
        ap (λ (i : ℕ). bit i (x % 2 ^ n * 2 ^ (w - n) + x / 2 ^ n)) place
        ∙ bit_high (w - n) k (x % 2 ^ n) (x / 2 ^ n) (shr_lt (w - n) n (subst (λ (v : ℕ). x < 2 ^ v) (sym (sub-add_cancel l)) h))
        ∙ bit_mod n k x (omega arith)
        ∙ ap (λ (i : ℕ). bit i x) (sym (ap (λ (i : ℕ). i % w) round ∙ add-mod_left w k ∙ mod-eq_of_lt (omega arith)))
