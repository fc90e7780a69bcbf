-- Laws of decimal numbers, for the code that reads and writes them. 48 is `0`, and 57 is `9`.
-- Assumes nothing.
use mathlib.Core.Path.{◌≡◌, refl, sym, ◌∙◌}
use mathlib.Core.Bool.{Bool, true, false, cond, ◌&&◌}
use mathlib.Core.List.{List, [], ◌∷◌, ◌++◌}
use Prim.Native.Nat.{ℕ, zero, suc, ◌+◌, ◌-◌, ◌*◌, ◌/◌, ◌%◌, ◌^◌, ◌≤◌, ◌<◌}
use native.Mathlib.Nat.{pow-suc}
use native.Mathlib.Numerals.{add-one}
use native.Mathlib.Omega.{arith}
use lib.Dec.{leb, ltb}
use lib.ListN.{length, get_or, drop, drop_of_length-le}
use lib.Seq.{drop-cons}
use borrow.Author.Tests.{lt-ltb, le-ltb, le-leb, lt-leb}
use Rattle.std.specs.Prelude.{Option, Some, None}
use Rattle.script.specs.Number.{most_number, is_digit, all_digits, plain_start, value_from, is_number, number_of, spelled, decimal}

-- ---- reading digit by digit

pub digits_next : (s : List ℕ) (i : ℕ) → i < length s → all_digits (drop i s) ≡ is_digit (get_or s i 0) && all_digits (drop (i + 1) s)
unfolding all_digits
digits_next s i h = rw (add-one, drop-cons s i 0)

pub value-next : (v : ℕ) (s : List ℕ) (i : ℕ) → i < length s → value_from v (drop i s) ≡ value_from (v * 10 + (get_or s i 0 - 48)) (drop (i + 1) s)
unfolding value_from
value-next v s i h = rw (add-one, drop-cons s i 0)

pub digits_end : (s : List ℕ) (i : ℕ) → length s ≤ i → all_digits (drop i s) ≡ true
unfolding all_digits
digits_end s i h = rw (drop_of_length-le s h)

pub value-end : (v : ℕ) (s : List ℕ) (i : ℕ) → length s ≤ i → value_from v (drop i s) ≡ v
unfolding value_from
value-end v s i h = rw (drop_of_length-le s h)

pub is_digit_lem : (b : ℕ) → 48 ≤ b → b ≤ 57 → is_digit b ≡ true
unfolding is_digit
is_digit_lem b lo hi = simp (le-leb 48 b lo, le-leb b 57 hi)

pub too_low : (b : ℕ) → b < 48 → is_digit b ≡ false
unfolding is_digit
too_low b h = simp (lt-leb 48 b h)

pub too_high : (b : ℕ) → 57 < b → is_digit b ≡ false
unfolding is_digit
too_high b h = simp (le-leb 48 b (omega arith), lt-leb b 57 h)

pub value-least : (s : List ℕ) (v : ℕ) → v ≤ value_from v s
unfolding value_from
value-least [] v = omega arith
value-least (b ∷ s) v = omega (arith, value-least s (v * 10 + (b - 48)))

-- ---- a text is a number, or breaks one of three rules

-- the number that a text goes on to say where the digits before it spelled v
unfoldable pub number_from : ℕ → List ℕ → Option ℕ
number_from v s = cond (all_digits s && leb (value_from v s) most_number) (Some (value_from v s)) None

pub no-start : (s : List ℕ) → plain_start s ≡ false → number_of s ≡ None
unfolding number_of is_number
no-start s p = rw p

pub no_digits : (s : List ℕ) → plain_start s ≡ true → all_digits s ≡ false → number_of s ≡ None
unfolding number_of is_number
no_digits s p d = rw (p, d)

pub no_range : (s : List ℕ) → plain_start s ≡ true → most_number < value_from 0 s → number_of s ≡ None
unfolding number_of is_number
no_range s p v = rw (p, lt-leb (value_from 0 s) most_number v) (drops (all_digits s))
  where
    drops : (t : Bool) → cond (t && false) (Some (value_from 0 s)) None ≡ None
    drops true = refl
    drops false = refl

pub number-start : (s : List ℕ) → plain_start s ≡ true → number_of s ≡ number_from 0 s
unfolding number_of is_number number_from
number-start s p = rw p

pub number-digit : (v : ℕ) (s : List ℕ) (i : ℕ) → i < length s → 48 ≤ get_or s i 0 → get_or s i 0 ≤ 57
    → number_from v (drop i s) ≡ number_from (v * 10 + (get_or s i 0 - 48)) (drop (i + 1) s)
unfolding number_from
number-digit v s i h lo hi = rw (digits_next s i h, is_digit_lem _ lo hi, value-next v s i h)

pub number-low : (v : ℕ) (s : List ℕ) (i : ℕ) → i < length s → get_or s i 0 < 48 → number_from v (drop i s) ≡ None
unfolding number_from
number-low v s i h e = rw (digits_next s i h, too_low _ e)

pub number-high : (v : ℕ) (s : List ℕ) (i : ℕ) → i < length s → 57 < get_or s i 0 → number_from v (drop i s) ≡ None
unfolding number_from
number-high v s i h e = rw (digits_next s i h, too_high _ e)

pub number-large : (v : ℕ) (s : List ℕ) → most_number < v → number_from v s ≡ None
unfolding number_from
number-large v s h = rw (lt-leb (value_from v s) most_number (omega (arith, value-least s v))) (drops (all_digits s))
  where
    drops : (t : Bool) → cond (t && false) (Some (value_from v s)) None ≡ None
    drops true = refl
    drops false = refl

pub number-end : (v : ℕ) (s : List ℕ) (i : ℕ) → length s ≤ i → v ≤ most_number → number_from v (drop i s) ≡ Some v
unfolding number_from
number-end v s i h e = rw (digits_end s i h, value-end v s i h, le-leb v most_number e)

-- by these a text is read digit by digit
pub ruleset read = (no-start, number-start, number-digit, number-low, number-high, number-large, number-end)

pub a-number : (s : List ℕ) → plain_start s ≡ true → all_digits s ≡ true → value_from 0 s ≤ most_number → number_of s ≡ Some (value_from 0 s)
unfolding number_of is_number
a-number s p d v = rw (p, d, le-leb (value_from 0 s) most_number v)

-- ---- writing: the last digit stands behind the others

one_more : (t : Bool) (a b c : List ℕ) → b ≡ c → cond t a b ≡ cond t a c
one_more t a b c e = rw e

pub below_tenth : (n k : ℕ) → n < 10 ^ suc k → n / 10 < 10 ^ k
below_tenth n k h = omega (arith, pow-suc 10 k)

spelled-room : (k n : ℕ) (r : List ℕ) → n < 10 ^ suc k → spelled (suc (suc k)) n r ≡ spelled (suc k) n r
unfolding spelled
spelled-room zero n r h = simp (lt-ltb n 10 h)
spelled-room (suc k) n r h = one_more (ltb n 10) _ _ _ (spelled-room k (n / 10) _ (below_tenth n (suc k) h))

cond_append : (t : Bool) (a b d : List ℕ) → cond t (a ++ d) (b ++ d) ≡ cond t a b ++ d
cond_append true a b d = refl
cond_append false a b d = refl

spelled_append : (k n : ℕ) (r t : List ℕ) → spelled k n (r ++ t) ≡ spelled k n r ++ t
unfolding spelled
spelled_append zero n r t = refl
spelled_append (suc k) n r t =
    one_more (ltb n 10) _ _ _ (spelled_append k (n / 10) ((48 + n % 10) ∷ r) t)
    ∙ cond_append (ltb n 10) ((48 + n) ∷ r) (spelled k (n / 10) ((48 + n % 10) ∷ r)) t

pub decimal-small : (n : ℕ) → n < 10 → decimal n ≡ (48 + n) ∷ []
unfolding decimal spelled
decimal-small n h = simp (lt-ltb n 10 h)

spelled-more : (n : ℕ) → 10 ≤ n → spelled 20 n [] ≡ spelled 19 (n / 10) ((48 + n % 10) ∷ [])
unfolding spelled
spelled-more n h = simp (le-ltb n 10 h)

pub decimal-more : (n : ℕ) → 10 ≤ n → n < 2 ^ 64 → decimal n ≡ decimal (n / 10) ++ ((48 + n % 10) ∷ [])
unfolding decimal
decimal-more n h b =
    spelled-more n h
    ∙ sym (spelled-room 18 (n / 10) ((48 + n % 10) ∷ []) (omega arith))
    ∙ spelled_append 20 (n / 10) [] ((48 + n % 10) ∷ [])

-- by these a number is written digit by digit
pub ruleset digits = (decimal-small, decimal-more)
