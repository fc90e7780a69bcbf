-- Decimal numbers, written and read: no leading zero, 0 itself as `0`, at most 4,294,967,295.
-- Assumes nothing.
use Rattle.std.specs.Prelude.{Bool, true, false, cond, ◌&&◌, not, List, [], ◌∷◌, ℕ, zero, suc, ◌+◌, ◌-◌, ◌*◌, ◌/◌, ◌%◌, eqb, leb, ltb, Option, Some, None}
use Prim.Native.Char.{code}

abbrev pub most_number : ℕ
most_number = 4294967295

-- ---- reading

unfoldable pub is_digit : ℕ → Bool
is_digit b = leb (code "0") b && leb b (code "9")

unfoldable pub all_digits : List ℕ → Bool
all_digits [] = true
all_digits (b ∷ s) = is_digit b && all_digits s

-- not empty, and no zero in front of other digits
unfoldable pub plain_start : List ℕ → Bool
plain_start [] = false
plain_start (b ∷ []) = true
plain_start (b ∷ c ∷ s) = not (eqb b (code "0"))

-- the number that the digits of s go on to spell where those before them spelled v
unfoldable pub value_from : ℕ → List ℕ → ℕ
value_from v [] = v
value_from v (b ∷ s) = value_from (v * 10 + (b - code "0")) s

unfoldable pub is_number : List ℕ → Bool
is_number s = plain_start s && (all_digits s && leb (value_from 0 s) most_number)

unfoldable pub number_of : List ℕ → Option ℕ
number_of s = cond (is_number s) (Some (value_from 0 s)) None

-- ---- writing

-- the digits of n, at most k of them, and then rest
unfoldable pub spelled : ℕ → ℕ → List ℕ → List ℕ
spelled zero n rest = rest
spelled (suc k) n rest = cond (ltb n 10) ((code "0" + n) ∷ rest) (spelled k (n / 10) ((code "0" + n % 10) ∷ rest))

-- a number below 2 ^ 64, which has at most 20 digits
unfoldable pub decimal : ℕ → List ℕ
decimal n = spelled 20 n []
