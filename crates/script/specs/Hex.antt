-- Bytes as pairs of lower-case hexadecimal digits, `-` for none.
-- Assumes nothing.
use Rattle.std.specs.Prelude.{Bool, true, false, cond, ◌&&◌, List, [], ◌∷◌, ℕ, ◌+◌, ◌-◌, ◌*◌, ◌/◌, ◌%◌, leb, ltb}
use Prim.Native.Char.{code}
use Rattle.script.specs.Text.{dash}

-- the value of a digit, `0` to `9` and `a` to `f`; 16 for any other byte
unfoldable pub nibble : ℕ → ℕ
nibble b =
    cond (leb (code "0") b && leb b (code "9")) (b - code "0")
    (cond (leb (code "a") b && leb b (code "f")) (b - code "a" + 10) 16)

-- the digit of a value below 16
unfoldable pub digit_of : ℕ → ℕ
digit_of n = cond (ltb n 10) (code "0" + n) (code "a" + (n - 10))

-- pairs of digits, and nothing left over
unfoldable pub hex_pairs : List ℕ → Bool
hex_pairs [] = true
hex_pairs (h ∷ []) = false
hex_pairs (h ∷ l ∷ s) = ltb (nibble h) 16 && (ltb (nibble l) 16 && hex_pairs s)

-- the bytes that pairs of digits stand for
unfoldable pub decoded : List ℕ → List ℕ
decoded [] = []
decoded (h ∷ []) = []
decoded (h ∷ l ∷ s) = (nibble h * 16 + nibble l) ∷ decoded s

-- bytes as pairs of digits
unfoldable pub hex_of : List ℕ → List ℕ
hex_of [] = []
hex_of (b ∷ bs) = digit_of (b / 16) ∷ digit_of (b % 16) ∷ hex_of bs

-- bytes as a field of a line
unfoldable pub bytes_text : List ℕ → List ℕ
bytes_text [] = dash ∷ []
bytes_text (b ∷ bs) = hex_of (b ∷ bs)
