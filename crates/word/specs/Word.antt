-- Words: a word is a number, and its bits are counted from place 0, the lowest. Exclusive or is the library's own `bit_xor`.
-- proofs/ has a law on what each means bit by bit: `bit_word`, `bit-number`, `rotr-bits`, `xor_bits`.
-- Assumes nothing.
use Rattle.std.specs.Prelude.{List, [], ◌∷◌, map, ℕ, zero, suc, ◌+◌, ◌-◌, ◌*◌, ◌/◌, ◌%◌, ◌^◌, ◌<◌, length}

-- the bit at place j of x
unfoldable pub bit : ℕ → ℕ → ℕ
bit j x = x / 2 ^ j % 2

-- the number of w bits that has f j at place j
unfoldable pub word : ℕ → (ℕ → ℕ) → ℕ
word zero f = 0
word (suc w) f = f w * 2 ^ w + word w f

-- the number that a list of bits forms, the first on top
unfoldable pub number : List ℕ → ℕ
number [] = 0
number (b ∷ bs) = b * 2 ^ length bs + number bs

-- the number that the bits at place j of some words form, the first word's on top
unfoldable pub column : ℕ → List ℕ → ℕ
column j xs = number (map (bit j) xs)

-- a word of w bits rotated right by n places: its n lowest bits go on top
unfoldable pub rotr : ℕ → ℕ → ℕ → ℕ
rotr w n x = x / 2 ^ n + (x % 2 ^ n) * 2 ^ (w - n)

-- every number of a list is below m
abbrev pub Below : ℕ → List ℕ → Type 0
Below m [] = Unit {0}
Below m (x ∷ xs) = (x < m) × Below m xs
