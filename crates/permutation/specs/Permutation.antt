-- The Ascon permutation: document 01, "Five words, twelve rounds". A state is the list of its five words, x0 first (specs/State.antt).
-- The names of section 3 of "Ascon PRF, MAC, and Short-Input MAC" (source document 003) stand in brackets.
-- Assumes nothing.
use Rattle.std.specs.Prelude.{List, [], ◌∷◌, map, ℕ, zero, suc, ◌-◌, ◌*◌, min, get_or}
use Rattle.std.specs.Int.Bits.{bit_xor}
use Rattle.word.specs.Word.{bit, word, column, rotr}

-- word i of a state
abbrev pub at : List ℕ → ℕ → ℕ
at s i = get_or s i 0

-- ---- the constant [p_C]

-- f0, e1, .. 4b for the rounds 0 to 11
abbrev pub round_constant : ℕ → ℕ
round_constant i = 240 - 15 * i

-- round i's constant goes into x2
unfoldable pub add_constant : ℕ → List ℕ → List ℕ
add_constant i s = at s 0 ∷ at s 1 ∷ bit_xor (at s 2) (round_constant i) ∷ at s 3 ∷ at s 4 ∷ []

-- ---- the substitution layer [p_S]

-- S(0), S(1), .. S(1f)
abbrev pub table : List ℕ
table =
    0x4 ∷ 0xb ∷ 0x1f ∷ 0x14 ∷ 0x1a ∷ 0x15 ∷ 0x9 ∷ 0x2 ∷ 0x1b ∷ 0x5 ∷ 0x8 ∷ 0x12 ∷ 0x1d ∷ 0x3 ∷ 0x6 ∷ 0x1c
    ∷ 0x1e ∷ 0x13 ∷ 0x7 ∷ 0xe ∷ 0x0 ∷ 0xd ∷ 0x11 ∷ 0x18 ∷ 0x10 ∷ 0xc ∷ 0x1 ∷ 0x19 ∷ 0x16 ∷ 0xa ∷ 0xf ∷ 0x17 ∷ []

unfoldable pub sbox : ℕ → ℕ
sbox n = get_or table n 0

-- f on the column of every bit place: the words that bits 4 to 0 of the results make, so that bit 4 is x0's
unfoldable pub at_every_place : (ℕ → ℕ) → List ℕ → List ℕ
at_every_place f s = map (λ b. word 64 (λ j. bit b (f (column j s)))) (4 ∷ 3 ∷ 2 ∷ 1 ∷ 0 ∷ [])

unfoldable pub substitute : List ℕ → List ℕ
substitute s = at_every_place sbox s

-- ---- the linear layer [p_L]

-- x ⊕ (x ⋙ m) ⊕ (x ⋙ n)
unfoldable pub mix : ℕ → ℕ → ℕ → ℕ
mix m n x = bit_xor (bit_xor x (rotr 64 m x)) (rotr 64 n x)

unfoldable pub diffuse : List ℕ → List ℕ
diffuse s = mix 19 28 (at s 0) ∷ mix 61 39 (at s 1) ∷ mix 1 6 (at s 2) ∷ mix 10 17 (at s 3) ∷ mix 7 41 (at s 4) ∷ []

-- ---- rounds

-- round i [p]
unfoldable pub round : ℕ → List ℕ → List ℕ
round i s = diffuse (substitute (add_constant i s))

-- the last n of the twelve rounds, n up to 12: round 12 - n, and the last n - 1 after it
abbrev pub last_rounds : ℕ → List ℕ → List ℕ
last_rounds zero s = s
last_rounds (suc n) s = last_rounds n (round (12 - suc n) s)

-- n rounds: the last n of the twelve, as the slides "ASCON" (source document 001) have it for their p^b. More than twelve means all twelve [p^12]
unfoldable pub permute : ℕ → List ℕ → List ℕ
permute n s = last_rounds (min n 12) s
