-- A start word says again what stands in its row, as the papers have it: "Ascon PRF, MAC, and Short-Input MAC" (source document 003) joins k ∥ r ∥ 2^7 + a ∥ 0^8 ∥ t,
-- "Additional Modes for Ascon" (source document 004) 0^8 ∥ r ∥ a ∥ a - b ∥ L, with lengths in bits. Where the output may have any length, t and L are 0.
-- Assumes nothing.
use Rattle.std.specs.Prelude.{Option, Some, None}
use mathlib.Core.List.{[], ◌∷◌, map}
use mathlib.Core.Path.{◌≡◌, refl}
use Prim.Native.Nat.{ℕ, ◌+◌, ◌-◌, ◌*◌, ◌^◌}
use Rattle.mode.specs.declared.Mode.{Mode}
use Rattle.mode.specs.declared.Mode.TheVariants.{Prf, Mac, Hash, Xof, HashA, XofA}
use Rattle.mode.specs.Mode.{outer_rounds, Row, row, named}

-- the rounds as the third byte has them, and the length of the output
abbrev encoded : Row → ℕ → ℕ → ℕ
encoded w rounds output = 8 * w.key_length * 2 ^ 56 + 8 * w.draw_rate * 2 ^ 48 + rounds * 2 ^ 40 + (outer_rounds - w.inner_rounds) * 2 ^ 32 + output

pub start-words :
    ((row Prf).start_word ≡ encoded (row Prf) (128 + outer_rounds) 0)
    × ((length : ℕ) → (row (Mac length)).start_word ≡ encoded (row (Mac length)) (128 + outer_rounds) (8 * (row (Mac length)).most_drawn))
    × ((row Hash).start_word ≡ encoded (row Hash) outer_rounds (8 * (row Hash).most_drawn))
    × ((row Xof).start_word ≡ encoded (row Xof) outer_rounds 0)
    × ((row HashA).start_word ≡ encoded (row HashA) outer_rounds (8 * (row HashA).most_drawn))
    × ((row XofA).start_word ≡ encoded (row XofA) outer_rounds 0)
start-words = (refl, (λ length. refl), refl, refl, refl, refl)

-- the start word of the mode that is named, or 0
abbrev start_named : Option Mode → ℕ
start_named (Some mode) = (row mode).start_word
start_named None = 0

-- by the numbers, 0 to 7, with a tag length of 16: in all but start word and rounds modes 3 and 5 are alike, and 4 and 6
pub numbered-start-words : map (λ (n : ℕ). start_named (named n 16)) (0 ∷ 1 ∷ 2 ∷ 3 ∷ 4 ∷ 5 ∷ 6 ∷ 7 ∷ [])
    ≡ 0
    ∷ 0x8080_8c00_0000_0000
    ∷ 0x8080_8c00_0000_0080
    ∷ 0x0040_0c00_0000_0100
    ∷ 0x0040_0c00_0000_0000
    ∷ 0x0040_0c04_0000_0100
    ∷ 0x0040_0c04_0000_0000
    ∷ 0
    ∷ []
unfolding named
numbered-start-words = refl

-- mode 2 with each tag length, 8 to 16: the low byte is the length in bits
pub tag-start-words : map (λ (length : ℕ). start_named (named 2 length)) (8 ∷ 9 ∷ 10 ∷ 11 ∷ 12 ∷ 13 ∷ 14 ∷ 15 ∷ 16 ∷ [])
    ≡ 0x8080_8c00_0000_0040
    ∷ 0x8080_8c00_0000_0048
    ∷ 0x8080_8c00_0000_0050
    ∷ 0x8080_8c00_0000_0058
    ∷ 0x8080_8c00_0000_0060
    ∷ 0x8080_8c00_0000_0068
    ∷ 0x8080_8c00_0000_0070
    ∷ 0x8080_8c00_0000_0078
    ∷ 0x8080_8c00_0000_0080
    ∷ []
unfolding named
tag-start-words = refl
