-- What the program writes: a section for each mode, one for the short function and one for tags of all lengths, a line for each message and output.
-- Assumes nothing.
use Rattle.std.specs.Prelude.{List, [], ◌∷◌, ◌++◌, ℕ, take}
use Rattle.std.specs.List.{flat_map, range_with_len}
use Rattle.mode.specs.declared.Mode.{Mode}
use Rattle.mode.specs.declared.Mode.TheVariants.{Prf, Mac, Hash, Xof, HashA, XofA}
use Rattle.mode.specs.Mode.{row}
use Rattle.sponge.specs.Sponge.{one_shot}
use Rattle.prf_short.specs.Short.{prf_short}
use Rattle.script.specs.Text.{text, space, newline}
use Rattle.script.specs.Number.{decimal}
use Rattle.script.specs.Hex.{hex_of}
use Rattle.vectors.specs.Messages.{counting_from, lengths, tagged}

-- a line: a number, and an output in hexadecimal digits
unfoldable pub line : ℕ → List ℕ → List ℕ
line n output = decimal n ++ (space ∷ []) ++ hex_of output ++ (newline ∷ [])

-- a line of a mode: a number, and `count` bytes of output for a message, which is the first n bytes; the key is the first sixteen
unfoldable pub mode_line : List ℕ → Mode → ℕ → ℕ → ℕ → List ℕ
mode_line bytes mode count n number = line number (one_shot (row mode) (take 16 bytes) (take n bytes) count)

-- a line of the MAC: the lengths n of a message and t of its tag, and the tag
unfoldable pub tag_line : List ℕ → ℕ → ℕ → List ℕ
tag_line bytes n t = decimal n ++ (space ∷ []) ++ mode_line bytes (Mac t) t n t

-- a line of the short function: the lengths m of a message and t of an output, and the output
unfoldable pub short_line : List ℕ → ℕ → ℕ → List ℕ
short_line bytes m t = decimal m ++ (space ∷ []) ++ line t (prf_short (take 16 bytes) (take m bytes) t)

-- a line for each of these numbers
unfoldable pub lines : (ℕ → List ℕ) → List ℕ → List ℕ
lines line_of numbers = flat_map line_of numbers

-- a mode: a heading, and a line for each length of a message
unfoldable pub mode_section : List ℕ → List ℕ → Mode → ℕ → List ℕ
mode_section bytes heading mode count = heading ++ lines (λ (n : ℕ). mode_line bytes mode count n n) lengths

-- the short function: a heading, and for each message of 0 to 16 bytes a line for each length of an output, 1 to 16
unfoldable pub short_lines : List ℕ → ℕ → List ℕ
short_lines bytes m = lines (short_line bytes m) (range_with_len 1 16)

unfoldable pub short_section : List ℕ → List ℕ → List ℕ
short_section bytes heading = heading ++ lines (short_lines bytes) (range_with_len 0 17)

-- the MAC's tags: a heading, and for each of fifteen messages a line for each length of a tag, 8 to 16
unfoldable pub tag_lines : List ℕ → ℕ → List ℕ
tag_lines bytes n = lines (tag_line bytes n) (range_with_len 8 9)

unfoldable pub tag_section : List ℕ → List ℕ → List ℕ
tag_section bytes heading = heading ++ lines (tag_lines bytes) tagged

-- all modes, each under its name: first those that take no key, then those that take one
unfoldable pub mode_sections : List ℕ → List ℕ
mode_sections bytes =
    mode_section bytes (text "hash\n") Hash 32
    ++ mode_section bytes (text "xof\n") Xof 64
    ++ mode_section bytes (text "hasha\n") HashA 32
    ++ mode_section bytes (text "xofa\n") XofA 64
    ++ mode_section bytes (text "prf\n") Prf 64
    ++ mode_section bytes (text "mac\n") (Mac 16) 16

unfoldable pub vectors_of : List ℕ → List ℕ
vectors_of bytes = mode_sections bytes ++ short_section bytes (text "prf_short\n") ++ tag_section bytes (text "mac_lengths\n")

-- the messages are the first of 1,024 bytes that count up from 0
unfoldable pub vectors : List ℕ
vectors = vectors_of (counting_from 0 1024)
