-- Whole words of a list of bytes, of which `xor_words` takes no others; all else that this crate promises is in crate word's definitions of bytes.
-- Assumes nothing.
use Rattle.std.specs.Prelude.{List, ℕ, ◌*◌, ◌/◌, length, take}

-- bytes without those after the last whole word of eight
abbrev pub whole_words : List ℕ → List ℕ
whole_words bytes = take (8 * (length bytes / 8)) bytes
