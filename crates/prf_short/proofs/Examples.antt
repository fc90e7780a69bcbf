-- One output of the short function, which the checker computes.
-- Assumes nothing.
use mathlib.Core.List.{[], ◌∷◌}
use mathlib.Core.Path.{◌≡◌, refl}
use Rattle.word.specs.Word.{bit, word, number, column, rotr}
use Rattle.word.specs.Bytes.{weight, byte_at, bytes_from, xor_bytes, from_bytes, words_of, zeros_to}
use Rattle.permutation.specs.Permutation.{add_constant, sbox, at_every_place, substitute, mix, diffuse, round, permute}
use Rattle.prf_short.specs.Short.{last_bytes, start_value, start, ended, prf_short}

-- five bytes for a message of three: neither the message nor the output is as long as it may be, so that each part of the start and both ends count
pub known-output : prf_short (0 ∷ 1 ∷ 2 ∷ 3 ∷ 4 ∷ 5 ∷ 6 ∷ 7 ∷ 8 ∷ 9 ∷ 10 ∷ 11 ∷ 12 ∷ 13 ∷ 14 ∷ 15 ∷ []) (0 ∷ 1 ∷ 2 ∷ []) 5
    ≡ 0x21 ∷ 0xfc ∷ 0x4a ∷ 0x61 ∷ 0x21 ∷ []
unfolding bit word number column rotr weight byte_at bytes_from xor_bytes from_bytes words_of add_constant sbox at_every_place substitute mix diffuse round permute zeros_to last_bytes start_value start ended prf_short
known-output = refl
