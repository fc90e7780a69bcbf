-- Examples of frames that the checker computes: a sealed frame, and runs.
-- Assumes nothing.
use mathlib.Core.List.{[], ◌∷◌}
use mathlib.Core.Path.{◌≡◌, refl}
use Rattle.word.specs.Word.{bit, word, number, column, rotr}
use Rattle.word.specs.Bytes.{weight, byte_at, bytes_from, xor_word, xor_at, xor_from, from_bytes, to_bytes, words_of, zeros_to}
use Rattle.permutation.specs.Permutation.{add_constant, sbox, at_every_place, substitute, mix, diffuse, round, permute}
use Rattle.checks.specs.Buffers.{written}
use Rattle.sponge.specs.Sponge.{ceiling, initial, start, pad, cut, blocks, flip_if, absorb_blocks, absorb_message, squeeze_blocks, squeeze_bytes, output, one_shot}
use Rattle.frame.specs.Frame.{tag_for, frame_checks, frame_runs, seal_after}

-- a body of three bytes, room for the tag, and a byte after it: the tag is the MAC's, and the other bytes stay
pub sealed-frame : seal_after (0 ∷ 1 ∷ 2 ∷ 3 ∷ 4 ∷ 5 ∷ 6 ∷ 7 ∷ 8 ∷ 9 ∷ 10 ∷ 11 ∷ 12 ∷ 13 ∷ 14 ∷ 15 ∷ [])
    (0 ∷ 1 ∷ 2 ∷ 7 ∷ 7 ∷ 7 ∷ 7 ∷ 7 ∷ 7 ∷ 7 ∷ 7 ∷ 7 ∷ 7 ∷ 7 ∷ 7 ∷ 7 ∷ 7 ∷ 7 ∷ 7 ∷ 0xaa ∷ []) 3
    ≡ 0 ∷ 1 ∷ 2
    ∷ 0x10 ∷ 0xc2 ∷ 0xe8 ∷ 0xab ∷ 0xe5 ∷ 0x9c ∷ 0x69 ∷ 0x3f ∷ 0x7f ∷ 0x4a ∷ 0x84 ∷ 0x7a ∷ 0xc1 ∷ 0x9a ∷ 0x67 ∷ 0x5c
    ∷ 0xaa ∷ []
unfolding bit word number column rotr weight byte_at bytes_from xor_word xor_at xor_from add_constant sbox at_every_place substitute mix diffuse round permute written ceiling initial from_bytes to_bytes words_of zeros_to start pad cut blocks flip_if absorb_blocks absorb_message squeeze_blocks squeeze_bytes output one_shot tag_for frame_checks seal_after
sealed-frame = refl

pub runs : (frame_runs 0 ≡ 2) × (frame_runs 31 ≡ 2) × (frame_runs 32 ≡ 3) × (frame_runs 16777217 ≡ 524290)
unfolding frame_runs
runs = (refl, refl, refl, refl)
