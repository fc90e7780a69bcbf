-- One output of each mode, which the checker computes. Of the PRF, the hash and the XOF: of a message that fills a block, so that a block of padding follows it, and
-- with a byte more than a block of output has. Of the MAC: of 40 bytes, more than one block, so that another feed rate gives another tag. Of the lighter hash and XOF:
-- of more than two blocks, with more than two blocks of output, so that another number of rounds in any run gives another output. The theorem on streaming holds for
-- any row; these hold the rows of the table. Each begins a line of crates/vectors/stdout. Then tags of two lengths.
-- Assumes nothing.
use Rattle.std.proofs.Common.{◌≡◌, ℕ, ◌≢◌, List, [], ◌∷◌, ◌++◌, get_or, take, sym, refl, ap, ◌∙◌, arith}
use Rattle.word.specs.Word.{bit, word, number, column, rotr}
use Rattle.word.specs.Bytes.{weight, byte_at, bytes_from, xor_word, xor_at, xor_from, from_bytes, to_bytes, words_of, zeros_to}
use Rattle.permutation.specs.Permutation.{add_constant, sbox, at_every_place, substitute, mix, diffuse, round, permute}
use Rattle.mode.specs.declared.Mode.TheVariants.{Prf, Mac, Hash, Xof, HashA, XofA}
use Rattle.mode.specs.Mode.{row}
use Rattle.sponge.specs.Sponge.{
  ceiling,
  initial,
  start,
  pad,
  cut,
  blocks,
  flip_if,
  absorb_blocks,
  absorb_message,
  squeeze_blocks,
  squeeze_bytes,
  output,
  one_shot,
}

-- the bytes 00 to 07, 00 to 0f, 00 to 13, 00 to 1f, 00 to 20 and 00 to 27
abbrev eight : List ℕ
eight = 0 ∷ 1 ∷ 2 ∷ 3 ∷ 4 ∷ 5 ∷ 6 ∷ 7 ∷ []

abbrev sixteen : List ℕ
sixteen = eight ++ 8 ∷ 9 ∷ 10 ∷ 11 ∷ 12 ∷ 13 ∷ 14 ∷ 15 ∷ []

abbrev twenty : List ℕ
twenty = sixteen ++ 16 ∷ 17 ∷ 18 ∷ 19 ∷ []

abbrev thirty_two : List ℕ
thirty_two = twenty ++ 20 ∷ 21 ∷ 22 ∷ 23 ∷ 24 ∷ 25 ∷ 26 ∷ 27 ∷ 28 ∷ 29 ∷ 30 ∷ 31 ∷ []

abbrev thirty_three : List ℕ
thirty_three = thirty_two ++ 32 ∷ []

abbrev forty : List ℕ
forty = thirty_two ++ 32 ∷ 33 ∷ 34 ∷ 35 ∷ 36 ∷ 37 ∷ 38 ∷ 39 ∷ []

pub known_outputs :
    (one_shot (row Prf) sixteen thirty_two 17
    ≡ 0x56 ∷ 0x74 ∷ 0x45 ∷ 0x5f ∷ 0x29 ∷ 0x41 ∷ 0x6f ∷ 0x50 ∷ 0x81 ∷ 0xd0 ∷ 0x5e ∷ 0xe3 ∷ 0xc3 ∷ 0x1e ∷ 0x28 ∷ 0x6b ∷ 0xdc ∷ [])
    × (one_shot (row (Mac 16)) sixteen forty 16
    ≡ 0x47 ∷ 0x6e ∷ 0xae ∷ 0xc5 ∷ 0xac ∷ 0x60 ∷ 0x84 ∷ 0x97 ∷ 0x65 ∷ 0x01 ∷ 0x44 ∷ 0x6e ∷ 0xaf ∷ 0x61 ∷ 0x80 ∷ 0xb5 ∷ [])
    × (one_shot (row Hash) [] eight 9 ≡ 0xf4 ∷ 0xc6 ∷ 0xa4 ∷ 0x4b ∷ 0x29 ∷ 0x91 ∷ 0x5d ∷ 0x3d ∷ 0x57 ∷ [])
    × (one_shot (row Xof) [] eight 9 ≡ 0x18 ∷ 0x42 ∷ 0x7d ∷ 0x2d ∷ 0x29 ∷ 0xdf ∷ 0x1e ∷ 0x02 ∷ 0x02 ∷ [])
    × (one_shot (row HashA) [] twenty 20
    ≡ 0xee ∷ 0xd9 ∷ 0x2d ∷ 0x43 ∷ 0x7e ∷ 0x8d ∷ 0x53 ∷ 0x44 ∷ 0xd3 ∷ 0xa8 ∷ 0x90 ∷ 0xcd ∷ 0x2b ∷ 0x43 ∷ 0xb0 ∷ 0x66 ∷ 0x01 ∷ 0x68 ∷ 0xe4 ∷ 0x8d ∷ [])
    × (one_shot (row XofA) [] twenty 20
    ≡ 0x76 ∷ 0xc1 ∷ 0x1d ∷ 0x67 ∷ 0x1c ∷ 0x96 ∷ 0x57 ∷ 0x5f ∷ 0x05 ∷ 0xe3 ∷ 0xc3 ∷ 0xc6 ∷ 0xe7 ∷ 0x64 ∷ 0x8b ∷ 0x2b ∷ 0xbd ∷ 0x40 ∷ 0x3a ∷ 0x90 ∷ [])
unfolding bit word number column rotr weight byte_at bytes_from xor_word xor_at xor_from from_bytes to_bytes words_of zeros_to add_constant sbox at_every_place substitute mix diffuse round permute ceiling initial start pad cut blocks flip_if absorb_blocks absorb_message squeeze_blocks squeeze_bytes output one_shot
known_outputs = (refl, refl, refl, refl, refl, refl)

-- ---- tags of another length

abbrev short_tag : List ℕ
short_tag = 0xf1 ∷ 0xc5 ∷ 0x24 ∷ 0x51 ∷ 0xad ∷ 0x89 ∷ 0xe9 ∷ 0xa2 ∷ []

abbrev long_tag : List ℕ
long_tag = 0xfb ∷ 0xbf ∷ 0xa4 ∷ 0x7c ∷ 0x93 ∷ 0x64 ∷ 0x49 ∷ 0x9b ∷ 0x95 ∷ 0x26 ∷ 0xf4 ∷ 0xcd ∷ 0x0d ∷ 0x94 ∷ 0xf9 ∷ 0xe4 ∷ []

-- the MAC with tags of 8 bytes and the one with tags of 16, of the same message under the same key
pub known-tags : (one_shot (row (Mac 8)) sixteen thirty_three 8 ≡ short_tag) × (one_shot (row (Mac 16)) sixteen thirty_three 16 ≡ long_tag)
unfolding bit word number column rotr weight byte_at bytes_from xor_word xor_at xor_from from_bytes to_bytes words_of zeros_to add_constant sbox at_every_place substitute mix diffuse round permute ceiling initial start pad cut blocks flip_if absorb_blocks absorb_message squeeze_blocks squeeze_bytes output one_shot
known-tags = (refl, refl)

-- the short one is not the long one cut: not even the first byte is
pub no_cut-tag : one_shot (row (Mac 8)) sixteen thirty_three 8 ≢ take 8 (one_shot (row (Mac 16)) sixteen thirty_three 16)
no_cut-tag e = absurd (omega (arith, ap (λ (l : List ℕ). get_or l 0 0) (sym known-tags.0 ∙ e ∙ ap (take 8) known-tags.1)))
