-- Document 01's "Twelve checked examples", as one statement about the definitions that the promises and the theorems cite. proofs/Examples.antt proves it.
-- Assumes nothing.
use Rattle.std.specs.Prelude.{◌≡◌, false, List, [], ◌∷◌, map, ℕ}
use Rattle.word.specs.Bytes.{from_bytes}
use Rattle.permutation.specs.Permutation.{at, sbox, diffuse}
use Rattle.mode.specs.declared.Mode.TheVariants.{Prf, Hash}
use Rattle.mode.specs.Mode.{row}
use Rattle.sponge.specs.Sponge.{start, pad, blocks}
use Rattle.prf_short.specs.Short.{start_word}
use Rattle.calls.specs.Machine.{formula}

-- the hash's blocks of a message, each as the word that its eight bytes make
abbrev pub hash_blocks : List ℕ → List ℕ
hash_blocks message = map from_bytes (blocks (row Hash).feed_rate (pad (row Hash).feed_rate message))

pub record TwelveExamples : Type 0 where
  -- S(0) and S(1f)
  pub sbox-first : sbox 0 ≡ 0x4
  pub sbox-last : sbox 0x1f ≡ 0x17
  -- the rotations on x0 = 1 and on x2 = 1, the other words being 0
  pub rotated_x0 : at (diffuse (1 ∷ 0 ∷ 0 ∷ 0 ∷ 0 ∷ [])) 0 ≡ 0x0000_2010_0000_0001
  pub rotated_x2 : at (diffuse (0 ∷ 0 ∷ 1 ∷ 0 ∷ 0 ∷ [])) 2 ≡ 0x8400_0000_0000_0001
  -- the short function's start word, for a message of 0 bytes and an output of 16, and for 1 and 8
  pub short_0_16 : start_word 0 16 ≡ 0x8000_4c80_0000_0000
  pub short_1_8 : start_word 1 8 ≡ 0x8008_4c40_0000_0000
  -- the hash's blocks of the bytes 01 to 07, and of 01 to 08
  pub blocks_of_7 : hash_blocks (1 ∷ 2 ∷ 3 ∷ 4 ∷ 5 ∷ 6 ∷ 7 ∷ []) ≡ 0x0102_0304_0506_0780 ∷ []
  pub blocks_of_8 : hash_blocks (1 ∷ 2 ∷ 3 ∷ 4 ∷ 5 ∷ 6 ∷ 7 ∷ 8 ∷ []) ≡ 0x0102_0304_0506_0708 ∷ 0x8000_0000_0000_0000 ∷ []
  -- the runs once feeding has ended: of the PRF, under any key, for n = 31 and d = 16, and for n = 32 and d = 17; of the hash for n = 8 and d = 32
  pub prf_runs_31_16 : (key : List ℕ) → formula Prf key false 31 16 ≡ 2
  pub prf_runs_32_17 : (key : List ℕ) → formula Prf key false 32 17 ≡ 4
  pub hash_runs_8_32 : formula Hash [] false 8 32 ≡ 6
  -- the hash's state after its first run
  pub hash_start : (start (row Hash) []).state
      ≡ 0xee93_98aa_db67_f03d ∷ 0x8bb2_1831_c60f_1002 ∷ 0xb48a_92db_98d5_da62 ∷ 0x4318_9921_b8f8_e3e8 ∷ 0x348f_a5c9_d525_e140 ∷ []
