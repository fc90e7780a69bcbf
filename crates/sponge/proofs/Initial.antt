-- The initial state of a mode: that its words, read as bytes, are the forty bytes of specs/Sponge.antt, for the reader; and that it is made by xoring the key in behind the
-- start word, as the code goes.
-- Assumes nothing.
use Rattle.std.proofs.Common.{◌≡◌, ℕ, ◌^◌, ◌<◌, ◌≤◌, List, [], ◌∷◌, ◌++◌, length, take, refl, ap, ◌∙◌, arith, length-take}
use lib.Bits.{bit_xor, xor_zero_r}
use Rattle.word.specs.Bytes.{bytes_from, xor_from, window, to_bytes, zeros_to}
use Rattle.word.proofs.Arrays.{cons_same}
use Rattle.word.proofs.Windows.{window_past, window-before, window-moved, xor_from-words}
use Rattle.word.proofs.Bytes.{Bytes, part_bytes, number-bytes, number_read}
use Rattle.state.proofs.Starts.{start-read, start_xored}
use Rattle.mode.specs.declared.Mode.{Mode}
use Rattle.mode.specs.Mode.{Row, row}
use Rattle.mode.proofs.Modes.{limits}
use Rattle.sponge.specs.Sponge.{initial}

pub initial-bytes : (w : Row) (key : List ℕ) → Bytes key → length (take w.key_length key) ≤ 32
    → bytes_from 0 40 (initial w key) ≡ zeros_to 40 (to_bytes 8 w.start_word ++ take w.key_length key)
unfolding initial to_bytes
initial-bytes w key bytes short =
    start-read (to_bytes 8 w.start_word) (take w.key_length key) refl short (number-bytes 8 w.start_word) (part_bytes w.key_length 0 key bytes)

-- what is taken of a key fits into the two words behind the start word
key_fits : (mode : Mode) (key : List ℕ) → length (take (row mode).key_length key) ≤ 16
key_fits mode key = omega (arith, length-take (row mode).key_length key, (limits mode).key)

-- a start word of 64 bits
module _ (mode : Mode) (key : List ℕ) (bytes : Bytes key) (fits : (row mode).start_word < 2 ^ 64) where
  abbrev value : List ℕ
  value = to_bytes 8 (row mode).start_word

  abbrev used : List ℕ
  used = take (row mode).key_length key

  initial_xored : initial (row mode) key ≡ xor_from 8 used ((row mode).start_word ∷ 0 ∷ 0 ∷ 0 ∷ 0 ∷ [])
  unfolding initial to_bytes
  initial_xored =
      start_xored value used refl (omega (arith, key_fits mode key)) (number-bytes 8 (row mode).start_word) (part_bytes (row mode).key_length 0 key bytes)
      ∙ ap (λ (x : ℕ). xor_from 8 used (x ∷ 0 ∷ 0 ∷ 0 ∷ 0 ∷ [])) (number_read 8 (row mode).start_word fits)

  -- written out: the words of the key begin behind the start word
  pub initial-words : initial (row mode) key ≡ (row mode).start_word ∷ window 0 used 0 ∷ window 0 used 1 ∷ 0 ∷ 0 ∷ []
  initial-words =
      initial_xored ∙ xor_from-words 5 used ((row mode).start_word ∷ 0 ∷ 0 ∷ 0 ∷ 0 ∷ []) 8 refl
      ∙ cons_same (ap (bit_xor (row mode).start_word) (window_past used 8 0 (omega arith)) ∙ xor_zero_r (row mode).start_word)
      (cons_same (window-moved used 1 0 0) (cons_same (window-moved used 1 0 1)
      (cons_same (window-before used 8 3 (omega (arith, key_fits mode key))) (cons_same (window-before used 8 4 (omega (arith, key_fits mode key))) refl))))
