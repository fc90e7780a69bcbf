-- How a state starts, in the sponge and in the short function: a value of eight bytes, then others, then zeros up to forty. Made words, the value is the first one,
-- and the others are xored in behind it.
-- Assumes nothing.
use mathlib.Core.Path.{◌≡◌, refl, sym, ◌∙◌}
use mathlib.Core.List.{List, [], ◌∷◌, ◌++◌}
use Prim.Native.Nat.{ℕ, ◌+◌, ◌-◌, ◌*◌, ◌≤◌}
use native.Mathlib.Omega.{arith}
use lib.ListN.{length, replicate, length-append, length-replicate}
use lib.Seq.{take_at, drop_at}
use Rattle.word.specs.Bytes.{bytes_from, xor_from, from_bytes, words_of, zeros_to}
use Rattle.word.proofs.Bytes.{Bytes, append_bytes, zero-bytes, xor_from_append, xor_from-zeros}
use Rattle.word.proofs.Windows.{words_xored}
use Rattle.word.proofs.Xored.{words-read}

module _ (value rest : List ℕ) (eight : length value ≡ 8) (short : length rest ≤ 32) (bytes : Bytes value) (bytes' : Bytes rest) where
  abbrev forty : List ℕ
  forty = zeros_to 40 (value ++ rest)

  length-forty : length forty ≡ 8 * 5
  unfolding zeros_to
  length-forty = simp (length-append, length-replicate) (omega arith)

  all-bytes : Bytes forty
  unfolding zeros_to
  all-bytes =
      append_bytes (value ++ rest) (replicate (40 - length (value ++ rest)) 0) (append_bytes value rest bytes bytes')
      (zero-bytes (40 - length (value ++ rest)))

  -- the words, read as bytes, are the forty
  pub start-read : bytes_from 0 40 (words_of 5 forty) ≡ forty
  start-read = words-read 5 forty all-bytes length-forty

  -- the value alone
  value-word : xor_from 0 value (replicate 5 0) ≡ from_bytes value ∷ 0 ∷ 0 ∷ 0 ∷ 0 ∷ []
  unfolding words_of from_bytes
  value-word =
      let filled : words_of 5 (value ++ replicate 32 0) ≡ xor_from 0 (value ++ replicate 32 0) (replicate 5 0) =
      words_xored 5 (value ++ replicate 32 0) (append_bytes value (replicate 32 0) bytes (zero-bytes 32)) (simp (length-append) (omega arith)) in
      sym (filled ∙ xor_from_append value (replicate 32 0) 0 (replicate 5 0) ∙ xor_from-zeros 32 (0 + length value) (xor_from 0 value (replicate 5 0)))
      ∙ rw (take_at value (replicate 32 0) 8 eight, drop_at value (replicate 32 0) 8 eight) refl

  pub start_xored : words_of 5 forty ≡ xor_from 8 rest (from_bytes value ∷ 0 ∷ 0 ∷ 0 ∷ 0 ∷ [])
  unfolding zeros_to
  start_xored =
      words_xored 5 forty all-bytes length-forty
      ∙ xor_from_append (value ++ rest) (replicate (40 - length (value ++ rest)) 0) 0 (replicate 5 0)
      ∙ xor_from-zeros (40 - length (value ++ rest)) (0 + length (value ++ rest)) (xor_from 0 (value ++ rest) (replicate 5 0))
      ∙ xor_from_append value rest 0 (replicate 5 0)
      ∙ rw (value-word, eight)
