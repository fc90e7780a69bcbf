-- The short function by words, as the code goes: the start word, two words of the key and two of the message; and the key's words xored into the last two of
-- the state.
-- Assumes nothing.
use mathlib.Core.Path.{◌≡◌, refl, sym, ap, ◌∙◌}
use mathlib.Core.List.{List, [], ◌∷◌, ◌++◌}
use Prim.Native.Nat.{ℕ, zero, suc, ◌+◌, ◌-◌, ◌≤◌, ◌<◌}
use native.Mathlib.Omega.{arith}
use borrow.Author.Tests.{le-leb}
use lib.ListN.{length, get_or, drop, length-append, length-drop}
use lib.Seq.{ext_get_or, get_or-drop}
use lib.Bits.{bit_xor, xor_zero_r}
use Rattle.word.specs.Bytes.{bytes_from, xor_from, xor_bytes, window, words_of}
use Rattle.word.proofs.Arrays.{written_out, cons_same}
use Rattle.word.proofs.Bytes.{Bytes, append_bytes, zero-bytes, xor_from_append, length-bytes_from, bytes_from-at}
use Rattle.word.proofs.Windows.{window_past, window-before, window-moved, length-xor_from, word-xor_from}
use Rattle.word.proofs.Xored.{xored_from, length-xor_bytes, xor_bytes-at}
use Rattle.state.proofs.Starts.{start-read as read-start, start_xored}
use Rattle.prf_short.specs.Short.{last_bytes, start_value, start_word, start}

-- ---- the start

module _ (m t : ℕ) (few : m ≤ 16) (short : t ≤ 16) where
  value-bytes : Bytes (start_value m t)
  unfolding start_value
  value-bytes zero = omega arith
  value-bytes (suc zero) = omega arith
  value-bytes (suc (suc zero)) = omega arith
  value-bytes (suc (suc (suc zero))) = omega arith
  value-bytes (suc (suc (suc (suc i)))) = zero-bytes 4 i

module _ (key message : List ℕ) (t : ℕ) (bytes : Bytes key) (bytes' : Bytes message) (n : length key ≡ 16) (few : length message ≤ 16) (short : t ≤ 16) where
  abbrev rest : List ℕ
  rest = key ++ message

  length_rest : length rest ≤ 32
  length_rest = simp (length-append) (omega arith)

  rest-bytes : Bytes rest
  rest-bytes = append_bytes key message bytes bytes'

  -- the words that the permutation gets, read as bytes, are the forty bytes of the start
  pub start-read : bytes_from 0 40 (words_of 5 (start key message t)) ≡ start key message t
  unfolding start start_value
  start-read = read-start (start_value (length message) t) rest refl length_rest (value-bytes (length message) t few short) rest-bytes

  abbrev unkeyed : List ℕ
  unkeyed = start_word (length message) t ∷ 0 ∷ 0 ∷ 0 ∷ 0 ∷ []

  -- the same words: the start word and zeros, with the key and the message xored in
  xored_in : xor_from 24 message (xor_from 8 key unkeyed) ≡ words_of 5 (start key message t)
  unfolding start start_value
  xored_in =
      sym (start_xored (start_value (length message) t) rest refl length_rest (value-bytes (length message) t few short) rest-bytes
      ∙ xor_from_append key message 8 unkeyed
      ∙ rw n)

  word_at : (j : ℕ) → j < 5 → get_or (xor_from 24 message (xor_from 8 key unkeyed)) j 0 ≡ bit_xor (bit_xor (get_or unkeyed j 0) (window 8 key j)) (window 24 message j)
  word_at j l =
      word-xor_from message (xor_from 8 key unkeyed) 24 j (rw (length-xor_from key unkeyed 8) l)
      ∙ ap (λ (x : ℕ). bit_xor x (window 24 message j)) (word-xor_from key unkeyed 8 j l)

  -- and made by the code: key and message have two words each
  pub started : start_word (length message) t ∷ window 0 key 0 ∷ window 0 key 1 ∷ window 0 message 0 ∷ window 0 message 1 ∷ [] ≡ words_of 5 (start key message t)
  started =
      let five : length (xor_from 24 message (xor_from 8 key unkeyed)) ≡ 5 = length-xor_from message (xor_from 8 key unkeyed) 24 ∙ length-xor_from key unkeyed 8 in
      sym (written_out 5 (xor_from 24 message (xor_from 8 key unkeyed)) five
      ∙ cons_same (word_at 0 (omega arith) ∙ rw (window_past key 8 0 (omega arith), window_past message 24 0 (omega arith))
      (xor_zero_r (bit_xor (start_word (length message) t) 0) ∙ xor_zero_r (start_word (length message) t)))
      (cons_same (word_at 1 (omega arith) ∙ rw (window-moved key 1 0 0, window_past message 24 1 (omega arith), xor_zero_r))
      (cons_same (word_at 2 (omega arith) ∙ rw (window-moved key 1 0 1, window_past message 24 2 (omega arith), xor_zero_r))
      (cons_same (word_at 3 (omega arith) ∙ rw (window-before key 8 3 (omega arith), window-moved message 3 0 0))
      (cons_same (word_at 4 (omega arith) ∙ rw (window-before key 8 4 (omega arith), window-moved message 3 0 1)) refl)))))
      ∙ xored_in

-- ---- the output

-- a state's last t bytes with the key xored into its last sixteen, and the two lists of last bytes, xored
pub last_xored : (s key : List ℕ) (t : ℕ) → length s ≡ 5 → Bytes key → length key ≡ 16 → t ≤ 16
    → bytes_from (40 - t) t (xor_from 24 key s) ≡ xor_bytes (last_bytes t (bytes_from 0 40 s)) (last_bytes t key)
unfolding last_bytes
last_xored s key t five bytes n short =
    ext_get_or 0 (bytes_from (40 - t) t (xor_from 24 key s)) (xor_bytes a b)
    (length-bytes_from t (40 - t) (xor_from 24 key s) ∙ sym (length-xor_bytes a b (la ∙ sym lb) ∙ lb)) each
  where
    a : List ℕ
    a = drop (length (bytes_from 0 40 s) - t) (bytes_from 0 40 s)

    b : List ℕ
    b = drop (length key - t) key

    la : length a ≡ t
    la = length-drop (length (bytes_from 0 40 s) - t) (bytes_from 0 40 s) ∙ omega (arith, length-bytes_from 40 0 s)

    lb : length b ≡ t
    lb = length-drop (length key - t) key ∙ omega arith

    each : (i : ℕ) → i < length (bytes_from (40 - t) t (xor_from 24 key s)) → get_or (bytes_from (40 - t) t (xor_from 24 key s)) i 0 ≡ get_or (xor_bytes a b) i 0
    each i l =
        let inside : i < t = omega (arith, length-bytes_from t (40 - t) (xor_from 24 key s)) in
        let place : 40 - t + i - 24 ≡ length key - t + i = omega arith in
        let place' : 40 - t + i ≡ 0 + (length (bytes_from 0 40 s) - t + i) = omega (arith, length-bytes_from 40 0 s) in
        bytes_from-at t (40 - t) i (xor_from 24 key s) inside
        ∙ xored_from key 24 (40 - t + i) s (omega arith) bytes
        ∙ rw (
          le-leb 24 (40 - t + i) (omega arith),
          place,
          ← get_or-drop (length key - t) key i 0,
          place',
          ← bytes_from-at 40 0 (length (bytes_from 0 40 s) - t + i) s (omega (arith, length-bytes_from 40 0 s)),
          ← get_or-drop (length (bytes_from 0 40 s) - t) (bytes_from 0 40 s) i 0,
        )
        (sym (xor_bytes-at a b i (la ∙ sym lb)))

-- the key's two words, xored into the last two of a state
pub masked : (s key : List ℕ) → length s ≡ 5 → length key ≡ 16
    → get_or s 0 0 ∷ get_or s 1 0 ∷ get_or s 2 0 ∷ bit_xor (get_or s 3 0) (window 0 key 0) ∷ bit_xor (get_or s 4 0) (window 0 key 1) ∷ [] ≡ xor_from 24 key s
masked s key five n =
    sym (written_out 5 (xor_from 24 key s) (length-xor_from key s 24 ∙ five)
    ∙ cons_same (word-xor_from key s 24 0 (omega arith) ∙ rw (window_past key 24 0 (omega arith), xor_zero_r))
    (cons_same (word-xor_from key s 24 1 (omega arith) ∙ rw (window_past key 24 1 (omega arith), xor_zero_r))
    (cons_same (word-xor_from key s 24 2 (omega arith) ∙ rw (window_past key 24 2 (omega arith), xor_zero_r))
    (cons_same (word-xor_from key s 24 3 (omega arith) ∙ rw (window-moved key 3 0 0))
    (cons_same (word-xor_from key s 24 4 (omega arith) ∙ rw (window-moved key 3 0 1)) refl)))))
