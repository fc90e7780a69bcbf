-- A lent buffer, and a part of it. After bytes were written into it they stand where they were written, and every other byte is as it was.
-- Assumes nothing.
use mathlib.Core.Path.{◌≡◌, refl, sym, ap, ◌∙◌}
use mathlib.Core.List.{List, [], ◌∷◌, ◌++◌}
use Prim.Native.Nat.{ℕ, ◌+◌, ◌-◌, ◌≤◌, ◌<◌}
use native.Mathlib.Omega.{arith}
use lib.ListN.{length, take, drop, get_or, length-append, length-take, length-drop, get_or-append}
use lib.Seq.{length-take-le, take_at, drop_at, drop-drop, get_or-append-add, get_or-take, get_or-drop, take_all}
use Rattle.checks.specs.Buffers.{written}

-- a part that goes to the end
pub part_to_end : (s : List ℕ) (a : ℕ) → take (length s - a) (drop a s) ≡ drop a s
part_to_end s a = take_all (length s - a) (drop a s) (rw length-drop (omega arith))

-- the bytes lie in the buffer from place on
module _ (buffer : List ℕ) (place : ℕ) (bytes : List ℕ) (fits : place + length bytes ≤ length buffer) where
  front : length (take place buffer) ≡ place
  front = length-take-le place buffer (omega arith)

  -- the buffer keeps its length
  pub length-written : length (written buffer place bytes) ≡ length buffer
  unfolding written
  length-written = rw (length-append, length-append, front, length-drop) (omega arith)

  -- the bytes, read back
  pub read-written : (count : ℕ) → length bytes ≡ count → take count (drop place (written buffer place bytes)) ≡ bytes
  unfolding written
  read-written count n =
      rw (drop_at (take place buffer) (bytes ++ drop (place + length bytes) buffer) place front)
      (take_at bytes (drop (place + length bytes) buffer) count n)

  -- one of them
  pub at-written : (i z : ℕ) → i < length bytes → get_or (written buffer place bytes) (place + i) z ≡ get_or bytes i z
  unfolding written
  at-written i z h =
      rw front at (get_or-append-add (take place buffer) (bytes ++ drop (place + length bytes) buffer) i z)
      ∙ get_or-append bytes (drop (place + length bytes) buffer) z i h

  -- a byte before them stays
  pub before-written : (i z : ℕ) → i < place → get_or (written buffer place bytes) i z ≡ get_or buffer i z
  unfolding written
  before-written i z h =
      get_or-append (take place buffer) (bytes ++ drop (place + length bytes) buffer) z i (omega (arith, front)) ∙ get_or-take place buffer i z h

  -- and a byte after them
  pub after-written : (i z : ℕ) → place + length bytes ≤ i → get_or (written buffer place bytes) i z ≡ get_or buffer i z
  unfolding written
  after-written i z h =
      let e : i ≡ place + (length bytes + (i - (place + length bytes))) = omega arith in
      let e' : i ≡ place + length bytes + (i - (place + length bytes)) = omega arith in
      ap (λ (j : ℕ). get_or (written buffer place bytes) j z) e
      ∙ rw front at (get_or-append-add (take place buffer) (bytes ++ drop (place + length bytes) buffer) (length bytes + (i - (place + length bytes))) z)
      ∙ get_or-append-add bytes (drop (place + length bytes) buffer) (i - (place + length bytes)) z
      ∙ get_or-drop (place + length bytes) buffer (i - (place + length bytes)) z
      ∙ ap (λ (j : ℕ). get_or buffer j z) (sym e')

-- ---- a part of a buffer that is lent on, k bytes from place on

-- the whole buffer, once bytes stand in that part
pub part-written : (buffer : List ℕ) (place k : ℕ) (bytes : List ℕ) → length bytes ≡ k
    → take place buffer ++ (bytes ++ drop k (drop place buffer)) ≡ written buffer place bytes
unfolding written
part-written buffer place k bytes e = rw (e, drop-drop)

-- the part's length
pub part_length : (buffer : List ℕ) (place k : ℕ) → place + k ≤ length buffer → length (take (place + k - place) (drop place buffer)) ≡ k
part_length buffer place k h = simp (length-take, length-drop) (omega arith)

-- for the reader: bytes written into a buffer, computed
pub writing : (written (1 ∷ 2 ∷ 3 ∷ 4 ∷ 5 ∷ []) 1 (8 ∷ 9 ∷ []) ≡ 1 ∷ 8 ∷ 9 ∷ 4 ∷ 5 ∷ [])
    × (written (1 ∷ 2 ∷ 3 ∷ []) 3 [] ≡ 1 ∷ 2 ∷ 3 ∷ [])
    × (written (1 ∷ 2 ∷ []) 0 (8 ∷ 9 ∷ []) ≡ 8 ∷ 9 ∷ [])
unfolding written
writing = (refl, refl, refl)
