-- What a chunk has of a line: its first bytes, as long as there is room for, that have no newline and end before one.
-- Assumes nothing.
use mathlib.Core.Path.{◌≡◌, sym, ◌∙◌}
use mathlib.Core.List.{List}
use Prim.Native.Nat.{ℕ, ◌≤◌, ◌<◌}
use native.Mathlib.Omega.{arith}
use lib.ListN.{length, get_or, take, length-take}
use lib.Seq.{take-take, get_or-take}
use Rattle.script.specs.Text.{newline, before}
use Rattle.script.specs.Input.{piece}
use Rattle.script.proofs.Texts.{take-before, length_before, before-before, before_at}

module _ (chunk : List ℕ) (room : ℕ) where
  abbrev first : List ℕ
  first = take room chunk

  -- it is no longer than the room
  pub piece-room : length (piece chunk room) ≤ room
  unfolding piece
  piece-room = omega (arith, length_before newline first, length-take room chunk)

  -- and no longer than the chunk
  pub piece-left : length (piece chunk room) ≤ length chunk
  unfolding piece
  piece-left = omega (arith, length_before newline first, length-take room chunk)

  -- it is the chunk's first bytes
  pub piece-part : take (length (piece chunk room)) chunk ≡ piece chunk room
  unfolding piece
  piece-part = sym (take-take (length (piece chunk room)) room chunk piece-room) ∙ take-before newline first

  -- no byte of it is a newline
  pub piece_clean : before newline (piece chunk room) ≡ piece chunk room
  unfolding piece
  piece_clean = before-before newline first

  -- where there is more room and more of the chunk, it ends before a newline
  pub piece-end : length (piece chunk room) < room → length (piece chunk room) < length chunk → get_or chunk (length (piece chunk room)) 0 ≡ newline
  unfolding piece
  piece-end h k =
      let n : ℕ = length (piece chunk room) in
      sym (get_or-take room chunk n 0 h) ∙ before_at newline first (omega (arith, length-take room chunk))
