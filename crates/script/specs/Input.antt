-- Input as lines, and what a part of it has of a line.
-- Assumes nothing.
use Rattle.std.specs.Prelude.{cond, List, [], ◌∷◌, ℕ, eqb, take}
use Rattle.script.specs.Text.{newline, before}

-- a byte in front of the first line
abbrev pub in_front : ℕ → List (List ℕ) → List (List ℕ)
in_front b [] = (b ∷ []) ∷ []
in_front b (l ∷ ls) = (b ∷ l) ∷ ls

-- the lines of an input, without their newlines: each ends with one, which may be missing at the last
unfoldable pub lines : List ℕ → List (List ℕ)
lines [] = []
lines (b ∷ s) = cond (eqb b newline) ([] ∷ lines s) (in_front b (lines s))

-- what a chunk has of a line: up to a newline or the chunk's end, and no more than there is room for
unfoldable pub piece : List ℕ → ℕ → List ℕ
piece chunk room = before newline (take room chunk)
