-- What a list of numbers must be to stand for a state of the permutation.
-- Assumes nothing.
use Rattle.std.specs.Prelude.{◌≡◌, List, ℕ, ◌^◌, length}
use Rattle.word.specs.Word.{Below}

pub record State (s : List ℕ) : Type 0 where
  -- it has five words
  pub five : length s ≡ 5
  -- each of 64 bits
  pub words : Below (2 ^ 64) s
