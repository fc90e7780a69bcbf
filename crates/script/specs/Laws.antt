-- Well-formed lines are exactly the printed ones. proofs/RoundTrip.antt proves it.
-- Assumes nothing.
use Rattle.std.specs.Prelude.{◌≡◌, List, ℕ, Some}
use Rattle.script.specs.Line.{Line, Valid, render, parse}

pub record PrintedLines : Type 0 where
  -- what a line may say, printed, is read back
  pub back : (l : Line) → Valid l → parse (render l) ≡ Some l
  -- what is read was printed so, and is something that a line may say
  pub only : (s : List ℕ) (l : Line) → parse s ≡ Some l → (s ≡ render l) × Valid l
