-- What is answered of a lent row, with document 01's number, and what it holds afterwards, for every row.
-- Assumes nothing.
use mathlib.Core.Logic.{◌≢◌}
use mathlib.Core.Path.{◌≡◌, refl}
use mathlib.Core.List.{List}
use Prim.Native.Nat.{ℕ}
use borrow.Author.Tests.{eq-eqb, ne_eqb}
use lib.ListN.{length}
use Rattle.permutation.specs.Row.{row_answer, row_after}

module _ (f : List ℕ → List ℕ) (row : List ℕ) where
  -- a row that is not of five words is answered 7, and stays as it is
  pub row-refused : length row ≢ 5 → (row_answer row ≡ 7) × (row_after f row ≡ row)
  row-refused n = rw (ne_eqb (length row) 5 n) (refl, refl)

  -- a row of five words is answered 0, and f is applied to it
  pub row-accepted : length row ≡ 5 → (row_answer row ≡ 0) × (row_after f row ≡ f row)
  row-accepted e = rw (eq-eqb (length row) 5 e) (refl, refl)
