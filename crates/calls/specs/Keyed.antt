-- Lists whose elements have a number: tickets' records and entries.
-- Assumes nothing.
use Rattle.std.specs.Prelude.{cond, List, [], ◌∷◌, ℕ, suc, ◌+◌, eqb}

-- the place of the first element with number t; past the end where none has it
unfoldable pub find : {A : Type 0} → (A → ℕ) → ℕ → List A → ℕ
find number t [] = 0
find number t (x ∷ xs) = cond (eqb (number x) t) 0 (suc (find number t xs))

-- f of each element, added up
unfoldable pub total : {A : Type 0} → (A → ℕ) → List A → ℕ
total f [] = 0
total f (x ∷ xs) = f x + total f xs
