-- A row of words, lent to have a function of states applied to it: the last sentence of document 01's "Five words, twelve rounds".
-- Assumes nothing.
use Rattle.std.specs.Prelude.{Bool, cond, List, ℕ, eqb, length}

abbrev pub has_five_words : List ℕ → Bool
has_five_words row = eqb (length row) 5

-- what is answered: 0, or document 01's refusal 7
abbrev pub row_answer : List ℕ → ℕ
row_answer row = cond (has_five_words row) 0 7

-- what the row holds afterwards: f of it, or, refused, what it held before
abbrev pub row_after : (List ℕ → List ℕ) → List ℕ → List ℕ
row_after f row = cond (has_five_words row) (f row) row
