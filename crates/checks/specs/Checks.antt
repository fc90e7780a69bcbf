-- Lists of checks: document 01 gives a call its checks in their order, and the first that fails answers with its number.
-- Assumes nothing.
use Rattle.std.specs.Prelude.{Bool, cond, List, [], ◌∷◌, ℕ}

-- one check: whether it fails, and the number that is answered then
pub record OneCheck : Type 0 where
  pub fails : Bool
  pub number : ℕ

-- check n fails where b holds
abbrev pub refusal : ℕ → Bool → OneCheck
refusal n b = record { fails = b; number = n }

-- the first check that fails is answered with its number; where none does, the call is done
abbrev pub checked : {A : Type 0} → (ℕ → A) → List OneCheck → A → A
checked refuse [] done = done
checked refuse (c ∷ cs) done = cond c.fails (refuse c.number) (checked refuse cs done)
