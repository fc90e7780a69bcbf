-- Lists are the same exactly where they are equal.
-- Assumes nothing.
use mathlib.Core.Bool.{Bool, true, false, false≢true, ◌&&◌}
use mathlib.Core.Logic.{◌≢◌}
use mathlib.Core.Path.{◌≡◌, refl, ap, ap₂, ◌∙◌}
use mathlib.Core.List.{List, [], ◌∷◌}
use Prim.Native.Nat.{ℕ}
use borrow.Author.Tests.{eq-eqb, eqb-true}
use lib.Dec.{eqb}
use Rattle.checks.specs.Equality.{same}

same_refl : (s : List ℕ) → same s s ≡ true
unfolding same
same_refl [] = refl
same_refl (a ∷ s) = rw (eq-eqb a a refl) (same_refl s)

pub equal-same : (s t : List ℕ) → s ≡ t → same s t ≡ true
equal-same s t e = ap (λ (l : List ℕ). same l t) e ∙ same_refl t

pub same-equal : (s t : List ℕ) → same s t ≡ true → s ≡ t
unfolding same
same-equal [] [] e = refl
same-equal [] (b ∷ t) e = absurd (false≢true e)
same-equal (a ∷ s) [] e = absurd (false≢true e)
same-equal (a ∷ s) (b ∷ t) e = go (eqb a b) refl (same-equal s t) e
  where
    go : (c : Bool) → eqb a b ≡ c → (same s t ≡ true → s ≡ t) → c && same s t ≡ true → a ∷ s ≡ b ∷ t
    go true p others q = ap₂ {C = List ℕ} (λ (x : ℕ) (l : List ℕ). x ∷ l) (eqb-true a b p) (others q)
    go false p others q = absurd (false≢true q)

pub other-same : (s t : List ℕ) → s ≢ t → same s t ≡ false
other-same s t ne = go (same s t) refl
  where
    go : (c : Bool) → same s t ≡ c → c ≡ false
    go true e = absurd (ne (same-equal s t e))
    go false e = refl
