-- Lists of checks: which answers, and what holds of all that they give.
-- Assumes nothing.
use mathlib.Core.Bool.{Bool, true, false, cond}
use mathlib.Core.Path.{◌≡◌, refl, ap, ◌∙◌}
use mathlib.Core.Logic.{◌≢◌}
use mathlib.Core.List.{List, [], ◌∷◌}
use Prim.Native.Nat.{ℕ}
use Rattle.checks.specs.Checks.{OneCheck, refusal, checked}

-- the first that fails answers, and where none does the call is done
pub first-answers : (checked (λ (n : ℕ). n) (refusal 2 false ∷ refusal 3 true ∷ refusal 5 true ∷ []) 0 ≡ 3)
    × (checked (λ (n : ℕ). n) (refusal 2 false ∷ refusal 3 false ∷ []) 0 ≡ 0)
first-answers = (refl, refl)

-- no check of the list fails
abbrev pub Pass : List OneCheck → Type 0
Pass [] = Unit {0}
Pass (c ∷ cs) = (c.fails ≡ false) × Pass cs

-- a relation between two ways to answer holds of what the same checks give, if it holds of every refusal, and of what is done where no check fails
pub checked-both : {A B : Type 0} (R : A → B → Type 0) (cs : List OneCheck) (f : ℕ → A) (g : ℕ → B) (x : A) (y : B)
    → ((n : ℕ) → R (f n) (g n)) → (Pass cs → R x y) → R (checked f cs x) (checked g cs y)
checked-both R [] f g x y refused done = done tt
checked-both R (c ∷ cs) f g x y refused done = go c.fails refl (λ pass. checked-both R cs f g x y refused pass)
  where
    go : (b : Bool) → c.fails ≡ b → ((Pass cs → R x y) → R (checked f cs x) (checked g cs y))
        → R (cond b (f c.number) (checked f cs x)) (cond b (g c.number) (checked g cs y))
    go true e rest = refused c.number
    go false e rest = rest (λ p. done (e, p))

-- a property likewise
pub checked-each : {A : Type 0} (P : A → Type 0) (cs : List OneCheck) (f : ℕ → A) (x : A)
    → ((n : ℕ) → P (f n)) → (Pass cs → P x) → P (checked f cs x)
checked-each P [] f x refused done = done tt
checked-each P (c ∷ cs) f x refused done = go c.fails refl (λ pass. checked-each P cs f x refused pass)
  where
    go : (b : Bool) → c.fails ≡ b → ((Pass cs → P x) → P (checked f cs x)) → P (cond b (f c.number) (checked f cs x))
    go true e rest = refused c.number
    go false e rest = rest (λ p. done (e, p))

-- no check has number 0, which no refusal has
abbrev pub Nonzero : List OneCheck → Type 0
Nonzero [] = Unit {0}
Nonzero (c ∷ cs) = (c.number ≢ 0) × Nonzero cs

-- a property that needs to hold of the refusals with such numbers alone
pub checked_nonzero : {A : Type 0} (P : A → Type 0) (cs : List OneCheck) (f : ℕ → A) (x : A)
    → Nonzero cs → ((n : ℕ) → n ≢ 0 → P (f n)) → (Pass cs → P x) → P (checked f cs x)
checked_nonzero P [] f x ns refused done = done tt
checked_nonzero P (c ∷ cs) f x ns refused done = go c.fails refl (λ pass. checked_nonzero P cs f x ns.1 refused pass)
  where
    go : (b : Bool) → c.fails ≡ b → ((Pass cs → P x) → P (checked f cs x)) → P (cond b (f c.number) (checked f cs x))
    go true e rest = refused c.number ns.0
    go false e rest = rest (λ p. done (e, p))

-- ---- by the number of the first that fails, or 0: for a caller that is given that number alone

-- a number that is not 0 is the refusal's
pub refused-by-number : {A : Type 0} (cs : List OneCheck) (f : ℕ → A) (x : A)
    → checked (λ (n : ℕ). n) cs 0 ≢ 0 → checked f cs x ≡ f (checked (λ (n : ℕ). n) cs 0)
refused-by-number {A = A} cs f x =
    checked-both (λ (a : A) (n : ℕ). n ≢ 0 → a ≡ f n) cs f (λ (n : ℕ). n) x 0 (λ n h. refl) (λ p h. absurd (h refl))

-- the number 0 says that no check fails
pub zero-passes : (cs : List OneCheck) → Nonzero cs → checked (λ (n : ℕ). n) cs 0 ≡ 0 → Pass cs
zero-passes cs ns = checked_nonzero (λ (n : ℕ). n ≡ 0 → Pass cs) cs (λ (n : ℕ). n) 0 ns (λ n h z. absurd (h z)) (λ p z. p)

-- and the call is done
pub passed-done : {A : Type 0} (cs : List OneCheck) (f : ℕ → A) (x : A) → Pass cs → checked f cs x ≡ x
passed-done [] f x p = refl
passed-done (c ∷ cs) f x p = ap (λ (b : Bool). cond b (f c.number) (checked f cs x)) p.0 ∙ passed-done cs f x p.1
