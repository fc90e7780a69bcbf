-- Lists whose elements have a number: all elements with number t, the first of them replaced, what holds of every element, and totals over the list.
-- Assumes nothing.
use mathlib.Core.Bool.{Bool, true, false, cond}
use mathlib.Core.Path.{◌≡◌, refl, sym, ap, ap₂, ◌∙◌}
use mathlib.Core.Logic.{◌≢◌}
use mathlib.Core.List.{List, [], ◌∷◌, ◌++◌, nil≢cons}
use Prim.Native.Nat.{ℕ, zero, suc, ◌+◌, ◌*◌, ◌<◌, ◌≤◌}
use native.Mathlib.Omega.{arith}
use native.Mathlib.Nat.{zero-add}
use borrow.Author.Tests.{eqb-true, eq-eqb, ne_eqb}
use lib.Dec.{eqb}
use lib.ListN.{length, get_or, set, replicate, length-append}
use lib.Seq.{set_at, get_or_at}
use Rattle.calls.specs.Keyed.{find, total}

module _ {A : Type 0} where
  -- ---- totals

  pub total_append : (f : A → ℕ) (xs ys : List A) → total f (xs ++ ys) ≡ total f xs + total f ys
  unfolding total
  total_append f [] ys = rw zero-add
  total_append f (x ∷ xs) ys = rw (total_append f xs ys) (omega arith)

  -- ---- what holds of every element

  pub Every : (A → Type 0) → List A → Type 0
  Every P [] = Unit {0}
  Every P (x ∷ xs) = P x × Every P xs

  module _ (P : A → Type 0) where
    pub every_nil : Every P []
    unfolding Every
    every_nil = tt

    pub every_replicate : (n : ℕ) (x : A) → P x → Every P (replicate n x)
    unfolding Every
    every_replicate zero x h = tt
    every_replicate (suc n) x h = (h, every_replicate n x h)

    pub every_set : (xs : List A) (i : ℕ) (y : A) → Every P xs → P y → Every P (set xs i y)
    unfolding Every
    every_set [] i y e h = e
    every_set (x ∷ xs) zero y e h = (h, e.1)
    every_set (x ∷ xs) (suc i) y e h = (e.0, every_set xs i y e.1 h)

    pub every_snoc : (xs : List A) (y : A) → Every P xs → P y → Every P (xs ++ (y ∷ []))
    unfolding Every
    every_snoc [] y e h = (h, tt)
    every_snoc (x ∷ xs) y e h = (e.0, every_snoc xs y e.1 h)

    pub every_at : (xs : List A) (i : ℕ) (z : A) → Every P xs → i < length xs → P (get_or xs i z)
    unfolding Every
    every_at [] i z e h = absurd (omega arith)
    every_at (x ∷ xs) zero z e h = e.0
    every_at (x ∷ xs) (suc i) z e h = every_at xs i z e.1 (omega arith)

  -- f of each element is at most n
  pub most-total : (f : A → ℕ) (n : ℕ) (xs : List A) → Every (λ (x : A). f x ≤ n) xs → total f xs ≤ length xs * n
  unfolding Every total
  most-total f n [] m = omega arith
  most-total f n (x ∷ xs) m = omega (arith, m.0, most-total f n xs m.1)

  append_nil_both : (xs ys : List A) → xs ++ ys ≡ [] → (xs ≡ []) × (ys ≡ [])
  append_nil_both [] ys h = (refl, h)
  append_nil_both (x ∷ xs) ys h = absurd (nil≢cons (sym h))

  module _ (number : A → ℕ) where
    -- ---- all elements with number t

    abbrev pub all : ℕ → List A → List A
    all t [] = []
    all t (x ∷ xs) = cond (eqb (number x) t) (x ∷ all t xs) (all t xs)

    pub all_append : (t : ℕ) (xs ys : List A) → all t (xs ++ ys) ≡ all t xs ++ all t ys
    all_append t [] ys = refl
    all_append t (x ∷ xs) ys = go (eqb (number x) t) (all_append t xs ys)
      where
        go : (b : Bool) → all t (xs ++ ys) ≡ all t xs ++ all t ys
            → cond b (x ∷ all t (xs ++ ys)) (all t (xs ++ ys)) ≡ cond b (x ∷ all t xs) (all t xs) ++ all t ys
        go true h = ap (λ (l : List A). x ∷ l) h
        go false h = h

    pub all_yes : (t : ℕ) (x : A) (xs : List A) → number x ≡ t → all t (x ∷ xs) ≡ x ∷ all t xs
    all_yes t x xs h = rw (eq-eqb (number x) t h)

    pub all_no : (t : ℕ) (x : A) (xs : List A) → number x ≢ t → all t (x ∷ xs) ≡ all t xs
    all_no t x xs h = rw (ne_eqb (number x) t h)

    -- where there is none, the search goes past the end
    pub absent : (t : ℕ) (xs : List A) → all t xs ≡ [] → find number t xs ≡ length xs
    unfolding find
    absent t [] h = refl
    absent t (x ∷ xs) h = go (eqb (number x) t) h (absent t xs)
      where
        go : (b : Bool) → cond b (x ∷ all t xs) (all t xs) ≡ [] → (all t xs ≡ [] → find number t xs ≡ length xs)
            → cond b 0 (suc (find number t xs)) ≡ suc (length xs)
        go true e ih = absurd (nil≢cons (sym e))
        go false e ih = ap suc (ih e)

    -- an element with number t in the place of the first: there it is found
    pub find-set : (t : ℕ) (xs : List A) (y : A) → number y ≡ t → find number t (set xs (find number t xs) y) ≡ find number t xs
    unfolding find
    find-set t [] y k = refl
    find-set t (x ∷ xs) y k = go (eqb (number x) t) refl (find-set t xs y k)
      where
        go : (b : Bool) → eqb (number x) t ≡ b → find number t (set xs (find number t xs) y) ≡ find number t xs
            → find number t (set (x ∷ xs) (cond b 0 (suc (find number t xs))) y) ≡ cond b 0 (suc (find number t xs))
        go true e ih = rw (eq-eqb (number y) t k)
        go false e ih = rw e (ap suc ih)

    -- how many have another number
    pub others : (t : ℕ) (xs : List A) → total (λ (x : A). cond (eqb (number x) t) 0 1) xs + length (all t xs) ≡ length xs
    unfolding total
    others t [] = refl
    others t (x ∷ xs) = go (eqb (number x) t) (others t xs)
      where
        go : (b : Bool) → total (λ (x : A). cond (eqb (number x) t) 0 1) xs + length (all t xs) ≡ length xs
            → cond b 0 1 + total (λ (x : A). cond (eqb (number x) t) 0 1) xs + length (cond b (x ∷ all t xs) (all t xs)) ≡ suc (length xs)
        go true h = omega arith
        go false h = omega arith

    -- ---- the list cut at the first element with number t: x, the others with number t being xs

    pub record Cut (t : ℕ) (l : List A) (x : A) (xs : List A) : Type 0 where
      pub front : List A
      pub back : List A
      pub whole : l ≡ front ++ x ∷ back
      pub place : find number t l ≡ length front
      pub clear : all t front ≡ []
      pub rest : all t back ≡ xs
      pub named : number x ≡ t

    cut_at : (t : ℕ) (l : List A) (x : A) (xs : List A) → all t l ≡ x ∷ xs → Cut t l x xs
    unfolding find
    cut_at t [] x xs h = absurd (nil≢cons h)
    cut_at t (y ∷ l) x xs h = go (eqb (number y) t) refl h (cut_at t l x xs)
      where
        go : (b : Bool) → eqb (number y) t ≡ b → cond b (y ∷ all t l) (all t l) ≡ x ∷ xs → (all t l ≡ x ∷ xs → Cut t l x xs) → Cut t (y ∷ l) x xs
        go true e q ih =
            let same : y ≡ x = cc in
            record { front = []; back = l; whole = cc; place = rw e; clear = refl; rest = cc; named = ap number (sym same) ∙ eqb-true _ _ e }
        go false e q ih =
            let c = ih q in
            record {
              front = y ∷ c.front;
              back = c.back;
              whole = ap (λ (r : List A). y ∷ r) c.whole;
              place = rw (e, c.place);
              clear = rw (e, c.clear);
              rest = c.rest;
              named = c.named;
            }

    -- that element found, and replaced by y
    module _ (t : ℕ) (l : List A) (x : A) (xs : List A) (h : all t l ≡ x ∷ xs) where
      cut : Cut t l x xs
      cut = cut_at t l x xs h

      pub named-is : number x ≡ t
      named-is = cut.named

      pub inside : find number t l < length l
      inside = omega (arith, cut.place, ap length cut.whole, length-append cut.front (x ∷ cut.back))

      pub found : (z : A) → get_or l (find number t l) z ≡ x
      found z =
          ap₂ (λ (r : List A) (n : ℕ). get_or r n z) cut.whole cut.place ∙ get_or_at cut.front x cut.back z (length cut.front) refl

      replaced : (y : A) → set l (find number t l) y ≡ cut.front ++ y ∷ cut.back
      replaced y =
          ap₂ (λ (r : List A) (n : ℕ). set r n y) cut.whole cut.place ∙ set_at cut.front x cut.back y (length cut.front) refl

      pub all_here : (y : A) → number y ≡ t → all t (set l (find number t l) y) ≡ y ∷ xs
      all_here y k = rw (replaced y, all_append, all_yes t y cut.back k, cut.clear, cut.rest)

      pub all-gone : (y : A) → number y ≢ t → all t (set l (find number t l) y) ≡ xs
      all-gone y k = rw (replaced y, all_append, all_no t y cut.back k, cut.clear, cut.rest)

      all_else : (u : ℕ) → u ≢ t → all u l ≡ all u cut.front ++ all u cut.back
      all_else u n =
          ap (all u) cut.whole
          ∙ all_append u cut.front (x ∷ cut.back)
          ∙ ap (λ (r : List A). all u cut.front ++ r) (all_no u x cut.back (λ e. n (sym e ∙ cut.named)))

      -- the elements with another number stay
      pub all-other : (y : A) (u : ℕ) → u ≢ t → number y ≢ u → all u (set l (find number t l) y) ≡ all u l
      all-other y u n k = rw (replaced y, all_append, all_no u y cut.back k) (sym (all_else u n))

      -- y is the first with its number
      pub all_new : (y : A) (u : ℕ) → u ≢ t → number y ≡ u → all u l ≡ [] → all u (set l (find number t l) y) ≡ y ∷ []
      all_new y u n k e =
          let none = append_nil_both (all u cut.front) (all u cut.back) (sym (all_else u n) ∙ e) in
          rw (replaced y, all_append, all_yes u y cut.back k, none.0, none.1)

      pub total-set : (f : A → ℕ) (y : A) → total f (set l (find number t l) y) + f x ≡ total f l + f y
      unfolding total
      total-set f y =
          omega (
            arith,
            ap (total f) (replaced y) ∙ total_append f cut.front (y ∷ cut.back),
            ap (total f) cut.whole ∙ total_append f cut.front (x ∷ cut.back),
          )
