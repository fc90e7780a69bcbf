-- Where a ticket's record is: what the library's search finds, and what this crate's definitions say of it.
-- Assumes nothing.
use Rattle.std.specs.Prelude.{Some, None}
use Rattle.std.proofs.Common.{◌≡◌, ℕ, suc, ◌+◌, Bool, true, false, cond, not, eqb, ltb, leb, ◌==◌, List, [], ◌∷◌, length, refl, ap, ◌∙◌, arith, ltb-true, ltb-false, le-leb}
use Rattle.std.specs.List.{position_or_len}
use borrow.Author.Tests.{lt-leb}
use Rattle.sponge.specs.declared.record.Record.{Record}
use Rattle.calls.specs.Keyed.{find}
use Rattle.hub.specs.declared.Hub.{Hub}
use Rattle.hub.specs.Hub.{place_of, absent}
use Rattle.hub.specs.Records.{found}

-- the library's search and ours
find-is : {A : Type 0} (number : A → ℕ) (t : ℕ) (xs : List A) → position_or_len (λ (x : A). number x == t) xs ≡ find number t xs
unfolding find
find-is number t [] = refl
find-is {A} number t (x ∷ xs) = go (eqb (number x) t) (find-is number t xs)
  where
    go : (b : Bool) → position_or_len (λ (y : A). number y == t) xs ≡ find number t xs
        → cond (not b) (1 + position_or_len (λ (y : A). number y == t) xs) 0 ≡ cond b 0 (suc (find number t xs))
    go true rest = refl
    go false rest = omega (arith, rest)

-- what was found, by whether the ticket is absent
pub found_is : (t : ℕ) (h : Hub) → found t h ≡ cond (absent t h) None (Some (place_of t h))
unfolding absent place_of
found_is t h =
    ap (λ (n : ℕ). cond (ltb n (length h.records)) (Some n) None) (find-is (λ (r : Record). r.ticket) t h.records)
    ∙ go (ltb (place_of t h) (length h.records)) refl
  where
    go : (b : Bool) → ltb (place_of t h) (length h.records) ≡ b → cond b (Some (place_of t h)) None ≡ cond (leb (length h.records) (place_of t h)) None (Some (place_of t h))
    go true e = rw (lt-leb _ _ (ltb-true _ _ e))
    go false e = rw (le-leb _ _ (ltb-false _ _ e))
