-- Laws of words of the language: whether a text is one, told by its length and its bytes.
-- Assumes nothing.
use Rattle.std.proofs.Common.{◌≡◌, refl, sym, ap, ◌∙◌, Bool, true, false, ◌&&◌, List, [], ◌∷◌, ℕ, suc, ◌-◌, ◌≤◌, ◌<◌, eqb, length, get_or, drop, arith}
use native.Mathlib.Decide.{dec_le}
use lib.ListN.{drop_of_length-le}
use lib.Seq.{drop-cons}
use borrow.Author.Tests.{eq-eqb, ne_eqb}
use Rattle.std.specs.Str.{bytes_eq}
use Rattle.checks.specs.Equality.{same}

-- the bytes of p stand in s, from place i on
abbrev pub stands : List ℕ → ℕ → List ℕ → Bool
stands s i [] = true
stands s i (c ∷ p) = eqb (get_or s i 0) c && stands s (suc i) p

swapped : (a b c : Bool) → a && (b && c) ≡ b && (a && c)
swapped true b c = refl
swapped false true c = refl
swapped false false c = refl

one_less : (n i m : ℕ) → i < n → eqb (n - suc i) m ≡ eqb (n - i) (suc m)
one_less n i m h = go (dec_le (n - i) m) (dec_le (suc m) (n - suc i))
  where
    go : Dec (n - i ≤ m) → Dec (suc m ≤ n - suc i) → eqb (n - suc i) m ≡ eqb (n - i) (suc m)
    go (yes p) q = ne_eqb _ _ (λ e. omega arith) ∙ sym (ne_eqb _ _ (λ e. omega arith))
    go (no p) (yes q) = ne_eqb _ _ (λ e. omega arith) ∙ sym (ne_eqb _ _ (λ e. omega arith))
    go (no p) (no q) = eq-eqb _ _ (omega arith) ∙ sym (eq-eqb _ _ (omega arith))

same-from : (s p : List ℕ) (i : ℕ) → same (drop i s) p ≡ (eqb (length s - i) (length p) && stands s i p)
unfolding same
same-from s [] i = go (dec_le (length s) i)
  where
    go : Dec (length s ≤ i) → same (drop i s) [] ≡ (eqb (length s - i) 0 && true)
    go (yes h) = rw (drop_of_length-le s h, eq-eqb (length s - i) 0 (omega arith))
    go (no h) = rw (drop-cons s i 0 (omega arith), ne_eqb (length s - i) 0 (λ e. omega arith))
same-from s (c ∷ p) i = go (dec_le (length s) i) (same-from s p (suc i))
  where
    go : Dec (length s ≤ i) → same (drop (suc i) s) p ≡ (eqb (length s - suc i) (length p) && stands s (suc i) p)
        → same (drop i s) (c ∷ p) ≡ (eqb (length s - i) (suc (length p)) && stands s i (c ∷ p))
    go (yes h) e = rw (drop_of_length-le s h, ne_eqb (length s - i) (suc (length p)) (λ e. omega arith))
    go (no h) e =
        rw (drop-cons s i 0 (omega arith), e, one_less (length s) i (length p) (omega arith))
        (swapped (eqb (get_or s i 0) c) (eqb (length s - i) (suc (length p))) (stands s (suc i) p))

pub same-tests : (s p : List ℕ) → same s p ≡ (eqb (length s) (length p) && stands s 0 p)
same-tests s p = let e : length s - 0 ≡ length s = omega arith in rw e at (same-from s p 0)

-- what `==` says of two slices
pub same-bytes : (s p : List ℕ) → same s p ≡ bytes_eq s p
unfolding same
same-bytes [] [] = refl
same-bytes [] (b ∷ p) = refl
same-bytes (a ∷ s) [] = refl
same-bytes (a ∷ s) (b ∷ p) = ap (λ (t : Bool). eqb a b && t) (same-bytes s p)

-- by these a test of length and bytes tells which word a text is, or that it is none
pub ruleset words = (same-tests, ne_eqb)
