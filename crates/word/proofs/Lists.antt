-- Lists read and written past their end and at neighbouring indices, as code does that reads or writes i, i + 1, i + 2 and so on, and zeros.
-- Assumes nothing.
use mathlib.Core.Path.{◌≡◌, refl, sym, ap, ◌∙◌}
use mathlib.Core.List.{List, [], ◌∷◌, ◌++◌}
use Prim.Native.Nat.{ℕ, zero, suc, ◌+◌, ◌≤◌, ◌<◌, min}
use native.Mathlib.Nat.{add-suc, not-suc-le-zero, le_of_suc-le-suc, zero-min, min-zero, suc-min-suc}
use native.Mathlib.Numerals.{add-one}
use native.Mathlib.Omega.{arith}
use lib.ListN.{length, get_or, set, take, drop, replicate, length-append}
use lib.Seq.{drop-cons, sets, sets-eq, take_at, length-take-le}

-- ---- past the end

pub get_d_past : (l : List ℕ) (i : ℕ) → length l ≤ i → get_or l i 0 ≡ 0
get_d_past [] i h = refl
get_d_past (x ∷ l) zero h = absurd (not-suc-le-zero h)
get_d_past (x ∷ l) (suc i) h = get_d_past l i (le_of_suc-le-suc h)

pub set_past : (l : List ℕ) (i v : ℕ) → length l ≤ i → set l i v ≡ l
set_past [] i v h = refl
set_past (x ∷ l) zero v h = absurd (not-suc-le-zero h)
set_past (x ∷ l) (suc i) v h = ap (λ (t : List ℕ). x ∷ t) (set_past l i v (le_of_suc-le-suc h))

-- the first elements, as many as are there
pub take_min : (n : ℕ) (l : List ℕ) → take (min n (length l)) l ≡ take n l
take_min zero l = rw zero-min
take_min (suc n) [] = rw min-zero
take_min (suc n) (x ∷ l) = rw suc-min-suc (ap (λ (t : List ℕ). x ∷ t) (take_min n l))

pub drop_min : (n : ℕ) (l : List ℕ) → drop (min n (length l)) l ≡ drop n l
drop_min zero l = rw zero-min
drop_min (suc n) [] = rw min-zero
drop_min (suc n) (x ∷ l) = rw suc-min-suc (drop_min n l)

-- ---- zeros

pub zeros-at : (n i : ℕ) → get_or {A = ℕ} (replicate n 0) i 0 ≡ 0
zeros-at zero i = refl
zeros-at (suc n) zero = refl
zeros-at (suc n) (suc i) = zeros-at n i

-- zeros after a list read as nothing
pub then_zeros : (l : List ℕ) (n i : ℕ) → get_or (l ++ replicate n 0) i 0 ≡ get_or l i 0
then_zeros [] n i = zeros-at n i
then_zeros (x ∷ l) n zero = refl
then_zeros (x ∷ l) n (suc i) = then_zeros l n i

-- ---- reads

-- n elements, the first at index i + k: at numerals k and n this computes to the elements at i + k, i + (k + 1), ..
abbrev pub elements : List ℕ → ℕ → ℕ → ℕ → List ℕ
elements l i k zero = []
elements l i k (suc n) = get_or l (i + k) 0 ∷ elements l i (suc k) n

elements_of : (l : List ℕ) (i k n : ℕ) → i + k + n ≤ length l → take n (drop (i + k) l) ≡ elements l i k n
elements_of l i k zero h = refl
elements_of l i k (suc n) h =
    let inside : i + k < length l = omega arith in
    rw (drop-cons l (i + k) 0 inside)
    (ap (λ (t : List ℕ). get_or l (i + k) 0 ∷ t) (ap (λ (m : ℕ). take n (drop m l)) (sym (add-suc i k)) ∙ elements_of l i (suc k) n (omega arith)))

-- a part of a list, written out
pub part-written-out : (l : List ℕ) (i n : ℕ) → i + suc n ≤ length l → take (suc n) (drop i l) ≡ get_or l i 0 ∷ elements l i 1 n
part-written-out l i n h =
    let inside : i < length l = omega arith in
    rw (drop-cons l i 0 inside)
    (ap (λ (t : List ℕ). get_or l i 0 ∷ t) (ap (λ (m : ℕ). take n (drop m l)) (sym (add-one i)) ∙ elements_of l i 1 n (omega arith)))

-- ---- stores

-- stores one after the other, the first at index i + k
abbrev pub stored : List ℕ → ℕ → ℕ → List ℕ → List ℕ
stored l i k [] = l
stored l i k (v ∷ vs) = stored (set l (i + k) v) i (suc k) vs

pub stored_is : (vs l : List ℕ) (i k : ℕ) → stored l i k vs ≡ sets l (i + k) vs
stored_is [] l i k = refl
stored_is (v ∷ vs) l i k = stored_is vs (set l (i + k) v) i (suc k) ∙ ap (λ (m : ℕ). sets (set l (i + k) v) m vs) (add-suc i k)

-- the first elements after a store at their end
pub take-sets : (vs l : List ℕ) (i : ℕ) → i + length vs ≤ length l → take (i + length vs) (sets l i vs) ≡ take i l ++ vs
take-sets vs l i h =
    let first : length (take i l ++ vs) ≡ i + length vs = simp (length-append) (omega (arith, length-take-le i l (omega arith))) in
    rw (sets-eq vs l i h) (take_at (take i l ++ vs) (drop (i + length vs) l) (i + length vs) first)
