-- What a function is told of an array of unsigned integers that it gets by value, and lists of a known length.
-- Assumes nothing.
use mathlib.Core.List.{List, [], ◌∷◌}
use mathlib.Core.Path.{◌≡◌, refl, ap, ap₂}
use Prim.Native.Nat.{ℕ, zero, suc, ◌^◌, ◌<◌}
use native.Mathlib.Omega.{arith}
use lib.ListN.{length, get_or}
use mir.Syntax.{Width}
use mir.Val.{Val, bits}
use denote.Laws.{Is}
use denote.Shadow.{shadow}
use denote.Plain.{UInt}
use denote.Array.{Array, each}
use Rattle.word.specs.Word.{Below}

each_below : (w : Width) (xs : List ℕ) (vs : List Val) → shadow (each ℕ (UInt w).own_val xs vs) → Below (2 ^ bits w) xs
each_below w [] vs s = tt
each_below w (x ∷ xs) [] s = absurd s
each_below w (x ∷ xs) (v ∷ vs) s = (s.0.1, each_below w xs vs s.1)

-- an array by value, of n elements of width w: its length, and the range of its elements
module _ (w : Width) (n : ℕ) (xs : List ℕ) (vs : List Val) (is : Is (Array (UInt w) n) xs vs) where
  pub array_length : length xs ≡ n
  array_length = is.1.0.1

  pub array_below : Below (2 ^ bits w) xs
  array_below = each_below w xs is.0 is.1.1

-- the list of f's first n values
abbrev pub listed : ℕ → (ℕ → ℕ) → List ℕ
listed zero f = []
listed (suc n) f = f 0 ∷ listed n (λ i. f (suc i))

-- functions that agree have the same values
pub listed_same : (n : ℕ) (f g : ℕ → ℕ) → ((i : ℕ) → i < n → f i ≡ g i) → listed n f ≡ listed n g
listed_same zero f g h = refl
listed_same (suc n) f g h = ap₂ {C = List ℕ} (λ (x : ℕ) (l : List ℕ). x ∷ l) (h 0 (omega arith))
    (listed_same n (λ i. f (suc i)) (λ i. g (suc i)) (λ i l. h (suc i) (omega arith)))

-- a list of n numbers, written out: at a numeral n the right side computes
pub written_out : (n : ℕ) (xs : List ℕ) → length xs ≡ n → xs ≡ listed n (λ i. get_or xs i 0)
written_out zero [] e = refl
written_out zero (x ∷ xs) e = absurd (omega arith)
written_out (suc n) [] e = absurd (omega arith)
written_out (suc n) (x ∷ xs) e = ap {B = List ℕ} (λ l. x ∷ l) (written_out n xs (omega arith))

-- lists of numbers are equal element by element
pub cons_same : {x y : ℕ} {xs ys : List ℕ} → x ≡ y → xs ≡ ys → x ∷ xs ≡ y ∷ ys
cons_same p q = ap₂ {C = List ℕ} (λ (a : ℕ) (l : List ℕ). a ∷ l) p q
