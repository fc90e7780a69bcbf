-- The last case of a `match` on a number whose other cases are 0, 1, 2 and so on: which numbers are left for it.
-- Assumes nothing.
use mathlib.Core.Logic.{◌≢◌}
use Prim.Native.Nat.{ℕ, zero, suc, ◌≤◌}
use native.Mathlib.Omega.{arith}

-- i is none of the numbers below k: what that case is told after k others
abbrev pub NoneBelow : ℕ → ℕ → Type 0
NoneBelow i zero = Unit
NoneBelow i (suc k) = NoneBelow i k × (i ≢ k)

-- so it is k or more
pub none_below : {i : ℕ} (k : ℕ) → NoneBelow i k → k ≤ i
none_below zero none = omega arith
none_below (suc k) none = omega (arith, none_below k none.0, none.1)
