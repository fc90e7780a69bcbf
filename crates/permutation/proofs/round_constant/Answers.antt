-- `permutation::round_constant` meets its contract: its cases are rows of the table. One law serves all of them, and the checker computes each row's constant.
-- Assumes nothing.
use mathlib.Core.Path.{◌≡◌, refl, sym, ap, ◌∙◌}
use Prim.Native.Nat.{ℕ}
use native.Mathlib.Omega.{arith}
use lib.Dec.{T, ltb}
use Rattle.permutation.specs.Permutation.{round_constant}
use Rattle.permutation.proofs.round_constant.Goals as goal

-- a case for row k: its constant is 240 - 15 * k, k is one of the twelve, and i is k. As i is never 12, only the second of these refuses a row 12
row : {i constant : ℕ} (k : ℕ) → constant ≡ round_constant k → T (ltb k 12) → i ≡ k → constant ≡ round_constant i
row k right numbered here = right ∙ ap round_constant (sym here)

pub returns-in-0 : goal.returns-in-0
returns-in-0 c = row 0 refl tt c.in-0.is

pub returns-in-1 : goal.returns-in-1
returns-in-1 c = row 1 refl tt c.in-1.is

pub returns-in-2 : goal.returns-in-2
returns-in-2 c = row 2 refl tt c.in-2.is

pub returns-in-3 : goal.returns-in-3
returns-in-3 c = row 3 refl tt c.in-3.is

pub returns-in-4 : goal.returns-in-4
returns-in-4 c = row 4 refl tt c.in-4.is

pub returns-in-5 : goal.returns-in-5
returns-in-5 c = row 5 refl tt c.in-5.is

pub returns-in-6 : goal.returns-in-6
returns-in-6 c = row 6 refl tt c.in-6.is

pub returns-in-7 : goal.returns-in-7
returns-in-7 c = row 7 refl tt c.in-7.is

pub returns-in-8 : goal.returns-in-8
returns-in-8 c = row 8 refl tt c.in-8.is

pub returns-in-9 : goal.returns-in-9
returns-in-9 c = row 9 refl tt c.in-9.is

pub returns-in-10 : goal.returns-in-10
returns-in-10 c = row 10 refl tt c.in-10.is

-- after the cases for 0 to 10 only 11 is left of the twelve
pub returns-in-11-to-18446744073709551615 : goal.returns-in-11-to-18446744073709551615
returns-in-11-to-18446744073709551615 c = row 11 refl tt (omega arith)
