-- The permutations that are left, of the state as it is, give what all of them give of the first.
-- Assumes nothing.
use mathlib.Core.Path.{◌≡◌}
use Prim.Native.Nat.{◌-◌, ◌≤◌}
use Rattle.permutation.specs.Permutation.{permute}
use Rattle.testbench.specs.Chain.{repeated}
use Rattle.testbench.proofs.testbench_permute_chain.Given as goal

abbrev pub invariant-loop : goal.invariant-loop
invariant-loop l = (l.counter ≤ l.times) × (repeated (l.times - l.counter) (permute l.rounds) l.s ≡ repeated l.times (permute l.rounds) l.initial.s)

abbrev pub decreases-loop : goal.decreases-loop
decreases-loop l = l.times - l.counter
