-- `testbench::testbench_permute_chain` meets its contract.
-- Assumes nothing.
use mathlib.Core.Path.{◌≡◌, sym, ap, ◌∙◌}
use mathlib.Core.List.{List}
use Prim.Native.Nat.{ℕ, suc, ◌+◌, ◌-◌, ◌<◌}
use native.Mathlib.Nat.{sub-zero}
use native.Mathlib.Omega.{arith}
use borrow.Author.Rules.{rules}
use Rattle.permutation.specs.Permutation.{at, permute}
use Rattle.testbench.specs.Chain.{repeated}
use Rattle.testbench.proofs.testbench_permute_chain.Goals as goal

pub loop-init : goal.loop-init
loop-init c = (search rules, rw sub-zero)

-- one, then those after it
one-first : (f : List ℕ → List ℕ) (n k : ℕ) (s : List ℕ) → k < n → repeated (n - (k + 1)) f (f s) ≡ repeated (n - k) f s
unfolding repeated
one-first f n k s l =
    let left : suc (n - (k + 1)) ≡ n - k = omega arith in
    ap (λ (m : ℕ). repeated m f s) left

pub loop-preserved : goal.loop-preserved
loop-preserved c =
    let now = c.loop in
    let a = c.args in
    let f = permute a.rounds in
    (omega arith, ap (repeated (a.times - (now.counter + 1)) f) c.permute-s.ensures ∙ one-first f a.times now.counter now.s (omega arith) ∙ now.invariant.1)

pub returns : goal.returns
unfolding repeated
returns c =
    let last = c.loop in
    let a = c.args in
    let none : a.times - last.counter ≡ 0 = omega arith in
    ap (λ (s : List ℕ). at s 0) (sym (ap (λ (k : ℕ). repeated k (permute a.rounds) last.s) none) ∙ last.invariant.1)
