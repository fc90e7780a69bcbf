-- Which rounds `permute n` makes. Eight are written out; and for every n: 0 has none, each number up to twelve has one round more, before the others, and from twelve
-- on all twelve are made.
-- Assumes nothing.
use mathlib.Core.Path.{◌≡◌, refl, ap, ◌∙◌}
use mathlib.Core.List.{List}
use Prim.Native.Nat.{ℕ, suc, ◌-◌, ◌≤◌, ◌<◌, min}
use native.Mathlib.Omega.{arith}
use Rattle.permutation.specs.Permutation.{round, last_rounds, permute}

module _ (s : List ℕ) where
  -- eight rounds are rounds 4 to 11
  pub eight-rounds : permute 8 s ≡ round 11 (round 10 (round 9 (round 8 (round 7 (round 6 (round 5 (round 4 s)))))))
  unfolding permute
  eight-rounds = refl

  pub no_rounds : permute 0 s ≡ s
  unfolding permute
  no_rounds = refl

  -- round 11 - n, and then n rounds
  pub one_more : (n : ℕ) → n < 12 → permute (suc n) s ≡ permute n (round (11 - n) s)
  unfolding permute
  one_more n few =
      let count : min (suc n) 12 ≡ suc (min n 12) = omega arith in
      let first : 12 - suc (min n 12) ≡ 11 - n = omega arith in
      ap (λ (k : ℕ). last_rounds k s) count ∙ ap (λ (i : ℕ). last_rounds (min n 12) (round i s)) first

  -- twelve and more are rounds 0 to 11
  pub all-rounds : (n : ℕ) → 12 ≤ n
      → permute n s ≡ round 11 (round 10 (round 9 (round 8 (round 7 (round 6 (round 5 (round 4 (round 3 (round 2 (round 1 (round 0 s)))))))))))
  unfolding permute
  all-rounds n many =
      let twelve : min n 12 ≡ 12 = omega arith in
      ap (λ (k : ℕ). last_rounds k s) twelve
