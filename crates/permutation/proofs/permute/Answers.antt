-- `permutation::permute` meets its contract: what is folded over the numbers of the last n rounds, round by round, are the last n rounds.
-- Assumes nothing.
use Rattle.std.proofs.Common.{rules, ◌≡◌, List, [], ◌∷◌, ℕ, zero, suc, ◌+◌, ◌-◌, ◌≤◌, min, refl, sym, ap, ◌∙◌, arith}
use Rattle.std.proofs.iter.Yields.{nat_range_steps}
use Rattle.std.proofs.lemmas.Fn.{fold_over}
use Rattle.std.proofs.lemmas.Iterator.{YieldsList-from_range}
use Rattle.std.proofs.lemmas.List.Sums.{fold-append}
use Rattle.std.specs.List.{fold, range_with_len}
use Rattle.permutation.specs.Permutation.{round, last_rounds, permute}
use Rattle.permutation.proofs.permute.Goals as goal

-- the rounds of a list of numbers, in its order
abbrev rounds : List ℕ → List ℕ → List ℕ
rounds s is = fold (λ t i. round i t) s is

-- the last n of the twelve
last : (n : ℕ) (s : List ℕ) → n ≤ 12 → rounds s (range_with_len (12 - n) n) ≡ last_rounds n s
last zero s h = refl
last (suc n) s h =
    let next : 12 - suc n + 1 ≡ 12 - n = omega arith in
    ap (λ k. rounds (round (12 - suc n) s) (range_with_len k n)) next ∙ last n (round (12 - suc n) s) (omega arith)

pub returns : goal.returns
unfolding permute
returns c =
    let n : ℕ = min c.args.n 12 in
    let first : 12 - c.args.n ≡ 12 - n = omega arith in
    fold_over nat_range_steps (λ i. i) _ (λ is t. t ≡ rounds c.args.s is) _
    (λ is t i u f same called. let next : u ≡ round i t = search rules in (next ∙ ap (round i) same ∙ sym (fold-append (λ t i. round i t) c.args.s is (i ∷ [])), refl))
    _ (range_with_len (12 - n) n) _ _ (YieldsList-from_range (12 - n) 12 n (cc) (omega arith)).runs refl c.fold.ensures.ran
    ∙ last n c.args.s (omega arith)
