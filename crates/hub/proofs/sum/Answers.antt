-- `hub::sum` meets its contract.
-- Assumes nothing.
use Rattle.std.proofs.Common.{rules, ◌≡◌, ℕ, ◌+◌, ◌%◌, ◌^◌, List, [], ◌∷◌, ◌++◌, refl, ap, subst, arith}
use Rattle.std.proofs.lemmas.Fn.{fold_over, slice_gives, fronts}
use Rattle.sponge.specs.declared.record.Record.{Record}
use Rattle.sponge.specs.Record.{sum64}
use Rattle.calls.specs.Answer.{summed}
use Rattle.calls.specs.Keyed.{total}
use Rattle.hub.specs.Hub.{sum_hub}
use Rattle.hub.proofs.sum.Goals as goal

abbrev runs : List Record → ℕ
runs rs = total (λ (r : Record). r.runs) rs

none : runs [] ≡ 0
unfolding total
none = refl

one_more : (rs : List Record) (r : Record) → runs (rs ++ (r ∷ [])) ≡ runs rs + r.runs
unfolding total
one_more [] r = omega arith
one_more (x ∷ rs) r = omega (arith, one_more rs r)

pub returns-clause-hub : goal.returns-clause-hub
unfolding sum_hub
returns-clause-hub c = refl

pub returns-clause-answer : goal.returns-clause-answer
unfolding sum_hub sum64
returns-clause-answer c =
    let h = c.args.hub in
    ap summed
    (subst (λ (rs : List Record). c.fold-total.result ≡ (h.closed + runs rs) % 2 ^ 64) c.iter.ensures.rest
    (fold_over fronts (λ y. y.now) _ (λ (rs : List Record) (t : ℕ). t ≡ (h.closed + runs rs) % 2 ^ 64) _
    (λ rs t r u f same called. let next : u ≡ (t + r.now.runs) % 2 ^ 64 = search rules in (omega (arith, next, same, one_more rs r.now), search rules))
    _ _ _ _ (slice_gives c.iter.result) (search (rules, none)) c.fold-total.ensures.ran))
