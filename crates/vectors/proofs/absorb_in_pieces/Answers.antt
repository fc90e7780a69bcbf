-- `vectors::absorb_in_pieces` meets its contract.
-- Assumes nothing.
use mathlib.Core.Path.{◌≡◌, sym, ap, ◌∙◌}
use mathlib.Core.List.{List}
use Prim.Native.Nat.{ℕ}
use native.Mathlib.Omega.{arith}
use lib.ListN.{length}
use borrow.Author.Rules.{rules}
use Rattle.std.proofs.lemmas.Grind.{common_steps}
use Rattle.std.proofs.lemmas.List.{nil_from_length}
use Rattle.sponge.specs.Record.{absorbed}
use Rattle.sponge.proofs.Calls.{absorbed-none, absorbed_append}
use Rattle.vectors.proofs.absorb_in_pieces.Goals as goal

pub loop-rest-preserved : goal.loop-rest-preserved
loop-rest-preserved c =
    let l = c.loop-rest in
    let cut = c.split_at in (
      omega arith,
      grind (arith, common_steps),
      search rules,
      ap (absorbed cut.result.1.now) c.absorb-fed.ensures ∙ sym (absorbed_append cut.result.0.now cut.result.1.now l.fed)
          ∙ ap (λ (t : List ℕ). absorbed t l.fed) (sym cut.ensures.by_index.0) ∙ l.invariant.3,
    )

pub returns : goal.returns
returns c =
    let l = c.loop-rest in
    let none : length l.rest.now ≡ 0 = grind (arith, common_steps) in
    sym (absorbed-none l.fed l.invariant.2) ∙ ap (λ (t : List ℕ). absorbed t l.fed) (sym (nil_from_length l.rest.now none)) ∙ l.invariant.3
