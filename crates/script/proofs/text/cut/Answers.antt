-- `script::text::cut` meets its contract.
-- Assumes nothing.
use mathlib.Core.Path.{◌∙◌}
use lib.Dec.{eqb}
use lib.Seq.{drop-length}
use Rattle.checks.proofs.Buffers.{part_to_end}
use Rattle.std.proofs.Common.{rules, tests}
use Rattle.std.proofs.lemmas.Iterator.{YieldsList-from_slice}
use Rattle.std.proofs.lemmas.Iterator.Search.{position_from_yields_List}
use Rattle.script.proofs.Texts.{cut-found, cut-missing}
use Rattle.script.proofs.text.cut.Goals as goal

pub returns-in-Some : goal.returns-in-Some
returns-in-Some c =
    let a = c.args in
    let p = position_from_yields_List (λ x. eqb x a.b) _ _ c.position.result c.position.ensures.ran (YieldsList-from_slice a.s.now cc) (λ x b q k. search (rules, tests)) in
    let f = cut-found a.b a.s.now c.position.result p c.in-Some.at c.in-Some.is in
    record { before = f.0; after = part_to_end a.s.now _ ∙ f.1 }

pub returns-in-None : goal.returns-in-None
returns-in-None c =
    let a = c.args in
    let p = position_from_yields_List (λ x. eqb x a.b) _ _ c.position.result c.position.ensures.ran (YieldsList-from_slice a.s.now cc) (λ x b q k. search (rules, tests)) in
    let f = cut-missing a.b a.s.now c.position.result p c.in-None.is in
    record { before = f.0; after = part_to_end a.s.now _ ∙ drop-length a.s.now ∙ f.1 }
