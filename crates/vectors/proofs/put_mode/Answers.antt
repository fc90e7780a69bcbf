-- `vectors::put_mode` meets its contract: the loop goes over the lengths.
-- Assumes nothing.
use mathlib.Core.Path.{◌≡◌, refl, sym, ◌∙◌}
use mathlib.Core.List.{◌++◌}
use native.Mathlib.Omega.{arith}
use Rattle.std.specs.List.{range_with_len}
use Rattle.std.proofs.lemmas.List.{map-id}
use Rattle.std.proofs.lemmas.Iterator.{YieldsList-from_range, YieldsList-from_slice}
use Rattle.std.proofs.lemmas.Iterator.Consumers.{YieldsList-from_copied, YieldsList-from_chain, YieldsList-turn, YieldsList-end}
use Rattle.vectors.specs.Messages.{longer, lengths}
use Rattle.vectors.specs.Lines.{mode_section}
use Rattle.vectors.proofs.Messages.{lengths-most}
use Rattle.vectors.proofs.put_mode.Goals as goal

pub put_mode_line-requires : goal.put_mode_line-requires
unfolding lengths
put_mode_line-requires c =
    let turn = YieldsList-turn (YieldsList-from_chain (YieldsList-from_range 0 130 130 (cc) refl) (YieldsList-from_copied (YieldsList-from_slice longer (cc))) (cc) (cc))
    c.loop-n.yielded _ c.loop-n.yielded_by _ _ c.in-Some.n c.in-Some.is c.next.ensures.steps in
    (omega (arith, lengths-most _ c.in-Some.n turn.0, turn.1), c.requires)

pub returns : goal.returns
unfolding lengths mode_section
returns c =
    let end = YieldsList-end (YieldsList-from_chain (YieldsList-from_range 0 130 130 (cc) refl) (YieldsList-from_copied (YieldsList-from_slice longer (cc))) (cc) (cc))
    c.loop-n.yielded _ c.loop-n.yielded_by _ _ c.in-None.is c.next.ensures.steps in
    let all : c.loop-n.yielded ≡ range_with_len 0 130 ++ longer = sym (map-id _) ∙ end.0 in
    rw all at c.loop-n.invariant.2
