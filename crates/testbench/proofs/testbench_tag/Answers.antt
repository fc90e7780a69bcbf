-- `testbench::testbench_tag` meets its contract: the block that is drawn from when feeding has ended begins with the MAC.
-- Assumes nothing.
use mathlib.Core.Bool.{Bool, true, false, cond}
use mathlib.Core.Path.{◌≡◌, refl, ap, ◌∙◌}
use Rattle.std.specs.Int.{from_bool}
use Rattle.mode.specs.declared.Mode.TheVariants.{Mac}
use Rattle.sponge.proofs.Streaming.{calls-tag}
use Rattle.testbench.proofs.testbench_tag.Goals as goal

from_bool-is : (t : Bool) → from_bool t ≡ cond t 1 0
from_bool-is true = refl
from_bool-is false = refl

pub returns : goal.returns
returns c =
    let a = c.args in
    let verdict = rw (c.finish.ensures, c.absorb-fed.ensures, c.fresh.ensures, calls-tag 1 (Mac a.tag_length) a.key.now a.message.now a.tag.now) at c.tag_matches.ensures in
    c.from.ensures ∙ from_bool-is c.tag_matches.result ∙ ap (λ (t : Bool). cond t 1 0) verdict
