-- `vectors::put_short_line` meets its contract: nothing is refused, and the part that was lent gets the output.
-- Assumes nothing.
use mathlib.Core.Path.{◌≡◌}
use native.Mathlib.Omega.{arith}
use lib.ListN.{take}
use lib.Seq.{length-take-le}
use Rattle.std.proofs.lemmas.Grind.{common_steps}
use Rattle.prf_short.specs.Short.{prf_short}
use Rattle.script.proofs.Texts.{parts}
use Rattle.vectors.specs.Lines.{short_line}
use Rattle.vectors.proofs.Lines.{short-made}
use Rattle.vectors.proofs.put_short_line.Goals as goal

pub returns : goal.returns
unfolding short_line
returns c =
    let a = c.args in
    let made : c.prf_short.new.out ≡ prf_short (take 16 a.bytes.now) (take a.m a.bytes.now) a.t =
    short-made a.bytes.now _ _ a.m a.t (omega arith, omega arith, omega arith, omega arith) (length-take-le _ _ (omega arith)) c.prf_short.ensures.after in
    grind (arith, common_steps, parts)
