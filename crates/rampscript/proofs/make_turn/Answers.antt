-- `rampscript::make_turn` meets its contract: the chunk is what was read.
-- Assumes nothing.
use mathlib.Core.Path.{◌≡◌, sym, ◌∙◌}
use Rattle.std.proofs.Common.{rules}
use Rattle.rampscript.proofs.Turns.{turning-failed}
use Rattle.rampscript.proofs.make_turn.Goals as goal

pub returns-in_err-count : goal.returns-in_err-count
returns-in_err-count c =
    let same : c.from_residual.result ≡ c.read.result = search rules in
    turning-failed _ _ c.in_err-count.field-0.0 (same ∙ c.in_err-count.was) (λ f. c.read.ensures.failed (sym same ∙ f))
