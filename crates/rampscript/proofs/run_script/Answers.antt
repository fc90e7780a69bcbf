-- `rampscript::run_script` meets its contract.
-- Assumes nothing.
use mathlib.Core.Path.{◌≡◌, ◌∙◌}
use Rattle.std.proofs.Common.{rules}
use Rattle.rampscript.specs.Program.{cut_short, told}
use Rattle.rampscript.proofs.run_script.Goals as goal

pub returns-in_err-run : goal.returns-in_err-run
returns-in_err-run c =
    let same : c.from_residual-in_err-run.result ≡ c.run.result = search rules in
    cut_short c.in_err-run.field-0.0 (same ∙ c.in_err-run.was) (rw same c.run.ensures)

pub returns : goal.returns
returns c = told c.run.new.reader c.in_ok-run.ensures c.end.ensures.reader c.end.ensures.failed
