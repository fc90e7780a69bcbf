-- `script::line::parse_line` meets its contract.
-- Assumes nothing.
use native.Mathlib.Omega.{arith}
use Rattle.std.proofs.Common.{rules}
use Rattle.std.proofs.lemmas.Grind.{common_steps}
use Rattle.script.proofs.Lines.{parse-fields}
use Rattle.script.proofs.ParsedLines.{line-read}
use Rattle.script.proofs.line.parse_line.Goals as goal

pub returns-clause-line : goal.returns-clause-line
returns-clause-line c = line-read c.args.buffer.now (search rules) c.args.line.now c.cut-2.result.1.now _ _ _ _ (grind (arith, common_steps, parse-fields)) (search rules) (search rules)
