-- `vectors::put_short_lines` meets its contract.
-- Assumes nothing.
use mathlib.Core.Path.{◌≡◌}
use native.Mathlib.Omega.{arith}
use Rattle.vectors.specs.Lines.{short_lines}
use Rattle.vectors.proofs.put_short_lines.Goals as goal

pub returns : goal.returns
unfolding short_lines
returns c =
    let all : c.loop-t.t ≡ 17 = omega arith in
    rw all at c.loop-t.invariant
