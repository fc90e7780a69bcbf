-- `vectors::put_tag_lines` meets its contract.
-- Assumes nothing.
use mathlib.Core.Path.{◌≡◌}
use native.Mathlib.Omega.{arith}
use Rattle.vectors.specs.Lines.{tag_lines}
use Rattle.vectors.proofs.put_tag_lines.Goals as goal

pub returns : goal.returns
unfolding tag_lines
returns c =
    let all : c.loop-t.t ≡ 17 = omega arith in
    rw all at c.loop-t.invariant
