-- `vectors::put_tags` meets its contract. The loop's invariant: the heading and the lines of the messages before this one are written.
-- Assumes nothing.
use mathlib.Core.List.{◌++◌}
use lib.ListN.{take}
use Rattle.script.specs.Writing.{Puts}
use Rattle.vectors.specs.Lines.{lines, tag_lines}
use Rattle.vectors.proofs.put_tags.Given as goal

abbrev pub invariant-loop-n : goal.invariant-loop-n
invariant-loop-n l = Puts (l.heading ++ lines (tag_lines l.bytes) (take l.n-index l.n-items)) l.fn.out l.out
