-- `vectors::put_tag_lines` meets its contract. The loop's invariant: the lines of the shorter tags are written.
-- Assumes nothing.
use Prim.Native.Nat.{◌-◌}
use Rattle.std.specs.List.{range_with_len}
use Rattle.script.specs.Writing.{Puts}
use Rattle.vectors.specs.Lines.{lines, tag_line}
use Rattle.vectors.proofs.put_tag_lines.Given as goal

abbrev pub invariant-loop-t : goal.invariant-loop-t
invariant-loop-t l = Puts (lines (tag_line l.bytes l.n) (range_with_len 8 (l.t - 8))) l.fn.out l.out
