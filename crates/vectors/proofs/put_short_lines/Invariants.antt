-- `vectors::put_short_lines` meets its contract. The loop's invariant: the lines of the shorter outputs are written.
-- Assumes nothing.
use Prim.Native.Nat.{◌-◌}
use Rattle.std.specs.List.{range_with_len}
use Rattle.script.specs.Writing.{Puts}
use Rattle.vectors.specs.Lines.{lines, short_line}
use Rattle.vectors.proofs.put_short_lines.Given as goal

abbrev pub invariant-loop-t : goal.invariant-loop-t
invariant-loop-t l = Puts (lines (short_line l.bytes l.m) (range_with_len 1 (l.t - 1))) l.fn.out l.out
