-- `vectors::put_short` meets its contract. The loop's invariant: the heading and the lines of the shorter messages are written.
-- Assumes nothing.
use mathlib.Core.List.{◌++◌}
use Rattle.std.specs.List.{range_with_len}
use Rattle.script.specs.Writing.{Puts}
use Rattle.vectors.specs.Lines.{lines, short_lines}
use Rattle.vectors.proofs.put_short.Given as goal

abbrev pub invariant-loop-m : goal.invariant-loop-m
invariant-loop-m l = Puts (l.heading ++ lines (short_lines l.bytes) (range_with_len 0 l.m)) l.fn.out l.out
