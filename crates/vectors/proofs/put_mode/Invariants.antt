-- `vectors::put_mode` meets its contract. The loop's invariant: the heading and the lines of the lengths so far are written.
-- Assumes nothing.
use mathlib.Core.List.{◌++◌}
use Prim.Native.Nat.{ℕ}
use Rattle.script.specs.Writing.{Puts}
use Rattle.vectors.specs.Lines.{lines, mode_line}
use Rattle.vectors.proofs.put_mode.Given as goal

abbrev pub invariant-loop-n : goal.invariant-loop-n
invariant-loop-n l =
    (goal.iterator-loop-n).can_next l.n-iterator
    × (goal.iterator-loop-n).is_finite l.n-iterator
    × Puts (l.heading ++ lines (λ (n : ℕ). mode_line l.bytes l.mode l.count n n) l.yielded) l.fn.out l.out
