-- `state::copy_bytes` meets its contract. The loop's invariant: the first bytes of the slice are those that the words have from the place on.
-- Assumes nothing.
use mathlib.Core.Path.{◌≡◌}
use Prim.Native.Nat.{◌-◌, ◌≤◌}
use lib.ListN.{length, take}
use Rattle.word.specs.Bytes.{bytes_from}
use Rattle.state.proofs.copy_bytes.Given as goal

abbrev pub invariant-loop-i : goal.invariant-loop-i
invariant-loop-i l = (l.i ≤ length l.out) × (take l.i l.out ≡ bytes_from l.place l.i l.words) × (length l.out ≡ length l.initial.out)

abbrev pub decreases-loop-i : goal.decreases-loop-i
decreases-loop-i l = length l.out - l.i
