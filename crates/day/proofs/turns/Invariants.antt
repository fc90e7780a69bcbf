-- `day::turns` meets its contract. The loop's invariant: the turns before this one are made and listed.
-- Assumes nothing.
use Prim.Native.Nat.{◌-◌, ◌≤◌}
use Rattle.listing.specs.Listing.{Lists}
use Rattle.day.specs.Day.{turns_from}
use Rattle.day.proofs.turns.Given as goal

abbrev pub invariant-loop-i : goal.invariant-loop-i
invariant-loop-i l = record {
  within : l.i - l.first ≤ l.end - l.first;
  listed : Lists (turns_from l.first (l.i - l.first) l.sample) l.fn.list l.list;
}
