-- `sponge::Record::squeeze` meets its contract. What is left of the present block is written before the loop; the loop's invariant is `Squeezing`.
-- Assumes nothing.
use Rattle.std.proofs.Common.{◌-◌, length}
use Rattle.mode.specs.Mode.{row}
use Rattle.sponge.proofs.Parts.{Squeezing}
use Rattle.sponge.proofs.record.Record.squeeze.Given as goal

abbrev pub invariant-loop-done : goal.invariant-loop-done
invariant-loop-done l = Squeezing (row l.self.mode) l.self (length l.initial.out) l.out l.current l.done

abbrev pub decreases-loop-done : goal.decreases-loop-done
decreases-loop-done l = length l.initial.out - l.done
