-- `script::number::number_of` meets its contract. The loop's invariant: the text says the number that the digits which are left go on to spell.
-- Assumes nothing.
use mathlib.Core.Path.{◌≡◌}
use Prim.Native.Nat.{◌≤◌}
use lib.ListN.{drop}
use Rattle.script.specs.Number.{most_number, number_of}
use Rattle.script.proofs.Numbers.{number_from}
use Rattle.script.proofs.number.number_of.Given as goal

abbrev pub invariant-loop-b : goal.invariant-loop-b
invariant-loop-b l = (l.value ≤ most_number) × (number_of l.s ≡ number_from l.value (drop l.b-index l.s))
