-- What is left, fed to the record as it is, gives what the whole message gives of the first.
-- Assumes nothing.
use mathlib.Core.Path.{◌≡◌}
use Prim.Native.Nat.{◌+◌, ◌^◌, ◌≤◌, ◌<◌}
use lib.ListN.{length}
use Rattle.sponge.specs.Record.{absorbed}
use Rattle.vectors.proofs.absorb_in_pieces.Given as goal

abbrev pub invariant-loop-rest : goal.invariant-loop-rest
invariant-loop-rest l =
    (0 < l.size) × (l.size + length l.rest ≤ length l.message + 1) × (l.fed.fed < 2 ^ 64) × (absorbed l.rest l.fed ≡ absorbed l.message l.initial.fed)

abbrev pub decreases-loop-rest : goal.decreases-loop-rest
decreases-loop-rest l = length l.rest
