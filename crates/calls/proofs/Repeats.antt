-- What a loop that makes calls is left with: how many turns, and, where it makes one call again and again, what they make of the hub.
-- Assumes nothing.
use mathlib.Core.Path.{◌≡◌}
use Prim.Native.Nat.{ℕ, suc, ◌+◌, ◌-◌, ◌≤◌, ◌<◌}
use native.Mathlib.Omega.{arith}
use lib.ListN.{replicate}
use Rattle.calls.specs.Call.{Call, Step, final}

-- after one more turn there is one fewer
pub one_less : (n i : ℕ) → i < n → n - i ≡ suc (n - (i + 1))
one_less n i h = omega arith

pub none_left : (n i : ℕ) → n ≤ i → n - i ≡ 0
none_left n i h = omega arith

module _ {S : Type 0} (run : Call → S → Step S) (c : Call) (n i : ℕ) (s : S) where
  -- one more is made, and one fewer is left
  pub again-next : i < n → (after : S) → after ≡ (run c s).after → final run after (replicate (n - (i + 1)) c) ≡ final run s (replicate (n - i) c)
  unfolding final
  again-next l after e = rw (one_less n i l, e)

  -- none is left
  pub again-end : n ≤ i → s ≡ final run s (replicate (n - i) c)
  unfolding final
  again-end l = rw (none_left n i l)
