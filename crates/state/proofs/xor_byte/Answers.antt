-- `state::xor_byte` meets its contract: a byte shifted to its place is the byte times its weight.
-- Assumes nothing.
use Prim.Native.Nat.{◌-◌, ◌*◌, ◌%◌}
use native.Mathlib.Omega.{arith}
use lib.Pow.{shl_exact}
use Rattle.word.specs.Bytes.{weight, xor_at}
use Rattle.state.proofs.xor_byte.Goals as goal

pub returns : goal.returns
unfolding xor_at weight
returns c =
    let a = c.args in
    rw (← shl_exact 8 (8 * (7 - a.k % 8)) 64 c.ranges.b.fits (omega arith), ← c.from.ensures) c.xor_word.ensures
