-- `script::hex::decode` meets its contract.
-- Assumes nothing.
use native.Mathlib.Omega.{arith}
use Rattle.script.proofs.HexTexts.{pair-high, pair-low, decoding_goes_on}
use Rattle.script.proofs.hex.decode.Goals as goal

pub loop-i-preserved : goal.loop-i-preserved
loop-i-preserved c =
    let l = c.loop-i in
    decoding_goes_on _ _ _ l.i _ _ l.invariant (omega arith) (grind (arith, pair-high)) (grind (arith, pair-low))
