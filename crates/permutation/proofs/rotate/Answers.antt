-- `permutation::rotate` meets its contract: the law of rotation by shifts.
-- Assumes nothing.
use native.Mathlib.Omega.{arith}
use Rattle.word.proofs.Rotation.{rotr-by_shifts}
use Rattle.permutation.proofs.rotate.Goals as goal

pub returns : goal.returns
returns c = rotr-by_shifts 64 c.args.n c.args.x (omega arith) c.ranges.x.fits
