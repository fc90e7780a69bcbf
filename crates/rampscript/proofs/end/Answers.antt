-- `rampscript::end` meets its contract: what is still printed stands in the buffer.
-- Assumes nothing.
use mathlib.Core.Path.{sym}
use lib.Seq.{length-take-le}
use Rattle.rampscript.proofs.Chunks.{covers}
use Rattle.rampscript.proofs.end.Goals as goal

pub slice_bounds-out-end : goal.slice_bounds-out-end
slice_bounds-out-end c =
    let f = c.finish-size in
    covers _ _ _ f.new.out f.ensures.size f.ensures.out

pub slice_bounds-write-end : goal.slice_bounds-write-end
slice_bounds-write-end c =
    let f = c.finish-size in
    sym (length-take-le _ _ (covers _ _ _ f.new.out f.ensures.size f.ensures.out))
