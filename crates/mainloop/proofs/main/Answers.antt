-- `mainloop::main` is safe and ends: what it writes is inside the buffer.
-- Assumes nothing.
use mathlib.Core.Path.{sym}
use lib.Seq.{length-take-le}
use Rattle.script.proofs.Texts.{wrote-inside}
use Rattle.mainloop.proofs.main.Goals as goal

pub slice_bounds-text-end : goal.slice_bounds-text-end
slice_bounds-text-end c = wrote-inside c.list_both-length.ensures

pub slice_bounds-write_all-end : goal.slice_bounds-write_all-end
slice_bounds-write_all-end c = sym (length-take-le _ _ (wrote-inside c.list_both-length.ensures))
