-- What private functions of the code promise: two go by parts of a block, one by what a feed leaves. proofs/Parts.antt relates them to the steps on single bytes.
-- Assumes nothing.
use Rattle.std.specs.Prelude.{ℕ, ◌+◌, ◌-◌, ◌%◌, cond, List, length, ◌==◌}
use Rattle.word.specs.Bytes.{xor_from}
use Rattle.sponge.specs.declared.record.Record.{Record}
use Rattle.mode.specs.Mode.{Row}
use Rattle.sponge.specs.Record.{sum64, with_core, with_fed, in_words, run_if}

-- a part of a block is fed at once: it goes to the places from p on, and a run follows where it fills the block
unfoldable pub filled : Row → ℕ → List ℕ → Record → Record
filled w p bs r = run_if w (p + length bs == w.feed_rate) (in_words (xor_from p bs) r)

-- how many bytes of the present block are drawn once d are drawn in all
unfoldable pub used : Row → ℕ → ℕ
used w d = cond (d == 0) 0 ((d - 1) % w.draw_rate + 1)

-- a record after a feed of so many bytes, by the words and the runs that it leaves
unfoldable pub after_feed : List ℕ → ℕ → ℕ → Record → Record
after_feed words runs count r = with_fed (sum64 r.fed count) (with_core words runs r)
