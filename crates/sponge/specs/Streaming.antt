-- The theorem on streaming, as statements; proofs/Streaming.antt proves them. However a message is split and however its output is drawn, the bytes are
-- the one-shot output of the papers (specs/Sponge.antt), and the run count is document 01's formula.
-- Assumes nothing.
use Rattle.std.specs.Prelude.{◌≡◌, ℕ, ◌+◌, ◌^◌, ◌<◌, ◌≤◌, List, [], ◌∷◌, ◌++◌, length, take}
use Rattle.checks.specs.Equality.{same}
use Rattle.checks.specs.Joined.{joined}
use Rattle.mode.specs.declared.Mode.{Mode}
use Rattle.sponge.specs.declared.record.Record.{Record}
use Rattle.mode.specs.Mode.{Row, row}
use Rattle.sponge.specs.Sponge.{start, output, one_shot, runs_feeding, runs_ended}
use Rattle.sponge.specs.Record.{feed_bytes, end_feeding, drawn_bytes, after_drawing, fresh, absorbed, finished, next_bytes, squeezed, tag_matches}

-- the sum of counts
abbrev pub total : List ℕ → ℕ
total [] = 0
total (k ∷ ks) = k + total ks

-- ---- one argument for all modes: the steps on a record, over any row

-- parts fed one after the other, the first byte being number n of the message
unfoldable pub feed_parts : Row → ℕ → List (List ℕ) → Record → Record
feed_parts w n [] r = r
feed_parts w n (m ∷ ms) r = feed_parts w (n + length m) ms (feed_bytes w n m r)

-- counts of bytes drawn one after the other, the first being output byte number d: the bytes joined, and the record after them
unfoldable pub drawn_parts : Row → ℕ → List ℕ → Record → List ℕ
drawn_parts w d [] r = []
drawn_parts w d (k ∷ ks) r = drawn_bytes w d k r ++ drawn_parts w (d + k) ks (after_drawing w d k r)

unfoldable pub after_parts : Row → ℕ → List ℕ → Record → Record
after_parts w d [] r = r
after_parts w d (k ∷ ks) r = after_parts w (d + k) ks (after_drawing w d k r)

-- A record r, its words being those where feeding starts: it is fed a message in these parts, feeding ends, and these counts are drawn.
pub record Streaming (w : Row) (r : Record) (parts : List (List ℕ)) (counts : List ℕ) : Type 0 where
  -- while feeding lasts the runs are the formula's, wherever that is a number of 64 bits
  pub feeding-runs : runs_feeding w r.runs (length (joined parts)) < 2 ^ 64
      → (feed_parts w 0 parts r).runs ≡ runs_feeding w r.runs (length (joined parts))
  -- the bytes drawn, joined, are as many first bytes of the one-shot output for the joined message
  pub bytes : drawn_parts w 0 counts (end_feeding w (length (joined parts)) (feed_parts w 0 parts r)) ≡ output w r.words (joined parts) (total counts)
  -- once feeding has ended the runs are the formula's, wherever that is a number of 64 bits
  pub ended-runs : runs_ended w r.runs (length (joined parts)) (total counts) < 2 ^ 64
      → (after_parts w 0 counts (end_feeding w (length (joined parts)) (feed_parts w 0 parts r))).runs ≡ runs_ended w r.runs (length (joined parts)) (total counts)

-- The theorem on streaming: so it is for every row with rates above 0, every record, every split of a message and all counts.
abbrev pub StreamingTheorem : Type 0
StreamingTheorem =
    (w : Row) → 0 < w.feed_rate → 0 < w.draw_rate → (r : Record) (parts : List (List ℕ)) (counts : List ℕ) → Streaming w r parts counts

-- ---- the calls, by the definitions that their promises cite

-- absorb, called for one part after the other
unfoldable pub absorbed_parts : List (List ℕ) → Record → Record
absorbed_parts [] r = r
absorbed_parts (m ∷ ms) r = absorbed_parts ms (absorbed m r)

-- squeeze, called for one count after the other: the bytes joined, and the record after them
unfoldable pub next_parts : List ℕ → Record → List ℕ
next_parts [] r = []
next_parts (k ∷ ks) r = next_bytes k r ++ next_parts ks (squeezed k r)

unfoldable pub squeezed_parts : List ℕ → Record → Record
squeezed_parts [] r = r
squeezed_parts (k ∷ ks) r = squeezed_parts ks (squeezed k r)

-- A fresh record of a mode under a key is fed a message in these parts, finished, and squeezed for these counts, of fewer than 2 ^ 64 bytes in all. Bytes and verdict ask
-- nothing of the message.
pub record StreamingCalls (ticket : ℕ) (mode : Mode) (key : List ℕ) (parts : List (List ℕ)) (counts : List ℕ) : Type 0 where
  -- while feeding lasts the runs are the formula's, wherever that is a number of 64 bits
  pub feeding-runs : runs_feeding (row mode) (start (row mode) key).runs (length (joined parts)) < 2 ^ 64
      → (absorbed_parts parts (fresh ticket mode key)).runs ≡ runs_feeding (row mode) (start (row mode) key).runs (length (joined parts))
  -- the bytes drawn, joined, are as many first bytes of the one-shot output for the joined message
  pub bytes : total counts < 2 ^ 64
      → next_parts counts (finished (absorbed_parts parts (fresh ticket mode key))) ≡ one_shot (row mode) key (joined parts) (total counts)
  -- once feeding has ended the runs are the formula's, wherever that is a number of 64 bits
  pub ended-runs : total counts < 2 ^ 64
      → runs_ended (row mode) (start (row mode) key).runs (length (joined parts)) (total counts) < 2 ^ 64
      → (squeezed_parts counts (finished (absorbed_parts parts (fresh ticket mode key)))).runs
      ≡ runs_ended (row mode) (start (row mode) key).runs (length (joined parts)) (total counts)
  -- as long as no more than a block is drawn, a tag is judged by the first bytes of the one-shot output, as many as are drawn at most
  pub verdict : (tag : List ℕ) → total counts ≤ (row mode).draw_rate
      → tag_matches tag (squeezed_parts counts (finished (absorbed_parts parts (fresh ticket mode key))))
      ≡ same tag (take (row mode).most_drawn (one_shot (row mode) key (joined parts) (row mode).draw_rate))

-- The theorem on streaming, for the calls: so it is for every ticket, mode and key, every split of a message and all counts.
abbrev pub StreamingCallsTheorem : Type 0
StreamingCallsTheorem =
    (ticket : ℕ) (mode : Mode) (key : List ℕ) (parts : List (List ℕ)) (counts : List ℕ) → StreamingCalls ticket mode key parts counts
