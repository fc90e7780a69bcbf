-- The theorem on streaming (specs/Streaming.antt): however a message is split and however its output is drawn, the bytes are the one-shot output, and the run
-- count is document 01's formula. First over any row, by the steps; then for the calls.
-- Assumes nothing.
use Rattle.std.proofs.Common.{◌≡◌, ℕ, ◌+◌, ◌-◌, ◌*◌, ◌/◌, ◌^◌, ◌<◌, ◌≤◌, false, List, [], ◌∷◌, length, take, drop, sym, refl, ap, ◌∙◌, ap₂, le_trans, le_refl, mul-le-mul_right, zero-add, arith}
use native.Mathlib.Nat.{zero-div, zero-mod, mul-div-le}
use Rattle.checks.specs.Equality.{same}
use Rattle.mode.specs.declared.Mode.{Mode}
use Rattle.sponge.specs.declared.record.Record.{Record}
use Rattle.mode.specs.Mode.{Row, row}
use Rattle.sponge.specs.Sponge.{start, absorb_message, output, one_shot, runs_feeding, runs_ended}
use Rattle.sponge.specs.Record.{sum64, with_core, with_fed, with_drawn, with_feeding, after_run, feed_bytes, end_feeding, drawn_bytes, after_drawing, fresh, absorbed}
use Rattle.sponge.specs.Record.{finished, next_bytes, squeezed, block, tag_matches}
use Rattle.checks.specs.Joined.{joined}
use Rattle.sponge.specs.Streaming.{total, feed_parts, drawn_parts, after_parts, StreamingTheorem, absorbed_parts, next_parts, squeezed_parts, StreamingCallsTheorem}
use Rattle.sponge.proofs.Core.{sum64-lt, sum64-sum64, sum64-fits, sum64-zero, with_core_of}
use Rattle.sponge.proofs.Feeding.{feed_bytes_append, feeding-ended, feeding-counted}
use Rattle.sponge.proofs.Drawing.{drawn_bytes_core, drawn_bytes-add, after_drawing_core, after_drawing-add, after_runs, after_runs-zero, after_drawing-runs}
use Rattle.sponge.proofs.Drawing.{drawn_bytes-squeezed, blocks-drawn}
use Rattle.mode.proofs.Modes.{rates}
use Rattle.sponge.proofs.Parts.{ready-first, block-drawn}
use Rattle.sponge.proofs.Calls.{absorbed-none, absorbed_append, finished-is, next_bytes-is, next_bytes-add, squeezed-is, squeezed-add, block-stays}

-- ---- parts, joined, at any row

parts-fed : (w : Row) (ms : List (List ℕ)) (n : ℕ) (r : Record) → feed_parts w n ms r ≡ feed_bytes w n (joined ms) r
unfolding feed_parts feed_bytes
parts-fed w [] n r = refl
parts-fed w (m ∷ ms) n r = parts-fed w ms (n + length m) (feed_bytes w n m r) ∙ sym (feed_bytes_append w m (joined ms) n r)

parts-drawn : (w : Row) (ks : List ℕ) (d : ℕ) (r : Record) → drawn_parts w d ks r ≡ drawn_bytes w d (total ks) r
unfolding drawn_parts drawn_bytes
parts-drawn w [] d r = refl
parts-drawn w (k ∷ ks) d r = rw (parts-drawn w ks (d + k) (after_drawing w d k r)) (sym (drawn_bytes-add w k (total ks) d r))

parts-after : (w : Row) (ks : List ℕ) (d : ℕ) (r : Record) → after_parts w d ks r ≡ after_drawing w d (total ks) r
unfolding after_parts after_drawing
parts-after w [] d r = refl
parts-after w (k ∷ ks) d r = parts-after w ks (d + k) (after_drawing w d k r) ∙ sym (after_drawing-add w k (total ks) d r)

-- ---- the whole message, at any row with rates that are not 0

module _ (w : Row) (feeds : 0 < w.feed_rate) (draws : 0 < w.draw_rate) (r : Record) (m : List ℕ) where
  -- the runs while feeding lasts
  pub steps_feeding-runs : runs_feeding w r.runs (length m) < 2 ^ 64 → (feed_bytes w 0 m r).runs ≡ runs_feeding w r.runs (length m)
  unfolding runs_feeding
  steps_feeding-runs fits = feeding-counted w feeds m r (omega arith) ∙ sum64-fits r.runs (length m / w.feed_rate) fits

  -- d bytes drawn leave the record after (d - 1) / rate runs
  pub steps_record : (d : ℕ)
      → after_drawing w 0 d (end_feeding w (length m) (feed_bytes w 0 m r)) ≡ after_runs w ((d - 1) / w.draw_rate) (end_feeding w (length m) (feed_bytes w 0 m r))
  steps_record d = rw (feeding-ended w feeds m r) (rw (zero-div, zero-add, after_runs-zero w e (sum64-lt _ _)) at (after_drawing-runs w draws d 0 e))
    where
      e : Record
      e = with_feeding false (with_core (absorb_message w m r.words) (sum64 r.runs (length m / w.feed_rate + 1)) r)

  -- d bytes having been drawn, the next k are bytes number d to d + k - 1 of the output
  pub steps_bytes : (d k : ℕ)
      → drawn_bytes w d k (after_drawing w 0 d (end_feeding w (length m) (feed_bytes w 0 m r))) ≡ drop d (output w r.words m (d + k))
  unfolding output
  steps_bytes d k =
      rw (steps_record d, drawn_bytes-squeezed w draws k d (end_feeding w (length m) (feed_bytes w 0 m r)), feeding-ended w feeds m r)

  -- the runs once feeding has ended
  pub steps_ended-runs : (d : ℕ) → runs_ended w r.runs (length m) d < 2 ^ 64
      → (after_drawing w 0 d (end_feeding w (length m) (feed_bytes w 0 m r))).runs ≡ runs_ended w r.runs (length m) d
  unfolding runs_ended after_runs
  steps_ended-runs d fits =
      rw (steps_record d, feeding-ended w feeds m r, sum64-sum64 r.runs (length m / w.feed_rate + 1) ((d - 1) / w.draw_rate), blocks-drawn w draws d)
      (sum64-fits _ _ (omega (arith, blocks-drawn w draws d)) ∙ omega arith)

-- the theorem, over any row
pub streaming : StreamingTheorem
unfolding after_drawing
streaming w feeds draws r parts counts = record {
  feeding-runs = rw (parts-fed w parts 0 r) (steps_feeding-runs w feeds draws r (joined parts));
  bytes = rw (parts-fed w parts 0 r, parts-drawn) (rw zero-add at (steps_bytes w feeds draws r (joined parts) 0 (total counts)));
  ended-runs = rw (parts-fed w parts 0 r, parts-after) (steps_ended-runs w feeds draws r (joined parts) (total counts));
}

-- ---- the calls: parts, joined

parts-absorbed : (ms : List (List ℕ)) (r : Record) → r.fed < 2 ^ 64 → absorbed_parts ms r ≡ absorbed (joined ms) r
unfolding absorbed_parts absorbed
parts-absorbed [] r h = sym (absorbed-none r h)
parts-absorbed (m ∷ ms) r h = parts-absorbed ms (absorbed m r) (sum64-lt r.fed (length m)) ∙ sym (absorbed_append m (joined ms) r)

parts_next : (ks : List ℕ) (r : Record) → r.drawn + total ks < 2 ^ 64 → next_parts ks r ≡ next_bytes (total ks) r
unfolding next_parts next_bytes drawn_bytes squeezed
parts_next [] r h = refl
parts_next (k ∷ ks) r h =
    rw (parts_next ks (squeezed k r) (omega (arith, sum64-fits r.drawn k (omega arith)))) (sym (next_bytes-add k (total ks) r (omega arith)))

parts-squeezed : (ks : List ℕ) (r : Record) → r.drawn + total ks < 2 ^ 64 → squeezed_parts ks r ≡ squeezed (total ks) r
unfolding squeezed_parts squeezed after_drawing
parts-squeezed [] r h = ap (λ (n : ℕ). with_drawn n r) (sym (sum64-zero r.drawn (omega arith)))
parts-squeezed (k ∷ ks) r h =
    parts-squeezed ks (squeezed k r) (omega (arith, sum64-fits r.drawn k (omega arith))) ∙ sym (squeezed-add k (total ks) r (omega arith))

-- ---- the calls: one for the whole message, one for d bytes of output, and one for k more

module _ (ticket : ℕ) (mode : Mode) (key m : List ℕ) where
  -- the runs while feeding lasts
  pub calls-feeding-runs : runs_feeding (row mode) (start (row mode) key).runs (length m) < 2 ^ 64
      → (absorbed m (fresh ticket mode key)).runs ≡ runs_feeding (row mode) (start (row mode) key).runs (length m)
  unfolding absorbed fresh start after_run sum64
  calls-feeding-runs = steps_feeding-runs (row mode) (rates mode).feeds (rates mode).draws (fresh ticket mode key) m

  -- the record at the end of feeding: its words and runs, and its other fields
  ended : Record
  ended = end_feeding (row mode) (length m) (feed_bytes (row mode) 0 m (fresh ticket mode key))

  others : Record
  others = with_feeding false (with_fed (sum64 0 (length m)) (fresh ticket mode key))

  finished-whole : finished (absorbed m (fresh ticket mode key)) ≡ with_core_of ended others
  unfolding ended others fresh after_run
  finished-whole = rw zero-add at (finished-is m (fresh ticket mode key) refl)

  -- d bytes having been drawn, the next k are bytes number d to d + k - 1 of the one-shot output
  pub calls-bytes : (d k : ℕ) → d < 2 ^ 64
      → next_bytes k (squeezed d (finished (absorbed m (fresh ticket mode key)))) ≡ drop d (one_shot (row mode) key m (d + k))
  unfolding ended others fresh after_run one_shot start
  calls-bytes d k h =
      ap (λ (x : Record). next_bytes k (squeezed d x)) finished-whole
      ∙ next_bytes-is d k (with_core_of ended others) (omega arith)
      ∙ rw (after_drawing_core (row mode) d 0 ended others, drawn_bytes_core (row mode) k (0 + d) (after_drawing (row mode) 0 d ended) others, zero-add)
      (steps_bytes (row mode) (rates mode).feeds (rates mode).draws (fresh ticket mode key) m d k)

  -- all d bytes at once
  pub calls-all-bytes : (d : ℕ) → next_bytes d (finished (absorbed m (fresh ticket mode key))) ≡ one_shot (row mode) key m d
  unfolding others fresh after_run next_bytes drawn_bytes
  calls-all-bytes d =
      rw zero-add at (next_bytes-add 0 d (finished (absorbed m (fresh ticket mode key))) (rw finished-whole (omega arith)))
      ∙ rw zero-add at (calls-bytes 0 d (omega arith))

  -- the block that is drawn from when feeding has ended is the first of the one-shot output
  pub calls-block : block (finished (absorbed m (fresh ticket mode key))) ≡ one_shot (row mode) key m (row mode).draw_rate
  unfolding block next_bytes others fresh after_run
  calls-block =
      ap block finished-whole
      ∙ sym (block-drawn (row mode) draws x (row mode).draw_rate 0 0 x x (ready-first (row mode) draws 0 x refl) (zero-mod (row mode).draw_rate) draws
      (rw zero-add (le_refl (row mode).draw_rate))).1
      ∙ sym (ap (next_bytes (row mode).draw_rate) finished-whole)
      ∙ calls-all-bytes (row mode).draw_rate
    where
      x : Record
      x = with_core_of ended others

      draws : 0 < (row mode).draw_rate
      draws = (rates mode).draws

  -- a tag is judged by it
  pub calls-tag : (tag : List ℕ) → tag_matches tag (finished (absorbed m (fresh ticket mode key)))
      ≡ same tag (take (row mode).most_drawn (one_shot (row mode) key m (row mode).draw_rate))
  unfolding tag_matches others fresh after_run
  calls-tag tag = ap₂ (λ (a : Mode) (b : List ℕ). same tag (take (row a).most_drawn b)) (ap (λ (x : Record). x.mode) finished-whole) calls-block

  -- and it stays so as long as no more than a block is drawn
  pub calls-verdict : (tag : List ℕ) (d : ℕ) → d ≤ (row mode).draw_rate
      → tag_matches tag (squeezed d (finished (absorbed m (fresh ticket mode key)))) ≡ same tag (take (row mode).most_drawn (one_shot (row mode) key m (row mode).draw_rate))
  unfolding tag_matches others fresh after_run
  calls-verdict tag d h =
      ap₂ (λ (a : Mode) (b : List ℕ). same tag (take (row a).most_drawn b))
      (ap (λ (x : Record). (squeezed d x).mode) finished-whole ∙ ap (λ (x : Record). x.mode) (squeezed-is d (with_core_of ended others)))
      (block-stays d (finished (absorbed m (fresh ticket mode key))) (rw finished-whole refl) (rw finished-whole h) ∙ calls-block)

  -- the runs once feeding has ended
  pub calls-ended-runs : (d : ℕ) → runs_ended (row mode) (start (row mode) key).runs (length m) d < 2 ^ 64
      → (squeezed d (finished (absorbed m (fresh ticket mode key)))).runs ≡ runs_ended (row mode) (start (row mode) key).runs (length m) d
  unfolding ended others fresh after_run start sum64
  calls-ended-runs d fits =
      ap (λ (x : Record). (squeezed d x).runs) finished-whole
      ∙ ap (λ (x : Record). x.runs) (squeezed-is d (with_core_of ended others))
      ∙ ap (λ (x : Record). x.runs) (after_drawing_core (row mode) d 0 ended others)
      ∙ steps_ended-runs (row mode) (rates mode).feeds (rates mode).draws (fresh ticket mode key) m d fits

-- for lengths of 64 bits the formula never is more than 64 bits
pub runs_fit : (mode : Mode) (n d : ℕ) → n < 2 ^ 64 → d < 2 ^ 64 → runs_ended (row mode) 1 n d < 2 ^ 64
unfolding runs_ended
runs_fit mode n d hn hd =
    rw (blocks-drawn (row mode) (rates mode).draws d)
    (omega (arith, eighths n (row mode).feed_rate (rates mode).feeds-word, eighths (d - 1) (row mode).draw_rate (rates mode).draws-word))
  where
    -- blocks of a word at least are an eighth of the bytes at most
    eighths : (n R : ℕ) → 8 ≤ R → 8 * (n / R) ≤ n
    eighths n R h = le_trans (mul-le-mul_right (n / R) h) (mul-div-le n R)

-- the theorem, for the calls
pub streaming-calls : StreamingCallsTheorem
unfolding others fresh after_run
streaming-calls ticket mode key parts counts = record {
  feeding-runs = rw fed-parts (calls-feeding-runs ticket mode key m);
  bytes = λ few. rw (fed-parts, parts_next counts end (rw undrawn few)) (calls-all-bytes ticket mode key m (total counts));
  ended-runs = λ few fits. rw (fed-parts, parts-squeezed counts end (rw undrawn few)) (calls-ended-runs ticket mode key m (total counts) fits);
  verdict = λ tag few.
      rw (fed-parts, parts-squeezed counts end (rw undrawn (omega (arith, few, (rates mode).draws-inside))))
      (calls-verdict ticket mode key m tag (total counts) few);
}
  where
    m : List ℕ
    m = joined parts

    end : Record
    end = finished (absorbed m (fresh ticket mode key))

    fed-parts : absorbed_parts parts (fresh ticket mode key) ≡ absorbed m (fresh ticket mode key)
    fed-parts = parts-absorbed parts (fresh ticket mode key) (omega arith)

    undrawn : end.drawn + total counts ≡ total counts
    undrawn = rw (finished-whole ticket mode key m) (zero-add (total counts))
