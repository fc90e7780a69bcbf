-- The record of an entry, as a function of the entry; and that what a call makes of the record is the record of what the plain machine makes of the entry.
-- Assumes nothing.
use Rattle.std.proofs.Common.{◌≡◌, ℕ, ◌+◌, ◌^◌, ◌<◌, ◌≤◌, Bool, true, false, cond, List, [], length, drop, sym, refl, ap, ◌∙◌, subst, add-zero, zero-add, arith}
use Rattle.checks.specs.Equality.{same}
use Rattle.mode.specs.declared.Mode.{Mode}
use Rattle.sponge.specs.declared.record.Record.{Record}
use Rattle.mode.specs.Mode.{row, number_of}
use Rattle.mode.proofs.Modes.{limits, is-mac}
use Rattle.sponge.specs.Record.{sum64, with_core, with_drawn, after_run, after_drawing, fresh, absorbed, finished, next_bytes, squeezed, tag_matches}
use Rattle.sponge.proofs.Core.{sum64-fits, sum64-zero, with_core_of}
use Rattle.sponge.proofs.Calls.{absorbed-is, absorbed-none, absorbed_append, finished-is, squeezed-is, squeezed-add, finished-again}
use Rattle.sponge.proofs.Streaming.{calls-feeding-runs, calls-bytes, calls-verdict, calls-ended-runs}
use Rattle.calls.proofs.Checks.{Tagged}
use Rattle.calls.specs.Machine.{Entry, formula, runs_of, output_of, new_entry, after_feed, after_draw, after_close, after_check}
use Rattle.calls.proofs.Output.{take-output}
use Rattle.calls.proofs.Entries.{Good, most_runs}
use Rattle.calls.proofs.Sound.{bounded}

-- ---- the record

-- all bytes are fed
fed_record : Entry → Record
fed_record e = absorbed e.fed (fresh e.number e.mode e.key)

-- feeding has ended, and d bytes are drawn
drawn_record : ℕ → Entry → Record
drawn_record d e = squeezed d (finished (fed_record e))

-- the record of an entry
pub model : Entry → Record
model e = cond e.feeding (fed_record e) (drawn_record e.drawn e)

-- ---- its fields

-- the fields of a record beside its words and runs
abbrev pub outline : Entry → ℕ → Bool → Record
outline e drawn feeding = record { words = []; runs = 0; ticket = e.number; mode = e.mode; fed = length e.fed; drawn = drawn; feeding = feeding }

-- a record that has these fields, with any words and runs, has them with its own
outlined : {x : Record} {words : List ℕ} {runs : ℕ} (o : Record) → x ≡ with_core words runs o → x ≡ with_core_of x o
outlined o h = h ∙ sym (ap (λ (y : Record). with_core_of y o) h)

-- a length that is added to none
from_zero : (n : ℕ) → n < 2 ^ 64 → sum64 0 n ≡ n
from_zero n h = sum64-fits 0 n (omega arith) ∙ zero-add n

module _ (e : Entry) (g : Good e) where
  fed-fits : sum64 0 (length e.fed) ≡ length e.fed
  fed-fits = from_zero (length e.fed) (omega (arith, g.roomy))

  fed-fields : fed_record e ≡ with_core_of (fed_record e) (outline e 0 true)
  unfolding fed_record fresh after_run
  fed-fields = outlined (outline e 0 true) (rw fed-fits at (absorbed-is e.fed (fresh e.number e.mode e.key)))

  ended-fields : finished (fed_record e) ≡ with_core_of (finished (fed_record e)) (outline e 0 false)
  unfolding fed_record fresh after_run
  ended-fields = outlined (outline e 0 false) (rw fed-fits at (finished-is e.fed (fresh e.number e.mode e.key) refl))

  drawn-fields : (d : ℕ) → d < 2 ^ 64 → drawn_record d e ≡ with_core_of (drawn_record d e) (outline e d false)
  unfolding drawn_record
  drawn-fields d h =
      outlined (outline e d false)
      (squeezed-is d ended
      ∙ ap (λ (r : Record). with_core_of drawn (with_drawn (sum64 r.drawn d) r)) ended-fields
      ∙ ap (λ (n : ℕ). with_core_of drawn (outline e n false)) (from_zero d h))
    where
      ended : Record
      ended = finished (fed_record e)

      drawn : Record
      drawn = after_drawing (row ended.mode) ended.drawn d ended

-- no count of bytes drawn comes near 64 bits
drawn-small : (e : Entry) → Good e → e.drawn ≤ 1048576
drawn-small e g = omega (arith, g.within, (limits e.mode).drawn g.short)

pub model-fields : (e : Entry) → Good e → model e ≡ with_core_of (model e) (outline e e.drawn e.feeding)
unfolding model
model-fields e g = go e.feeding refl
  where
    go : (b : Bool) → e.feeding ≡ b
        → cond b (fed_record e) (drawn_record e.drawn e) ≡ with_core_of (cond b (fed_record e) (drawn_record e.drawn e)) (outline e e.drawn b)
    go true h = fed-fields e g ∙ ap (λ (d : ℕ). with_core_of (fed_record e) (outline e d true)) (sym (g.undrawn h))
    go false h = drawn-fields e g e.drawn (omega (arith, drawn-small e g))

-- ---- its run count

pub count : (e : Entry) → Good e → (model e).runs ≡ runs_of e
unfolding model fed_record drawn_record runs_of formula
count e g = go e.feeding (bounded e g)
  where
    go : (b : Bool) → formula e.mode e.key b (length e.fed) e.drawn ≤ most_runs
        → (cond b (fed_record e) (drawn_record e.drawn e)).runs ≡ formula e.mode e.key b (length e.fed) e.drawn
    go true h = calls-feeding-runs e.number e.mode e.key e.fed (omega arith)
    go false h = calls-ended-runs e.number e.mode e.key e.fed e.drawn (omega arith)

-- ---- what the calls make of it

-- by an open
pub new-model : (t : ℕ) (mode : Mode) (key : List ℕ) → fresh t mode key ≡ model (new_entry t mode key)
unfolding model fed_record new_entry fresh after_run
new-model t mode key = sym (absorbed-none (fresh t mode key) (omega arith))

-- by a feed
pub fed-model : (bytes : List ℕ) (e : Entry) → e.feeding ≡ true → absorbed bytes (model e) ≡ model (after_feed bytes e)
unfolding model fed_record after_feed
fed-model bytes e h = rw h (sym (absorbed_append e.fed bytes (fresh e.number e.mode e.key)))

-- by a close, which leaves nothing of it: the run count is this record's
pub closed-model : (e : Entry) → model e ≡ model (after_close e)
unfolding model fed_record drawn_record after_close
closed-model e = refl

-- nothing drawn
squeezed-none : (r : Record) → r.drawn < 2 ^ 64 → squeezed 0 r ≡ r
unfolding squeezed after_drawing
squeezed-none r h = ap (λ (d : ℕ). with_drawn d r) (sum64-zero r.drawn h)

-- a draw or a check ends feeding first, if it lasts
module _ (e : Entry) (g : Good e) where
  ended-model : finished (model e) ≡ drawn_record e.drawn e
  unfolding model drawn_record fed_record
  ended-model = go e.feeding refl
    where
      ended : Record
      ended = finished (fed_record e)

      go : (b : Bool) → e.feeding ≡ b → finished (cond b (fed_record e) (squeezed e.drawn ended)) ≡ squeezed e.drawn ended
      go true h = rw (g.undrawn h) (sym (squeezed-none ended (rw (ended-fields e g) (omega arith))))
      go false h = finished-again e.drawn ended (ap (λ (r : Record). r.feeding) (ended-fields e g))

  -- by a draw
  pub drawn-model : (k : ℕ) → squeezed k (finished (model e)) ≡ model (after_draw k e)
  unfolding model fed_record drawn_record after_draw
  drawn-model k = ap (squeezed k) ended-model ∙ sym (squeezed-add e.drawn k (finished (fed_record e)) (rw (ended-fields e g) (omega (arith, drawn-small e g))))

  -- by a check, before it closes the ticket
  pub checked-model : finished (model e) ≡ model (after_check e)
  unfolding model fed_record drawn_record after_draw after_close after_check
  checked-model = ended-model ∙ ap (λ (d : ℕ). drawn_record d e) (sym (add-zero e.drawn))

  -- the bytes that a draw writes
  pub drawn-output : (k : ℕ) → next_bytes k (finished (model e)) ≡ drop e.drawn (output_of e (e.drawn + k))
  unfolding fed_record drawn_record output_of
  drawn-output k = ap (next_bytes k) ended-model ∙ calls-bytes e.number e.mode e.key e.fed e.drawn k (omega (arith, drawn-small e g))

-- ---- a tag

-- a tag stands in a block, and so does all that is drawn of a MAC
tag-inside : (mode : Mode) → number_of mode ≡ 2 → Tagged mode → (row mode).most_drawn ≤ (row mode).draw_rate
tag-inside mode h short = subst (λ (m : Mode). (row mode).most_drawn ≤ (row m).draw_rate) (sym (is-mac mode h)) (short h)

-- the verdict of a check
pub verdict : (tag : List ℕ) (e : Entry) → Good e → number_of e.mode ≡ 2
    → tag_matches tag (finished (model e)) ≡ same tag (output_of (after_check e) (row e.mode).most_drawn)
unfolding fed_record drawn_record output_of after_draw after_close after_check
verdict tag e g h =
    let inside = tag-inside e.mode h g.short in
    ap (tag_matches tag) (ended-model e g)
    ∙ calls-verdict e.number e.mode e.key e.fed tag e.drawn (omega (arith, g.within, inside))
    ∙ ap (same tag) (take-output e.mode e.key e.fed (row e.mode).most_drawn (row e.mode).draw_rate inside)
