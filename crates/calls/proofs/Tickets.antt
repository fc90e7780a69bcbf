-- What a list of calls says of a ticket is what the plain machine's entry holds: call by call, and so after the list.
-- Assumes nothing.
use Rattle.std.specs.Prelude.{Option, Some}
use mathlib.Core.Bool.{Bool, true, false, ◌&&◌, and-true, and-false}
use mathlib.Core.Path.{◌≡◌, refl, sym, ap, ◌∙◌}
use mathlib.Core.Logic.{◌≢◌}
use mathlib.Core.List.{List, [], ◌∷◌, ◌++◌, append-nil}
use Prim.Native.Nat.{ℕ, ◌+◌, ◌≤◌}
use native.Mathlib.Nat.{add-zero, le_refl}
use borrow.Author.Tests.{eqb-true, eqb-false, ne_eqb}
use lib.Dec.{eqb}
use lib.ListN.{length, take, drop}
use Rattle.mode.specs.declared.Mode.{Mode}
use Rattle.mode.specs.Mode.{named}
use Rattle.sponge.specs.Sponge.{squeeze_bytes, output, one_shot}
use Rattle.calls.specs.Answer.{Answer, refused, opened, counted, judged}
use Rattle.calls.specs.Call.{Call, Open, Feed, Draw, Check, Close, Sum, Step, step, refuse, Response, Event, events, final}
use Rattle.checks.specs.Buffers.{written}
use Rattle.calls.specs.Lists.{concerns, is_on, issued_by}
use Rattle.calls.specs.Machine.{Entry, Machine, runs_of, output_of, new_entry, after_feed, after_draw, after_close, after_check, put, sum_machine, machine}
use Rattle.calls.proofs.Keyed.{all, named-is}
use Rattle.calls.proofs.Entries.{number, Good, Sound}
use Rattle.checks.proofs.Buffers.{read-written}
use Rattle.calls.proofs.Output.{length-later, output-add}
use Rattle.calls.proofs.Outcomes.{OpenTicket, Outcome, refuses, issues, feeds, draws, checks, closes, sums, outcome}
use Rattle.calls.proofs.Sound.{put-here, put_other, with_new, new-here, new-other, sound-step}
use Rattle.calls.proofs.Readings.{Reading, unread, reading_path, read_on, read_call, read_none, read_here, read-other}

-- what the entries of a ticket, one or none, hold of it
unfoldable pub reading_of : List Entry → Reading
reading_of [] = unread
reading_of (e ∷ es) =
    record { issue = issued_by (Some e.mode) e.key; fed = e.fed; drawn = output_of e e.drawn; feeding = e.feeding; runs = runs_of e }

unfoldable pub reading : ℕ → Machine → Reading
reading t m = reading_of (all number t m.entries)

-- a call with what it got, and any list after it: the call takes the reading of each ticket before it to the one after it
record Reads (m : Machine) (c : Call) (r : Step Machine) : Type 0 where
  reads : (t : ℕ) (es : List Event) → read_on t (record { call = c; response = r.response } ∷ es) (reading t m) ≡ read_on t es (reading t r.after)

-- ---- calls on one ticket

-- a call on ticket u that changes the entries of no other
reads-one : (m : Machine) (c : Call) (r : Step Machine) (u : ℕ) → ((t : ℕ) → is_on t (record { call = c; response = r.response }) ≡ eqb u t)
    → read_call c r.response (reading u m) ≡ reading u r.after
    → ((t : ℕ) → t ≢ u → all number t r.after.entries ≡ all number t m.entries) → Reads m c r
unfolding reading
reads-one m c r u on here others = record { reads = λ t es. go t es (eqb u t) refl }
  where
    event : Event
    event = record { call = c; response = r.response }

    go : (t : ℕ) (es : List Event) (b : Bool) → eqb u t ≡ b → read_on t (event ∷ es) (reading t m) ≡ read_on t es (reading t r.after)
    go t es true h = rw (read_here t event es (reading t m) (on t ∙ h), ← eqb-true u t h) (ap (read_on u es) here)
    go t es false h = rw (read-other t event es (reading t m) (on t ∙ h), others t (λ z. eqb-false u t h (sym z)))

-- the entry e of an open ticket becomes y
reads_change : (m : Machine) (c : Call) (a : Answer) (buffer : List ℕ) (u : ℕ) (e y : Entry) → OpenTicket m u e → y.number ≡ e.number
    → ((t : ℕ) → is_on t (record { call = c; response = record { answer = a; buffer = buffer } }) ≡ eqb u t)
    → read_call c (record { answer = a; buffer = buffer }) (reading_of (e ∷ [])) ≡ reading_of (y ∷ []) → Reads m c (step (put u y m) a buffer)
unfolding reading
reads_change m c a buffer u e y o same on here =
    reads-one m c (step (put u y m) a buffer) u on (rw (o.only, put-here u m e y o.only is-u) here) (put_other u m e y o.only is-u)
  where
    is-u : y.number ≡ u
    is-u = same ∙ named-is number u m.entries e [] o.only

no_output : (e : Entry) → output_of e 0 ≡ []
unfolding output_of one_shot output squeeze_bytes
no_output e = refl

-- an accepted open begins what is said of its ticket
reads-new : (m : Machine) → Sound m → (n : ℕ) (mode : Mode) (key : List ℕ) (tagLength : ℕ) → named n tagLength ≡ Some mode
    → Reads m (Open n key tagLength) (step (with_new mode key m) (opened m.next (runs_of (new_entry m.next mode key))) [])
unfolding reading read_call reading_of new_entry
reads-new m s n mode key tagLength h =
    reads-one m (Open n key tagLength) _ m.next (λ t. refl)
    (rw (s.above m.next (le_refl m.next), new-here m s mode key)
    (reading_path (ap (λ (x : Option Mode). issued_by x key) h) refl (sym (no_output (new_entry m.next mode key))) refl refl))
    (λ t n. new-other m s mode key t (λ z. n (sym z)))

-- a sum is on no ticket
reads-sum : (m : Machine) → Reads m Sum (sum_machine m)
unfolding sum_machine
reads-sum m = record { reads = λ t es. read-other t (record { call = Sum; response = (sum_machine m).response }) es (reading t m) refl }

-- ---- the bytes drawn

-- there are none while feeding lasts
drawn-feeding : (bytes : List ℕ) (e : Entry) → Good e → e.feeding ≡ true → output_of e e.drawn ++ [] ≡ output_of (after_feed bytes e) e.drawn
drawn-feeding bytes e g h = append-nil (output_of e e.drawn) ∙ none e ∙ sym (none (after_feed bytes e))
  where
    none : (x : Entry) → output_of x e.drawn ≡ []
    none x = ap (output_of x) (g.undrawn h) ∙ no_output x

-- those drawn before, and those that are read where the draw wrote
drawn-more : (buffer : List ℕ) (place count : ℕ) (e : Entry) → place + count ≤ length buffer
    → output_of e e.drawn ++ take count (drop place (written buffer place (drop e.drawn (output_of e (e.drawn + count))))) ≡ output_of e (e.drawn + count)
unfolding output_of
drawn-more buffer place count e h =
    let n : length (drop e.drawn (output_of e (e.drawn + count))) ≡ count = length-later e.mode e.key e.fed e.drawn count in
    rw (read-written buffer place (drop e.drawn (output_of e (e.drawn + count))) (rw n h) count n)
    (sym (output-add e.mode e.key e.fed e.drawn count))

-- ---- every call, and the list

reads-refused : (m : Machine) (c : Call) (buffer : List ℕ) (n : ℕ) → n ≢ 0 → Reads m c (refuse m buffer n)
reads-refused m c buffer n h = record {
  reads = λ t es. read-other t (record { call = c; response = r }) es (reading t m) (ap (λ (b : Bool). b && concerns t c r) (ne_eqb n 0 h));
}
  where
    r : Response
    r = record { answer = refused n; buffer = buffer }

reads-outcome : (m : Machine) → Sound m → {c : Call} {r : Step Machine} → Outcome m c r → Reads m c r
unfolding with_new read_call reading_of output_of after_feed after_draw after_close after_check
reads-outcome m s (refuses c buffer n h) = reads-refused m c buffer n h
reads-outcome m s (issues n mode key tagLength h short room) = reads-new m s n mode key tagLength h
reads-outcome m s (feeds t bytes e o h room) =
    reads_change m (Feed t bytes) (counted (runs_of (after_feed bytes e))) _ t e (after_feed bytes e) o refl (λ u. refl)
    (reading_path refl refl (drawn-feeding bytes e o.good h) (and-true e.feeding) refl)
reads-outcome m s (draws t buffer place count e o h room) =
    reads_change m (Draw t buffer place count) (counted (runs_of (after_draw count e))) _ t e (after_draw count e) o refl (λ u. refl)
    (reading_path refl (append-nil e.fed) (drawn-more buffer place count e h) (and-false e.feeding) refl)
reads-outcome m s (checks t tag e o) =
    reads_change m (Check t tag) (judged _ (runs_of (after_check e))) _ t e (after_check e) o refl (λ u. refl)
    (reading_path refl (append-nil e.fed) (append-nil (output_of e e.drawn) ∙ ap (output_of e) (sym (add-zero e.drawn))) (and-false e.feeding) refl)
reads-outcome m s (closes t e o) =
    reads_change m (Close t) (counted (runs_of (after_close e))) _ t e (after_close e) o refl (λ u. refl)
    (reading_path refl (append-nil e.fed) (append-nil (output_of e e.drawn)) (and-true e.feeding) refl)
reads-outcome m s sums = reads-sum m

-- the list from a sound machine takes the machine's reading of each ticket to the one at its end
pub reads-list : (cs : List Call) (m : Machine) → Sound m → (t : ℕ) → read_on t (events machine m cs) (reading t m) ≡ reading t (final machine m cs)
unfolding events final
reads-list [] m s t = read_none t (reading t m)
reads-list (c ∷ cs) m s t =
    (reads-outcome m s (outcome c m s)).reads t (events machine (machine c m).after cs) ∙ reads-list cs (machine c m).after (sound-step c m s) t
