-- The hub and the plain machine agree: each call gets the same from both, and so does each call of a list.
-- Assumes nothing.
use Rattle.std.specs.Prelude.{Option, Some, None}
use Rattle.std.proofs.Common.{◌≡◌, ℕ, ◌+◌, Bool, true, false, List, [], ◌∷◌, ◌++◌, drop, sym, refl, ap, ◌∙◌, ap₂, true≢false, arith, ltb-false, eqb-true}
use borrow.Author.Tests.{not-false}
use Rattle.mode.specs.declared.Mode.{Mode}
use Rattle.sponge.specs.declared.record.Record.{Record}
use Rattle.mode.specs.Mode.{row, number_of, named}
use Rattle.sponge.specs.Record.{absorbed, finished, next_bytes, squeezed, tag_matches}
use Rattle.sponge.proofs.Core.{sum64-fits}
use Rattle.calls.specs.Answer.{Answer, opened, counted, judged, summed}
use Rattle.calls.specs.Call.{Call, Open, Feed, Draw, Check, Close, Sum, Response, Step, step, refuse, Event, events, final}
use Rattle.checks.specs.Checks.{OneCheck, checked}
use Rattle.checks.specs.Buffers.{written}
use Rattle.checks.specs.Equality.{same}
use Rattle.calls.specs.Checks.{Standing, open_checks, ticket_checks, feed_own, feed_checks, draw_own, draw_checks, check_own, check_checks}
use Rattle.calls.specs.Keyed.{total}
use Rattle.calls.specs.Machine.{Entry, Machine, empty_machine, runs_of, output_of, new_entry, after_feed, after_draw, after_close, after_check, entry_of, open_machine, feed_machine, draw_machine, check_machine, close_machine, sum_machine, machine}
use Rattle.calls.specs.Machine as plain
use Rattle.calls.proofs.Keyed.{all, named-is}
use Rattle.checks.proofs.Checks.{Pass, checked-both}
use Rattle.calls.proofs.Checks.{never-issued, is-closed, is_open, Tagged, tagged}
use Rattle.calls.proofs.Entries.{number, Good, Entered, missing, entered, Sound, standing_for, entry-is, standing-is, standing-none}
use Rattle.calls.proofs.Sound.{with_new, good_new, good-fed, good-drawn, good-closed, good-checked, sound_empty, sound-step}
use Rattle.hub.specs.declared.Hub.{Hub}
use Rattle.hub.specs.Hub.{empty_hub, record_of, open_hub, feed_hub, draw_hub, check_hub, close_hub, sum_hub, on_hub}
use Rattle.hub.specs.Hub as hub
use Rattle.hub.proofs.Model.{model, count, new-model, fed-model, drawn-model, checked-model, closed-model, drawn-output, verdict}
use Rattle.hub.proofs.Tickets.{ticket, is-absent, record_is, standing-issued, standing-closed, standing-open}
use Rattle.hub.proofs.Represents.{Represents, any, runs_in, runs-small, held_if, settled, settles, next-is, now-open, full-same, represents_empty}

-- ---- calls on a ticket, and one more ticket

-- the same response, and the hub after it represents the machine after it
pub record Same (a : Step Hub) (b : Step Machine) : Type 0 where
  pub responses : a.response ≡ b.response
  pub left : Represents a.after b.after

-- the checks of a call on a ticket, by its standing, and what is done where none fails
abbrev on_ticket : {S : Type 0} → S → List ℕ → (Standing → List OneCheck) → Standing → Step S → Step S
on_ticket s buffer rest x done = checked (refuse s buffer) (ticket_checks x ++ rest x) done

module _ (h : Hub) (m : Machine) (s : Sound m) (rep : Represents h m) where
  refused : (buffer : List ℕ) (n : ℕ) → Same (refuse h buffer n) (refuse m buffer n)
  refused buffer n = record { responses = refl; left = rep }

  -- the hub and the machine ask the same of a ticket: so they agree if they do so on an open ticket where no further check fails
  on_ticket_lem : (t : ℕ) (buffer : List ℕ) (rest : Standing → List OneCheck) (x : Record → Step Hub) (y : Entry → Step Machine)
      → ((e : Entry) → all number t m.entries ≡ e ∷ [] → e.is_open ≡ true → Good e → Pass (rest (standing_for e)) → Same (x (model e)) (y e))
      → Same (on_ticket h buffer rest (hub.standing_of t h) (x (record_of t h))) (on_ticket m buffer rest (plain.standing_of t m) (y (entry_of t m)))
  on_ticket_lem t buffer rest x y done = go (s.once t)
    where
      Goal : Type 0
      Goal = Same (on_ticket h buffer rest (hub.standing_of t h) (x (record_of t h))) (on_ticket m buffer rest (plain.standing_of t m) (y (entry_of t m)))

      one : (e : Entry) → all number t m.entries ≡ e ∷ [] → Good e → (b : Bool) → e.is_open ≡ b → Goal
      one e q g true o =
          let here = held_if h m s rep t e q true o in
          rw (
            standing-open t h e g (rep.listed t ∙ ap any q) here o,
            record_is t h (model e) [] here,
            standing-is t m e q,
            entry-is t m e q,
            is_open (refuse h buffer) (standing_for e) (rest (standing_for e)) (x (model e)) refl o,
            is_open (refuse m buffer) (standing_for e) (rest (standing_for e)) (y e) refl o,
          )
          (checked-both Same (rest (standing_for e)) (refuse h buffer) (refuse m buffer) (x (model e)) (y e) (refused buffer) (done e q o g))
      one e q g false o =
          let issued = standing-issued t h ∙ rep.listed t ∙ ap any q in
          let closed = standing-closed t h (held_if h m s rep t e q false o) in
          rw (
            standing-is t m e q,
            is-closed (refuse h buffer) (hub.standing_of t h) (rest (hub.standing_of t h)) (x (record_of t h)) issued closed,
            is-closed (refuse m buffer) (standing_for e) (rest (standing_for e)) (y (entry_of t m)) refl o,
          )
          (refused buffer 12)

      go : Entered m.entries t → Goal
      go (missing q) =
          rw (
            never-issued (refuse h buffer) (hub.standing_of t h) (rest (hub.standing_of t h)) (x (record_of t h)) (standing-issued t h ∙ rep.listed t ∙ ap any q),
            never-issued (refuse m buffer) (plain.standing_of t m) (rest (plain.standing_of t m)) (y (entry_of t m)) (standing-none t m q),
          )
          (refused buffer 11)
      go (entered e q g) = one e q g e.is_open refl

  -- r is the record of y, the ticket's new entry, which says whether the ticket stays open
  settles-same : (t : ℕ) (e : Entry) → all number t m.entries ≡ e ∷ [] → e.is_open ≡ true → Good e
      → (r : Record) (y : Entry) → r ≡ model y → y.number ≡ e.number → Good y → (b : Bool) → y.is_open ≡ b → (answer : ℕ → Answer) (buffer : List ℕ)
      → Same (step (settled b t r h) (answer r.runs) buffer) (step (plain.put t y m) (answer (runs_of y)) buffer)
  settles-same t e q o g r y is number-kept yg b yo answer buffer =
      rw is
      (record {
        responses = ap (λ (n : ℕ). record { answer = answer n; buffer = buffer }) (count y yg);
        left = settles h m s rep t e q o g y (number-kept ∙ named-is number t m.entries e [] q) yg b yo;
      })

  -- one more ticket, in the first free place
  admitted : (mode : Mode) (key : List ℕ) → Tagged mode → (x : Record) (xs : List Record) → all ticket 0 h.records ≡ x ∷ xs
      → Same (hub.admit (Some mode) key h) (plain.admit (Some mode) key m)
  unfolding hub.admit plain.admit with_new
  admitted mode key short x xs free =
      rw (← next-is h m s rep, new-model m.next mode key)
      (record {
        responses = ap (λ (n : ℕ). record { answer = opened m.next n; buffer = [] }) (count (new_entry m.next mode key) (good_new m.next mode key short));
        left = now-open h m s rep x xs free mode key short;
      })

  -- ---- the calls

  open-same : (n : ℕ) (key : List ℕ) (tagLength : ℕ) → Same (open_hub n key tagLength h) (open_machine n key tagLength m)
  unfolding open_hub open_machine open_checks
  open-same n key tagLength =
      rw (← full-same h m rep, ← rep.issues)
      (checked-both Same (checks (named n tagLength)) (refuse h []) (refuse m []) (hub.admit (named n tagLength) key h) (plain.admit (named n tagLength) key m)
      (refused []) (one (named n tagLength) refl (all ticket 0 h.records) refl))
    where
      checks : Option Mode → List OneCheck
      checks x = open_checks x key tagLength h.issued (hub.absent 0 h)

      one : (x : Option Mode) → named n tagLength ≡ x → (l : List Record) → all ticket 0 h.records ≡ l → Pass (checks x)
          → Same (hub.admit x key h) (plain.admit x key m)
      one None is l free pass = absurd (true≢false pass.0)
      one (Some mode) is (x ∷ xs) free pass = admitted mode key (tagged n tagLength mode is pass.1.1.0) x xs free
      one (Some mode) is [] free pass = absurd (true≢false (sym (is-absent 0 h free) ∙ pass.1.1.1.1.0))

  feed-same : (t : ℕ) (bytes : List ℕ) → Same (feed_hub t bytes h) (feed_machine t bytes m)
  unfolding feed_hub feed_machine feed_checks feed_own after_feed
  feed-same t bytes =
      on_ticket_lem t [] (λ x. feed_own x bytes)
      (λ r. step (hub.put t (absorbed bytes r) h) (counted (absorbed bytes r).runs) [])
      (λ e. step (plain.put t (after_feed bytes e) m) (counted (runs_of (after_feed bytes e))) [])
      (λ e q o g pass.
      settles-same t e q o g (absorbed bytes (model e)) (after_feed bytes e) (fed-model bytes e (not-false _ pass.0)) refl
      (good-fed bytes e g (ltb-false _ _ pass.1.0)) true o counted [])

  draw-same : (t : ℕ) (buffer : List ℕ) (place k : ℕ) → Same (draw_hub t buffer place k h) (draw_machine t buffer place k m)
  unfolding draw_hub draw_machine draw_checks draw_own after_draw
  draw-same t buffer place k =
      on_ticket_lem t buffer (λ x. draw_own x buffer place k)
      (λ r. step (hub.put t (squeezed k (finished r)) h) (counted (squeezed k (finished r)).runs) (written buffer place (next_bytes k (finished r))))
      (λ e. step (plain.put t (after_draw k e) m) (counted (runs_of (after_draw k e))) (written buffer place (drop e.drawn (output_of e (e.drawn + k)))))
      (λ e q o g pass.
      rw (drawn-output e g k)
      (settles-same t e q o g (squeezed k (finished (model e))) (after_draw k e) (drawn-model e g k) refl
      (good-drawn k e g (ltb-false _ _ pass.1.0)) true o counted (written buffer place (drop e.drawn (output_of e (e.drawn + k))))))

  check-same : (t : ℕ) (tag : List ℕ) → Same (check_hub t tag h) (check_machine t tag m)
  unfolding check_hub check_machine check_checks check_own after_draw after_close after_check
  check-same t tag =
      on_ticket_lem t [] (λ x. check_own x tag)
      (λ r. step (hub.release t (finished r).runs h) (judged (tag_matches tag (finished r)) (finished r).runs) [])
      (λ e. step (plain.put t (after_check e) m) (judged (same tag (output_of (after_check e) (row e.mode).most_drawn)) (runs_of (after_check e))) [])
      (λ e q o g pass.
      let tags : number_of e.mode ≡ 2 = eqb-true _ _ (not-false _ pass.0) in
      rw (verdict tag e g tags)
      (settles-same t e q o g (finished (model e)) (after_check e) (checked-model e g) refl (good-checked e g) false refl
      (judged (same tag (output_of (after_check e) (row e.mode).most_drawn))) []))

  close-same : (t : ℕ) → Same (close_hub t h) (close_machine t m)
  unfolding close_hub close_machine ticket_checks after_close
  close-same t =
      on_ticket_lem t [] (λ x. [])
      (λ r. step (hub.release t r.runs h) (counted r.runs) [])
      (λ e. step (plain.put t (after_close e) m) (counted (runs_of (after_close e))) [])
      (λ e q o g pass. settles-same t e q o g (model e) (after_close e) (closed-model e) refl (good-closed e g) false refl counted [])

  sum_same : Same (sum_hub h) (sum_machine m)
  unfolding sum_hub sum_machine
  sum_same = record {
    responses =
        ap (λ (n : ℕ). record { answer = summed n; buffer = [] })
        (sum64-fits h.closed (total runs_in h.records) (omega (arith, rep.runs, runs-small m s)) ∙ rep.runs);
    left = rep;
  }

  pub same_step : (c : Call) → Same (on_hub c h) (machine c m)
  unfolding on_hub machine
  same_step (Open n key tagLength) = open-same n key tagLength
  same_step (Feed t bytes) = feed-same t bytes
  same_step (Draw t buffer place k) = draw-same t buffer place k
  same_step (Check t tag) = check-same t tag
  same_step (Close t) = close-same t
  same_step Sum = sum_same

-- ---- lists of calls

-- from any machine and any hub that represents it
pub from : (calls : List Call) (h : Hub) (m : Machine) → Sound m → Represents h m → events on_hub h calls ≡ events machine m calls
unfolding events
from [] h m s rep = refl
from (c ∷ cs) h m s rep =
    let one = same_step h m s rep c in
    ap₂ (λ (r : Response) (es : List Event). record { call = c; response = r } ∷ es) one.responses
    (from cs (on_hub c h).after (machine c m).after (sound-step c m s) one.left)

-- what is left after a list
pub left_after : (calls : List Call) (h : Hub) (m : Machine) → Sound m → Represents h m
    → Sound (final machine m calls) × Represents (final on_hub h calls) (final machine m calls)
unfolding final
left_after [] h m s rep = (s, rep)
left_after (c ∷ cs) h m s rep = left_after cs (on_hub c h).after (machine c m).after (sound-step c m s) (same_step h m s rep c).left

-- each call of a list, from the empty hub, gets what the plain machine gives it
pub agree : (calls : List Call) → events on_hub empty_hub calls ≡ events machine empty_machine calls
agree calls = from calls empty_hub empty_machine sound_empty represents_empty

-- after it, the hub represents the machine
pub left_by : (calls : List Call) → Sound (final machine empty_machine calls) × Represents (final on_hub empty_hub calls) (final machine empty_machine calls)
left_by calls = left_after calls empty_hub empty_machine sound_empty represents_empty

-- so one more call agrees
pub next-same : (calls : List Call) (c : Call) → Same (on_hub c (final on_hub empty_hub calls)) (machine c (final machine empty_machine calls))
next-same calls c = same_step (final on_hub empty_hub calls) (final machine empty_machine calls) (left_by calls).0 (left_by calls).1 c

pub agree-next : (calls : List Call) (c : Call) → (on_hub c (final on_hub empty_hub calls)).response ≡ (machine c (final machine empty_machine calls)).response
agree-next calls c = (next-same calls c).responses
