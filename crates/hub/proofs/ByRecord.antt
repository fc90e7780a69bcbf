-- A call on a ticket in three parts: where the ticket's record is, what the call makes of that record, and how the record is put back. One law for the four calls, over
-- the call's own checks and what it does, of which each of them is an instance. It is for the reader: the promises of the code go by the laws of Calls.
-- Assumes nothing.
use Rattle.std.proofs.Common.{◌≡◌, ℕ, ◌^◌, ◌<◌, ◌≤◌, Bool, true, false, not, ◌==◌, ◌≢◌, List, [], ◌∷◌, ◌++◌, length, sym, refl, ap, ◌∙◌, arith, ne_eqb, le-leb}
use borrow.Author.Tests.{lt-leb}
use lib.Seq.{set-get_or}
use Rattle.sponge.specs.declared.record.Record.{Record}
use Rattle.sponge.specs.Record.{sum64, vacant, absorbed, finished, next_bytes, squeezed, tag_matches}
use Rattle.sponge.proofs.Core.{sum64-zero}
use Rattle.calls.specs.Answer.{Answer, refused, counted, judged}
use Rattle.checks.specs.Checks.{OneCheck, refusal, checked}
use Rattle.checks.specs.Buffers.{written}
use Rattle.checks.proofs.Checks.{checked-both}
use Rattle.calls.specs.Checks.{Standing, ticket_checks, feed_own, feed_checks, draw_own, draw_checks, check_own, check_checks}
use Rattle.calls.specs.Call.{Step, step, refuse}
use Rattle.calls.proofs.Checks.{never-issued, is-closed, is_open}
use Rattle.hub.specs.declared.Hub.{Hub}
use Rattle.hub.specs.Hub.{place_of, absent, no_record, record_of, put_at, put, release, standing_of, feed_hub, draw_hub, check_hub, close_hub}
use Rattle.hub.specs.Records.{record_at, standing_as}

-- ---- where the record is

-- the number of the check that fails, 11 or 12, and place 0; or 0 and the place of the ticket's record
pub record Located : Type 0 where
  pub refusal : ℕ
  pub place : ℕ

abbrev pub nowhere : ℕ → Located
nowhere n = record { refusal = n; place = 0 }

unfoldable pub located : ℕ → Hub → Located
located t h = checked nowhere (ticket_checks (standing_of t h)) (record { refusal = 0; place = place_of t h })

module _ (t : ℕ) (h : Hub) (p : ℕ) (e : p ≡ place_of t h) where
  pub absent_past : length h.records ≤ p → absent t h ≡ true
  unfolding absent
  absent_past l = rw (← e) (le-leb _ _ l)

  pub absent-within : p < length h.records → absent t h ≡ false
  unfolding absent
  absent-within l = rw (← e) (lt-leb _ _ l)

-- tickets 1 to as many as were issued
pub issued_no : (t : ℕ) (h : Hub) → h.issued < t → (standing_of t h).issued ≡ false
unfolding standing_of
issued_no t h l = rw (ne_eqb t 0 (λ e. omega arith), lt-leb _ _ l)

pub issued-zero : (h : Hub) → (standing_of 0 h).issued ≡ false
unfolding standing_of
issued-zero h = refl

pub issued-yes : (t : ℕ) (h : Hub) → t ≢ 0 → t ≤ h.issued → (standing_of t h).issued ≡ true
unfolding standing_of
issued-yes t h n l = rw (ne_eqb t 0 n, le-leb _ _ l)

-- an open ticket has a place
pub open_no : (t : ℕ) (h : Hub) → absent t h ≡ true → (standing_of t h).is_open ≡ false
unfolding standing_of
open_no t h e = rw e

pub open-yes : (t : ℕ) (h : Hub) → absent t h ≡ false → (standing_of t h).is_open ≡ true
unfolding standing_of
open-yes t h e = rw e

module _ (t : ℕ) (h : Hub) where
  pub located-never : (standing_of t h).issued ≡ false → located t h ≡ nowhere 11
  unfolding located ticket_checks
  located-never e = rw e

  pub located-closed : (standing_of t h).issued ≡ true → (standing_of t h).is_open ≡ false → located t h ≡ nowhere 12
  unfolding located ticket_checks
  located-closed e o = rw (e, o)

  pub located-open : (standing_of t h).issued ≡ true → (standing_of t h).is_open ≡ true → located t h ≡ record { refusal = 0; place = place_of t h }
  unfolding located ticket_checks
  located-open e o = rw (e, o)

-- ---- what a call makes of the record

-- the checks 11 and 12 have answered with n, or with 0 where both pass
abbrev pub earlier : ℕ → OneCheck
earlier n = refusal n (not (n == 0))

-- over the call's own checks, what it leaves in the record's place, its answer, and the buffer before it and after
module _ (own : Standing → List OneCheck) (made : Record → Record) (answer : Record → Answer) (before : List ℕ) (buffer : Record → List ℕ) where
  abbrev pub accept : Record → Step Record
  accept r = step (made r) (answer r) (buffer r)

  abbrev pub on_record : ℕ → Record → Step Record
  on_record n r = checked (refuse r before) (earlier n ∷ own (standing_as r)) (accept r)

unfoldable pub feed_record : ℕ → List ℕ → Record → Step Record
feed_record n bytes = on_record (λ s. feed_own s bytes) (absorbed bytes) (λ r. counted (absorbed bytes r).runs) [] (λ r. []) n

unfoldable pub draw_record : ℕ → List ℕ → ℕ → ℕ → Record → Step Record
draw_record n buffer place count =
    on_record (λ s. draw_own s buffer place count) (λ r. squeezed count (finished r)) (λ r. counted (squeezed count (finished r)).runs) buffer
    (λ r. written buffer place (next_bytes count (finished r))) n

-- a check and a close leave a vacant record
unfoldable pub check_record : ℕ → List ℕ → Record → Step Record
check_record n tag = on_record (λ s. check_own s tag) (λ r. vacant) (λ r. judged (tag_matches tag (finished r)) (finished r).runs) [] (λ r. []) n

unfoldable pub close_record : ℕ → Record → Step Record
close_record n = on_record (λ s. []) (λ r. vacant) (λ r. counted r.runs) [] (λ r. []) n

-- ---- how the record is put back

-- after a feed or a draw
abbrev pub put_back : ℕ → Hub → Step Record → Step Hub
put_back p h s = step (put_at p s.after h) s.response.answer s.response.buffer

-- after a check or a close: the runs that it answers with have joined those of the closed tickets
abbrev pub release_back : ℕ → Hub → Step Record → Step Hub
release_back p h s =
    step (record { records = (put_at p s.after h).records; issued = h.issued; closed = sum64 h.closed s.response.answer.runs }) s.response.answer s.response.buffer

-- what was in place p, put back, leaves the hub as it was
pub put_same : (p : ℕ) (h : Hub) → put_at p (record_at p h) h ≡ h
put_same p h i = record { records = set-get_or h.records p no_record i; issued = h.issued; closed = h.closed }

-- ---- the law

-- an open ticket's standing is its record's
as_record : (t : ℕ) (h : Hub) → (standing_of t h).issued ≡ true → (standing_of t h).is_open ≡ true → standing_of t h ≡ standing_as (record_of t h)
unfolding standing_of
as_record t h e o i =
    record { issued = e i; is_open = o i; mode = (record_of t h).mode; feeding = (record_of t h).feeding; fed = (record_of t h).fed; drawn = (record_of t h).drawn }

module _ (own : Standing → List OneCheck) (made : Record → Record) (answer : Record → Answer) (before : List ℕ) (buffer : Record → List ℕ) where
  -- and over how the record is put back: a refused call leaves the hub as it was
  module _ (t : ℕ) (h : Hub) (back : ℕ → Step Record → Step Hub) (same : (p n : ℕ) → refuse h before n ≡ back p (refuse (record_at p h) before n)) where
    abbrev its_place : ℕ
    its_place = place_of t h

    abbrev on_ticket : Step Hub
    on_ticket = checked (refuse h before) (ticket_checks (standing_of t h) ++ own (standing_of t h)) (back its_place (accept own made answer before buffer (record_of t h)))

    -- at a place, after the checks 11 and 12
    abbrev at_place : Located → Step Hub
    at_place l = back l.place (on_record own made answer before buffer l.refusal (record_at l.place h))

    -- an open ticket's own checks
    own-checks : (standing_of t h).issued ≡ true → (standing_of t h).is_open ≡ true
        → checked (refuse h before) (own (standing_of t h)) (back its_place (accept own made answer before buffer (record_of t h))) ≡ at_place (record { refusal = 0; place = its_place })
    unfolding record_of
    own-checks e o =
        ap (λ (s : Standing). checked (refuse h before) (own s) (back its_place (accept own made answer before buffer r))) (as_record t h e o)
        ∙ checked-both (λ (x : Step Hub) (y : Step Record). x ≡ back its_place y) (own (standing_as r)) (refuse h before) (refuse r before)
        _ (accept own made answer before buffer r) (same its_place) (λ pass. refl)
      where
        r : Record
        r = record_of t h

    by-standing : (issued is_open : Bool) → (standing_of t h).issued ≡ issued → (standing_of t h).is_open ≡ is_open → on_ticket ≡ at_place (located t h)
    by-standing false is_open e o =
        never-issued (refuse h before) (standing_of t h) (own (standing_of t h)) _ e ∙ same 0 11 ∙ ap at_place (sym (located-never t h e))
    by-standing true false e o =
        is-closed (refuse h before) (standing_of t h) (own (standing_of t h)) _ e o ∙ same 0 12 ∙ ap at_place (sym (located-closed t h e o))
    by-standing true true e o =
        is_open (refuse h before) (standing_of t h) (own (standing_of t h)) _ e o ∙ own-checks e o ∙ ap at_place (sym (located-open t h e o))

    -- a call on a ticket is what it makes of the ticket's record, put back
    pub by-record : on_ticket ≡ at_place (located t h)
    by-record = by-standing (standing_of t h).issued (standing_of t h).is_open refl refl

-- the four calls
module _ (t : ℕ) (h : Hub) where
  abbrev place : ℕ
  place = (located t h).place

  abbrev number : ℕ
  number = (located t h).refusal

  abbrev there : Record
  there = record_at place h

  back-same : (buffer : List ℕ) (p n : ℕ) → refuse h buffer n ≡ put_back p h (refuse (record_at p h) buffer n)
  back-same buffer p n = ap (λ (g : Hub). refuse g buffer n) (sym (put_same p h))

  pub feed-is : (bytes : List ℕ) → feed_hub t bytes h ≡ put_back place h (feed_record number bytes there)
  unfolding feed_hub feed_checks feed_record put
  feed-is bytes =
      by-record (λ s. feed_own s bytes) (absorbed bytes) (λ r. counted (absorbed bytes r).runs) [] (λ r. []) t h (λ p. put_back p h) (back-same [])

  pub draw-is : (buffer : List ℕ) (from count : ℕ) → draw_hub t buffer from count h ≡ put_back place h (draw_record number buffer from count there)
  unfolding draw_hub draw_checks draw_record put
  draw-is buffer from count =
      by-record (λ s. draw_own s buffer from count) (λ r. squeezed count (finished r)) (λ r. counted (squeezed count (finished r)).runs) buffer
      (λ r. written buffer from (next_bytes count (finished r))) t h (λ p. put_back p h) (back-same buffer)

  -- a refused check or close keeps the runs of the closed tickets as they are, which have 64 bits
  module _ (fits : h.closed < 2 ^ 64) where
    release-same : (p n : ℕ) → refuse h [] n ≡ release_back p h (refuse (record_at p h) [] n)
    release-same p n = sym (λ i. step (record { records = (put_same p h i).records; issued = h.issued; closed = sum64-zero h.closed fits i }) (refused n) [])

    pub check-is : (tag : List ℕ) → check_hub t tag h ≡ release_back place h (check_record number tag there)
    unfolding check_hub check_checks check_record release put
    check-is tag =
        by-record (λ s. check_own s tag) (λ r. vacant) (λ r. judged (tag_matches tag (finished r)) (finished r).runs) [] (λ r. []) t h (λ p. release_back p h)
        release-same

    pub close-is : close_hub t h ≡ release_back place h (close_record number there)
    unfolding close_hub ticket_checks close_record release put
    close-is = by-record (λ s. []) (λ r. vacant) (λ r. counted r.runs) [] (λ r. []) t h (λ p. release_back p h) release-same
