-- What each call gives, by the numbers of the first checks that fail: of those that every call on a ticket begins with, and of the call's own.
-- Assumes nothing.
use Rattle.std.specs.Prelude.{Option, Some, None}
use Rattle.std.proofs.Common.{◌≡◌, ◌≢◌, ℕ, ◌+◌, ◌%◌, ◌<◌, ◌≤◌, true, false, ◌&&◌, ◌||◌, eqb, ltb, cond, List, [], ◌∷◌, ◌++◌, length, sym, refl, ap, ap₂, ◌∙◌, arith, ltb-false, eq-eqb, ne_eqb, le-leb}
use native.Mathlib.Decide.{ℕ_discrete}
use borrow.Author.Tests.{lt-leb, not-false}
use Rattle.mode.specs.declared.Mode.{Mode}
use Rattle.sponge.specs.declared.record.Record.{Record}
use Rattle.mode.specs.Mode.{row, number_of, named}
use Rattle.mode.proofs.Modes.{number_is, length_ignored, none-renamed, Renamed, renamed}
use Rattle.sponge.specs.Record.{fresh, absorbed, finished, next_bytes, squeezed, tag_matches}
use Rattle.checks.specs.declared.refusal.Refusal.{Refusal}
use Rattle.checks.specs.Refusals.{refusal_number}
use Rattle.checks.specs.Checks.{OneCheck, checked}
use Rattle.checks.specs.Buffers.{written}
use Rattle.checks.proofs.Refusals.{refusal_number-positive}
use Rattle.checks.proofs.Checks.{Pass, Nonzero, refused-by-number, zero-passes, passed-done}
use Rattle.calls.specs.Answer.{opened, counted, judged}
use Rattle.calls.specs.Checks.{most_issued, shortest_tag, longest_tag, wrong_tag_length, Standing, open_checks, ticket_checks, feed_own, feed_checks, draw_own, draw_checks, check_own, check_checks}
use Rattle.calls.specs.Call.{Step, step, refuse}
use Rattle.calls.proofs.Checks.{second-false}
use Rattle.hub.specs.declared.Hub.{Hub}
use Rattle.hub.specs.Hub.{place_of, absent, record_of, put_at, put, release, standing_of, admit, open_hub, feed_hub, draw_hub, check_hub, close_hub}
use Rattle.hub.specs.Records.{record_at, released_at, first_failing, ticket_refusal, standing_as, feed_refusal, draw_refusal, check_refusal}

-- ---- the number of the first check that fails

module _ {A : Type 0} (f : ℕ → A) where
  -- a refusal with that number
  refuses : (cs : List OneCheck) (done : A) (e : Refusal) → refusal_number e ≡ first_failing cs → checked f cs done ≡ f (refusal_number e)
  refuses cs done e n = refused-by-number cs f done (λ z. refusal_number-positive e (n ∙ z)) ∙ ap f (sym n)

  -- the number 0
  accepts : (cs : List OneCheck) (done : A) → Nonzero cs → first_failing cs ≡ 0 → checked f cs done ≡ done
  accepts cs done ns z = passed-done cs f done (zero-passes cs ns z)

  appended : (cs others : List OneCheck) (done : A) → checked f (cs ++ others) done ≡ checked f cs (checked f others done)
  appended [] others done = refl
  appended (c ∷ cs) others done = ap (λ (a : A). cond c.fails (f c.number) a) (appended cs others done)

-- ---- calls on a ticket

module _ (t : ℕ) (h : Hub) where
  -- an open ticket's standing is its record's
  as_record : ticket_refusal t h ≡ 0 → standing_of t h ≡ standing_as (record_of t h)
  unfolding ticket_refusal ticket_checks standing_of
  as_record z =
      let pass : Pass (ticket_checks (standing_of t h)) = zero-passes (ticket_checks (standing_of t h)) ((λ e. omega arith), ((λ e. omega arith), tt)) z in
      let r : Record = record_of t h in
      λ i. record { issued = not-false _ pass.0 i; is_open = not-false _ pass.1.0 i; mode = r.mode; feeding = r.feeding; fed = r.fed; drawn = r.drawn }

  -- over the call's own checks, the buffer that is lent to it, and what is done where no check fails
  module _ (own : Standing → List OneCheck) (before : List ℕ) (done : Step Hub) where
    abbrev on_ticket : Step Hub
    on_ticket = checked (refuse h before) (ticket_checks (standing_of t h) ++ own (standing_of t h)) done

    refused-there : (e : Refusal) → refusal_number e ≡ ticket_refusal t h → on_ticket ≡ refuse h before (refusal_number e)
    unfolding ticket_refusal
    refused-there e n = appended (refuse h before) (ticket_checks (standing_of t h)) (own (standing_of t h)) done
        ∙ refuses (refuse h before) (ticket_checks (standing_of t h)) _ e n

    located : ticket_refusal t h ≡ 0 → on_ticket ≡ checked (refuse h before) (own (standing_as (record_of t h))) done
    unfolding ticket_refusal ticket_checks
    located z = appended (refuse h before) (ticket_checks (standing_of t h)) (own (standing_of t h)) done
        ∙ accepts (refuse h before) (ticket_checks (standing_of t h)) _ ((λ e. omega arith), ((λ e. omega arith), tt)) z
        ∙ ap (λ (s : Standing). checked (refuse h before) (own s) done) (as_record z)

  -- ---- no such ticket is open

  module _ (x : Refusal) (n : refusal_number x ≡ ticket_refusal t h) where
    pub feed_never : (bytes : List ℕ) → feed_hub t bytes h ≡ refuse h [] (refusal_number x)
    unfolding feed_hub feed_checks
    feed_never bytes = refused-there (λ s. feed_own s bytes) [] _ x n

    pub draw_never : (buffer : List ℕ) (place count : ℕ) → draw_hub t buffer place count h ≡ refuse h buffer (refusal_number x)
    unfolding draw_hub draw_checks
    draw_never buffer place count = refused-there (λ s. draw_own s buffer place count) buffer _ x n

    pub check_never : (tag : List ℕ) → check_hub t tag h ≡ refuse h [] (refusal_number x)
    unfolding check_hub check_checks
    check_never tag = refused-there (λ s. check_own s tag) [] _ x n

    pub close_never : close_hub t h ≡ refuse h [] (refusal_number x)
    unfolding close_hub ticket_checks
    close_never = refused-there (λ s. []) [] _ x n

  -- ---- one is, and its record is in place p

  module _ (z : 0 ≡ ticket_refusal t h) (p : ℕ) (at : p ≡ place_of t h) where
    abbrev its : Record
    its = record_at p h

    here : its ≡ record_of t h
    unfolding record_of
    here = ap (λ (q : ℕ). record_at q h) at

    module _ (own : Standing → List OneCheck) (before : List ℕ) (done : Step Hub) where
      refused-own : (x : Refusal) → refusal_number x ≡ first_failing (own (standing_as its)) → on_ticket own before done ≡ refuse h before (refusal_number x)
      refused-own x n = located own before done (sym z)
          ∙ refuses (refuse h before) (own (standing_as (record_of t h))) done x (n ∙ ap (λ (r : Record). first_failing (own (standing_as r))) here)

      accepted : Nonzero (own (standing_as (record_of t h))) → 0 ≡ first_failing (own (standing_as its)) → on_ticket own before done ≡ done
      accepted ns o = located own before done (sym z)
          ∙ accepts (refuse h before) (own (standing_as (record_of t h))) done ns (sym (o ∙ ap (λ (r : Record). first_failing (own (standing_as r))) here))

    -- what is done by the ticket's place and record is done by p and the record in it
    by-place : (done : ℕ → Record → Step Hub) → done (place_of t h) (record_of t h) ≡ done p its
    by-place done = ap₂ done (sym at) (sym here)

    module _ (bytes : List ℕ) where
      pub feed_refused : (x : Refusal) → refusal_number x ≡ feed_refusal bytes its → feed_hub t bytes h ≡ refuse h [] (refusal_number x)
      unfolding feed_hub feed_checks feed_refusal
      feed_refused x n = refused-own (λ s. feed_own s bytes) [] _ x n

      pub feed_done : 0 ≡ feed_refusal bytes its → (r : Record) → r ≡ absorbed bytes its → feed_hub t bytes h ≡ step (put_at p r h) (counted r.runs) []
      unfolding feed_hub feed_checks feed_refusal feed_own put
      feed_done o r is = accepted (λ s. feed_own s bytes) [] _ ((λ h. omega arith), ((λ h. omega arith), tt)) o
          ∙ by-place (λ q s. step (put_at q (absorbed bytes s) h) (counted (absorbed bytes s).runs) [])
          ∙ ap (λ (s : Record). step (put_at p s h) (counted s.runs) []) (sym is)

    module _ (buffer : List ℕ) (place count : ℕ) where
      pub draw_refused : (x : Refusal) → refusal_number x ≡ draw_refusal buffer place count its → draw_hub t buffer place count h ≡ refuse h buffer (refusal_number x)
      unfolding draw_hub draw_checks draw_refusal
      draw_refused x n = refused-own (λ s. draw_own s buffer place count) buffer _ x n

      pub draw_done : 0 ≡ draw_refusal buffer place count its → (r : Record) → r ≡ squeezed count (finished its)
          → (after : List ℕ) → after ≡ written buffer place (next_bytes count (finished its)) → draw_hub t buffer place count h ≡ step (put_at p r h) (counted r.runs) after
      unfolding draw_hub draw_checks draw_refusal draw_own put
      draw_done o r is after wrote = accepted (λ s. draw_own s buffer place count) buffer _ ((λ h. omega arith), ((λ h. omega arith), tt)) o
          ∙ by-place (λ q s. step (put_at q (squeezed count (finished s)) h) (counted (squeezed count (finished s)).runs) (written buffer place (next_bytes count (finished s))))
          ∙ ap₂ (λ (s : Record) (b : List ℕ). step (put_at p s h) (counted s.runs) b) (sym is) (sym wrote)

    module _ (tag : List ℕ) where
      pub check_refused : (x : Refusal) → refusal_number x ≡ check_refusal tag its → check_hub t tag h ≡ refuse h [] (refusal_number x)
      unfolding check_hub check_checks check_refusal
      check_refused x n = refused-own (λ s. check_own s tag) [] _ x n

      pub check_done : 0 ≡ check_refusal tag its → (r : Record) → r ≡ finished its
          → check_hub t tag h ≡ step (released_at p r.runs h) (judged (tag_matches tag r) r.runs) []
      unfolding check_hub check_checks check_refusal check_own release put
      check_done o r is = accepted (λ s. check_own s tag) [] _ ((λ h. omega arith), ((λ h. omega arith), tt)) o
          ∙ by-place (λ q s. step (released_at q (finished s).runs h) (judged (tag_matches tag (finished s)) (finished s).runs) [])
          ∙ ap (λ (s : Record). step (released_at p s.runs h) (judged (tag_matches tag s) s.runs) []) (sym is)

    pub close_done : close_hub t h ≡ step (released_at p its.runs h) (counted its.runs) []
    unfolding close_hub ticket_checks release put
    close_done = located (λ s. []) [] _ (sym z) ∙ by-place (λ q s. step (released_at q s.runs h) (counted s.runs) [])

-- ---- open

-- of a tag length that is not wrong the low byte is all
low_byte : (tagLength : ℕ) → ltb tagLength shortest_tag || ltb longest_tag tagLength ≡ false → tagLength % 256 ≡ tagLength
low_byte tagLength h = omega (arith, ltb-false longest_tag tagLength (second-false (ltb tagLength shortest_tag) (ltb longest_tag tagLength) h))

-- so a mode that is named with the low byte, and has no wrong tag length, is the one that is named
pub named-whole : (n tagLength : ℕ) (m : Mode) → named n (tagLength % 256) ≡ Some m → wrong_tag_length (Some m) tagLength ≡ false → named n tagLength ≡ Some m
named-whole n tagLength m e right = go (ℕ_discrete n 2)
  where
    go : Dec (n ≡ 2) → named n tagLength ≡ Some m
    go (yes two) =
        let tags : number_of m ≡ 2 = number_is n (tagLength % 256) m e ∙ two in
        ap (named n) (sym (low_byte tagLength (rw (eq-eqb (number_of m) 2 tags) at right))) ∙ e
    go (no other) = length_ignored n tagLength (tagLength % 256) other ∙ e

-- modes of one number have the same wrong tag lengths
pub wrong-alike : (a b : Mode) (tagLength : ℕ) → number_of a ≡ number_of b → wrong_tag_length (Some a) tagLength ≡ wrong_tag_length (Some b) tagLength
wrong-alike a b tagLength h = ap (λ (n : ℕ). eqb n 2 && (ltb tagLength shortest_tag || ltb longest_tag tagLength)) h

-- the code names the mode with the low byte of the tag length. That mode has the number and the key length of the one that is named, and where the tag length is
-- not wrong it is that one
module _ (mode : ℕ) (key : List ℕ) (tagLength : ℕ) (h : Hub) where
  pub open_1 : None ≡ named mode (tagLength % 256) → open_hub mode key tagLength h ≡ refuse h [] 1
  unfolding open_hub open_checks
  open_1 e = rw (none-renamed mode (tagLength % 256) tagLength (sym e))

  module _ (m : Mode) (e : Some m ≡ named mode (tagLength % 256)) where
    abbrev open_as : Option Mode → Step Hub
    open_as n = checked (refuse h []) (open_checks n key tagLength h.issued (absent 0 h)) (admit n key h)

    open-renamed : (r : Renamed mode tagLength m) → open_hub mode key tagLength h ≡ open_as (Some r.other)
    unfolding open_hub
    open-renamed r = ap open_as r.is

    abbrev meant : Renamed mode tagLength m
    meant = renamed mode (tagLength % 256) tagLength m (sym e)

    pub open_2 : length key ≢ (row m).key_length → open_hub mode key tagLength h ≡ refuse h [] 2
    unfolding open_checks
    open_2 n = open-renamed meant ∙ rw (ne_eqb (length key) (row meant.other).key_length (λ z. n (z ∙ meant.key)))

    module _ (right : length key ≡ (row m).key_length) where
      pub open_21 : wrong_tag_length (Some m) tagLength ≡ true → open_hub mode key tagLength h ≡ refuse h [] 21
      unfolding open_checks
      open_21 wrong = open-renamed meant ∙ rw (eq-eqb (length key) (row meant.other).key_length (right ∙ sym meant.key), wrong-alike meant.other m tagLength meant.number ∙ wrong)

      module _ (tags : wrong_tag_length (Some m) tagLength ≡ false) where
        open-named : open_hub mode key tagLength h ≡ open_as (Some m)
        unfolding open_hub
        open-named = ap open_as (named-whole mode tagLength m (sym e) tags)

        pub open_14 : most_issued ≤ h.issued → open_hub mode key tagLength h ≡ refuse h [] 14
        unfolding open_checks
        open_14 l = open-named ∙ rw (eq-eqb (length key) (row m).key_length right, tags, le-leb most_issued h.issued l)

        module _ (few : h.issued < most_issued) where
          pub open_13 : absent 0 h ≡ true → open_hub mode key tagLength h ≡ refuse h [] 13
          unfolding open_checks
          open_13 full = open-named ∙ rw (eq-eqb (length key) (row m).key_length right, tags, lt-leb most_issued h.issued few, full)

          pub open_done : absent 0 h ≡ false → (p : ℕ) → p ≡ place_of 0 h → (r : Record) → r ≡ fresh (h.issued + 1) m key
              → open_hub mode key tagLength h ≡ step (record { records = (put_at p r h).records; issued = h.issued + 1; closed = h.closed }) (opened (h.issued + 1) r.runs) []
          unfolding open_checks admit put
          open_done room p at r is = open-named ∙ rw (eq-eqb (length key) (row m).key_length right, tags, lt-leb most_issued h.issued few, room, at, is)
