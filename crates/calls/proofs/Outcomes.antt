-- What a call on a sound machine comes to: it is refused, a ticket is issued, the entry of an open ticket is changed, or the sum is given.
-- Assumes nothing.
use Rattle.std.specs.Prelude.{Option, Some, None}
use mathlib.Core.Bool.{Bool, true, false, false≢true}
use mathlib.Core.Path.{◌≡◌, refl, sym, ◌∙◌}
use mathlib.Core.Logic.{◌≢◌}
use mathlib.Core.List.{List, [], ◌∷◌, ◌++◌}
use Prim.Native.Nat.{ℕ, ◌+◌, ◌≤◌, ◌<◌}
use native.Mathlib.Omega.{arith}
use borrow.Author.Tests.{ne_eqb, ltb-false, leb-false, not-false}
use lib.Dec.{leb}
use lib.ListN.{length, drop}
use Rattle.mode.specs.declared.Mode.{Mode}
use Rattle.mode.specs.Mode.{row, named}
use Rattle.calls.specs.Answer.{accepted, opened, counted, judged}
use Rattle.calls.specs.Call.{Call, Open, Feed, Draw, Check, Close, Sum, Step, step, refuse}
use Rattle.checks.specs.Checks.{OneCheck, checked}
use Rattle.checks.specs.Equality.{same}
use Rattle.calls.specs.Checks.{Standing, most_issued, most_fed, most_open}
use Rattle.checks.specs.Buffers.{written}
use Rattle.calls.specs.Checks.{open_checks, ticket_checks, feed_own, feed_checks, draw_own, draw_checks, check_own, check_checks}
use Rattle.calls.specs.Machine.{Entry, Machine, runs_of, output_of, new_entry, after_feed, after_draw, after_close, after_check, entry_of, standing_of, put, open_count, admit}
use Rattle.calls.specs.Machine.{open_machine, feed_machine, draw_machine, check_machine, close_machine, sum_machine, machine}
use Rattle.calls.proofs.Keyed.{all}
use Rattle.checks.proofs.Checks.{Pass, Nonzero, checked_nonzero}
use Rattle.calls.proofs.Checks.{never-issued, is-closed, is_open, Tagged, tagged}
use Rattle.calls.proofs.Entries.{number, Good, Entered, missing, entered, Sound, standing_for, entry-is, standing-is, standing-none}

-- ticket t is open, and e is its entry
pub record OpenTicket (m : Machine) (t : ℕ) (e : Entry) : Type 0 where
  pub only : all number t m.entries ≡ e ∷ []
  pub good : Good e
  pub open-now : e.is_open ≡ true

-- a call on ticket t is refused by 11 or 12, or the ticket is open and the other checks are left: what holds of each of these holds of the call
pub at-ticket : (P : Step Machine → Type 0) (t : ℕ) (buffer : List ℕ) (m : Machine) → Sound m
    → (rest : Standing → List OneCheck) (done : Entry → Step Machine)
    → P (refuse m buffer 11) → P (refuse m buffer 12)
    → ((e : Entry) → OpenTicket m t e → P (checked (refuse m buffer) (rest (standing_for e)) (done e)))
    → P (checked (refuse m buffer) (ticket_checks (standing_of t m) ++ rest (standing_of t m)) (done (entry_of t m)))
at-ticket P t buffer m s rest done never closed others = go (s.once t)
  where
    open_or_not : (e : Entry) → all number t m.entries ≡ e ∷ [] → Good e → (b : Bool) → e.is_open ≡ b
        → P (checked (refuse m buffer) (ticket_checks (standing_for e) ++ rest (standing_for e)) (done e))
    open_or_not e q g true o =
        rw (is_open (refuse m buffer) (standing_for e) (rest (standing_for e)) (done e) refl o) (others e (record { only = q; good = g; open-now = o }))
    open_or_not e q g false o = rw (is-closed (refuse m buffer) (standing_for e) (rest (standing_for e)) (done e) refl o) closed

    go : Entered m.entries t → P (checked (refuse m buffer) (ticket_checks (standing_of t m) ++ rest (standing_of t m)) (done (entry_of t m)))
    go (missing q) = rw (never-issued (refuse m buffer) (standing_of t m) (rest (standing_of t m)) (done (entry_of t m)) (standing-none t m q)) never
    go (entered e q g) = rw (standing-is t m e q, entry-is t m e q) (open_or_not e q g e.is_open refl)

-- what an accepted check does with the entry of its ticket
abbrev pub judges : ℕ → List ℕ → Machine → Entry → Step Machine
judges t tag m e =
    step (put t (after_check e) m) (judged (same tag (output_of (after_check e) (row e.mode).most_drawn)) (runs_of (after_check e))) []

-- each way out of a call, with what the checks have shown
pub data Outcome (m : Machine) : Call → Step Machine → Type 0 where
  refuses : (c : Call) (buffer : List ℕ) (n : ℕ) → n ≢ 0 → Outcome m c (refuse m buffer n)
  issues : (n : ℕ) (mode : Mode) (key : List ℕ) (tagLength : ℕ) → named n tagLength ≡ Some mode → Tagged mode → length m.entries < most_issued
      → Outcome m (Open n key tagLength)
      (step (record { next = m.next + 1; entries = m.entries ++ (new_entry m.next mode key ∷ []) })
      (opened m.next (runs_of (new_entry m.next mode key))) [])
  feeds : (t : ℕ) (bytes : List ℕ) (e : Entry) → OpenTicket m t e → e.feeding ≡ true → length e.fed + length bytes ≤ most_fed
      → Outcome m (Feed t bytes) (step (put t (after_feed bytes e) m) (counted (runs_of (after_feed bytes e))) [])
  draws : (t : ℕ) (buffer : List ℕ) (place count : ℕ) (e : Entry) → OpenTicket m t e → place + count ≤ length buffer
      → e.drawn + count ≤ (row e.mode).most_drawn
      → Outcome m (Draw t buffer place count)
      (step (put t (after_draw count e) m) (counted (runs_of (after_draw count e))) (written buffer place (drop e.drawn (output_of e (e.drawn + count)))))
  checks : (t : ℕ) (tag : List ℕ) (e : Entry) → OpenTicket m t e → Outcome m (Check t tag) (judges t tag m e)
  closes : (t : ℕ) (e : Entry) → OpenTicket m t e → Outcome m (Close t) (step (put t (after_close e) m) (counted (runs_of (after_close e))) [])
  sums : Outcome m Sum (sum_machine m)

-- an accepted check, and the entry of its ticket
pub record AcceptedCheck (m : Machine) (t : ℕ) (tag : List ℕ) (s : Step Machine) : Type 0 where
  pub entry : Entry
  pub ticket : OpenTicket m t entry
  pub done : s ≡ judges t tag m entry

-- ---- the calls

-- no check has number 0, and where none fails the call is done with the ticket's entry
ticket-outcome : (c : Call) (t : ℕ) (buffer : List ℕ) (m : Machine) → Sound m → (rest : Standing → List OneCheck) (done : Entry → Step Machine)
    → ((x : Standing) → Nonzero (rest x)) → ((e : Entry) → OpenTicket m t e → Pass (rest (standing_for e)) → Outcome m c (done e))
    → Outcome m c (checked (refuse m buffer) (ticket_checks (standing_of t m) ++ rest (standing_of t m)) (done (entry_of t m)))
ticket-outcome c t buffer m s rest done numbers accepted =
    at-ticket (Outcome m c) t buffer m s rest done (refuses c buffer 11 (λ z. omega arith)) (refuses c buffer 12 (λ z. omega arith))
    (λ e o. checked_nonzero (Outcome m c) (rest (standing_for e)) (refuse m buffer) (done e) (numbers (standing_for e)) (refuses c buffer) (accepted e o))

open-outcome : (n : ℕ) (key : List ℕ) (tagLength : ℕ) (m : Machine) → Outcome m (Open n key tagLength) (open_machine n key tagLength m)
unfolding open_machine open_checks admit
open-outcome n key tagLength m = go (named n tagLength) refl
  where
    go : (x : Option Mode) → named n tagLength ≡ x
        → Outcome m (Open n key tagLength) (checked (refuse m []) (open_checks x key tagLength (length m.entries) (leb most_open (open_count m))) (admit x key m))
    go (Some mode) h =
        checked_nonzero (Outcome m (Open n key tagLength)) (open_checks (Some mode) key tagLength (length m.entries) (leb most_open (open_count m))) (refuse m [])
        (admit (Some mode) key m) (λ z. omega arith, (λ z. omega arith, (λ z. omega arith, (λ z. omega arith, (λ z. omega arith, tt)))))
        (refuses (Open n key tagLength) [])
        (λ pass. issues n mode key tagLength h (tagged n tagLength mode h pass.1.1.0) (leb-false _ _ pass.1.1.1.0))
    go None h = refuses (Open n key tagLength) [] 1 (λ z. omega arith)

pub outcome : (c : Call) (m : Machine) → Sound m → Outcome m c (machine c m)
unfolding machine feed_machine draw_machine check_machine close_machine feed_checks feed_own draw_checks draw_own check_checks check_own ticket_checks after_draw after_close after_check
outcome (Open n key tagLength) m s = open-outcome n key tagLength m
outcome (Feed t bytes) m s =
    ticket-outcome (Feed t bytes) t [] m s (λ x. feed_own x bytes)
    (λ e. step (put t (after_feed bytes e) m) (counted (runs_of (after_feed bytes e))) []) (λ x. (λ z. omega arith, (λ z. omega arith, tt)))
    (λ e o pass. feeds t bytes e o (not-false _ pass.0) (ltb-false _ _ pass.1.0))
outcome (Draw t buffer place count) m s =
    ticket-outcome (Draw t buffer place count) t buffer m s
    (λ x. draw_own x buffer place count)
    (λ e. step (put t (after_draw count e) m) (counted (runs_of (after_draw count e))) (written buffer place (drop e.drawn (output_of e (e.drawn + count)))))
    (λ x. (λ z. omega arith, (λ z. omega arith, tt)))
    (λ e o pass. draws t buffer place count e o (ltb-false _ _ pass.0) (ltb-false _ _ pass.1.0))
outcome (Check t tag) m s =
    ticket-outcome (Check t tag) t [] m s (λ x. check_own x tag) (judges t tag m) (λ x. (λ z. omega arith, (λ z. omega arith, tt)))
    (λ e o pass. checks t tag e o)
outcome (Close t) m s =
    ticket-outcome (Close t) t [] m s (λ x. []) (λ e. step (put t (after_close e) m) (counted (runs_of (after_close e))) []) (λ x. tt) (λ e o pass. closes t e o)
outcome Sum m s = sums

-- a check that is accepted is one of these
pub accepted-check : (t : ℕ) (tag : List ℕ) (m : Machine) → Sound m → accepted (machine (Check t tag) m).response.answer ≡ true
    → AcceptedCheck m t tag (machine (Check t tag) m)
unfolding machine check_machine check_checks check_own ticket_checks after_draw after_close after_check
accepted-check t tag m s =
    at-ticket P t [] m s (λ x. check_own x tag) (judges t tag m) (λ ok. absurd (false≢true ok)) (λ ok. absurd (false≢true ok))
    (λ e o. checked_nonzero P (check_own (standing_for e) tag) (refuse m []) (judges t tag m e) (λ z. omega arith, (λ z. omega arith, tt))
    (λ n z ok. absurd (false≢true (sym (ne_eqb n 0 z) ∙ ok))) (λ pass ok. record { entry = e; ticket = o; done = refl }))
  where
    P : Step Machine → Type 0
    P r = accepted r.response.answer ≡ true → AcceptedCheck m t tag r
