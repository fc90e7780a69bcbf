-- The plain machine stays sound: what holds of the entries of the empty machine, and of a machine after any call if it holds before.
-- Assumes nothing.
use mathlib.Core.Bool.{Bool, true, false, false≢true}
use mathlib.Core.Path.{◌≡◌, refl, sym, ap, ◌∙◌}
use mathlib.Core.Logic.{◌≢◌}
use mathlib.Core.List.{List, [], ◌∷◌, ◌++◌, append-nil, nil≢cons}
use Prim.Native.Nat.{ℕ, ◌+◌, ◌-◌, ◌/◌, ◌≤◌, ◌<◌}
use native.Mathlib.Omega.{arith}
use native.Mathlib.Nat.{div-le_self}
use borrow.Author.Tests.{eqb-true, eqb-false}
use lib.Dec.{eqb}
use lib.ListN.{length, length-set, length-append}
use Rattle.mode.specs.declared.Mode.{Mode}
use Rattle.mode.specs.Mode.{row}
use Rattle.sponge.specs.Sponge.{start, runs_feeding, runs_ended}
use Rattle.mode.proofs.Modes.{rates, limits}
use Rattle.sponge.proofs.Drawing.{blocks-drawn}
use Rattle.calls.specs.Call.{Call, Step, refuse, final}
use Rattle.checks.specs.Checks.{OneCheck, checked}
use Rattle.calls.specs.Checks.{Standing, most_issued, most_fed, ticket_checks}
use Rattle.calls.specs.Machine.{Entry, Machine, empty_machine, formula, runs_of, new_entry, after_feed, after_draw, after_close, after_check, place_of, entry_of, standing_of}
use Rattle.calls.specs.Machine.{put, sum_machine, machine}
use Rattle.calls.proofs.Keyed.{every_nil, every_set, every_snoc, all, all_append, all_yes, all_no, all_here, all-other, named-is}
use Rattle.checks.proofs.Checks.{Pass, checked-each}
use Rattle.calls.proofs.Checks.{Tagged}
use Rattle.calls.proofs.Entries.{number, Good, Entered, missing, entered, most_runs, Sound, standing_for}
use Rattle.calls.proofs.Outcomes.{OpenTicket, at-ticket, Outcome, refuses, issues, feeds, draws, checks, closes, sums, outcome}

-- ---- run counts

-- no run count comes near 64 bits
pub bounded : (e : Entry) → Good e → runs_of e ≤ most_runs
unfolding runs_of formula runs_feeding runs_ended start
bounded e g = go e.feeding
  where
    fed : length e.fed / (row e.mode).feed_rate ≤ length e.fed
    fed = div-le_self (length e.fed) (row e.mode).feed_rate

    go : (b : Bool) → formula e.mode e.key b (length e.fed) e.drawn ≤ most_runs
    go true = omega (arith, g.roomy, fed)
    go false =
        rw (blocks-drawn (row e.mode) (rates e.mode).draws e.drawn)
        (omega (arith, g.roomy, g.within, (limits e.mode).drawn g.short, fed, div-le_self (e.drawn - 1) (row e.mode).draw_rate))

-- ---- entries as calls leave them

pub good_new : (n : ℕ) (mode : Mode) (key : List ℕ) → Tagged mode → Good (new_entry n mode key)
unfolding new_entry
good_new n mode key short = record { undrawn = λ _. refl; within = omega arith; roomy = omega arith; short = short }

pub good-fed : (bytes : List ℕ) (e : Entry) → Good e → length e.fed + length bytes ≤ most_fed → Good (after_feed bytes e)
unfolding after_feed
good-fed bytes e g h = record { undrawn = g.undrawn; within = g.within; roomy = rw length-append h; short = g.short }

pub good-drawn : (count : ℕ) (e : Entry) → Good e → e.drawn + count ≤ (row e.mode).most_drawn → Good (after_draw count e)
unfolding after_draw
good-drawn count e g h = record { undrawn = λ f. absurd (false≢true f); within = h; roomy = g.roomy; short = g.short }

pub good-closed : (e : Entry) → Good e → Good (after_close e)
unfolding after_close
good-closed e g = record { undrawn = g.undrawn; within = g.within; roomy = g.roomy; short = g.short }

pub good-checked : (e : Entry) → Good e → Good (after_check e)
unfolding after_draw after_close after_check
good-checked e g = record { undrawn = λ f. absurd (false≢true f); within = omega (arith, g.within); roomy = g.roomy; short = g.short }

-- ---- a machine with one entry changed, and with one more

-- y is the new entry of ticket t, which had the entry e
module _ (t : ℕ) (m : Machine) (e y : Entry) (h : all number t m.entries ≡ e ∷ []) (same : y.number ≡ t) where
  pub put-here : all number t (put t y m).entries ≡ y ∷ []
  unfolding put place_of
  put-here = all_here number t m.entries e [] h y same

  -- the entries of other tickets stay
  pub put_other : (u : ℕ) → u ≢ t → all number u (put t y m).entries ≡ all number u m.entries
  unfolding put place_of
  put_other u n = all-other number t m.entries e [] h y u n (λ z. n (sym z ∙ same))

  put-none : (u : ℕ) → all number u m.entries ≡ [] → all number u (put t y m).entries ≡ []
  put-none u none = put_other u (λ z. nil≢cons (sym none ∙ ap (λ (v : ℕ). all number v m.entries) z ∙ h)) ∙ none

  put-sound : Sound m → Good y → Sound (put t y m)
  unfolding put
  put-sound s g = record {
    once = λ u. go u (eqb u t) refl;
    zeroth = put-none 0 s.zeroth;
    above = λ u l. put-none u (s.above u l);
    numbered = rw length-set s.numbered;
    few = rw length-set s.few;
    small = every_set (λ (x : Entry). runs_of x ≤ most_runs) m.entries (place_of t m) y s.small (bounded y g);
  }
    where
      other : (u : ℕ) → u ≢ t → Entered m.entries u → Entered (put t y m).entries u
      other u n (missing q) = missing (put_other u n ∙ q)
      other u n (entered x q k) = entered x (put_other u n ∙ q) k

      go : (u : ℕ) (b : Bool) → eqb u t ≡ b → Entered (put t y m).entries u
      go u true z = entered y (ap (λ (v : ℕ). all number v (put t y m).entries) (eqb-true u t z) ∙ put-here) g
      go u false z = other u (eqb-false u t z) (s.once u)

-- the machine after an accepted open
unfoldable pub with_new : Mode → List ℕ → Machine → Machine
with_new mode key m = record { next = m.next + 1; entries = m.entries ++ (new_entry m.next mode key ∷ []) }

module _ (m : Machine) (s : Sound m) (mode : Mode) (key : List ℕ) where
  pub new-here : all number m.next (with_new mode key m).entries ≡ new_entry m.next mode key ∷ []
  unfolding with_new new_entry
  new-here = rw (all_append, all_yes number m.next (new_entry m.next mode key) [] refl, s.above m.next (omega arith))

  pub new-other : (u : ℕ) → m.next ≢ u → all number u (with_new mode key m).entries ≡ all number u m.entries
  unfolding with_new new_entry
  new-other u n = rw (all_append, all_no number u (new_entry m.next mode key) [] n, append-nil)

  new-sound : Tagged mode → length m.entries < most_issued → Sound (with_new mode key m)
  unfolding with_new
  new-sound short room = record {
    once = λ u. go u (eqb m.next u) refl;
    zeroth = new-other 0 (λ z. omega (arith, s.numbered)) ∙ s.zeroth;
    above = λ u l. new-other u (λ z. omega arith) ∙ s.above u (omega arith);
    numbered = rw length-append (omega (arith, s.numbered));
    few = rw length-append (omega arith);
    small = every_snoc (λ (x : Entry). runs_of x ≤ most_runs) m.entries (new_entry m.next mode key) s.small (bounded _ (good_new m.next mode key short));
  }
    where
      other : (u : ℕ) → m.next ≢ u → Entered m.entries u → Entered (with_new mode key m).entries u
      other u n (missing q) = missing (new-other u n ∙ q)
      other u n (entered x q k) = entered x (new-other u n ∙ q) k

      go : (u : ℕ) (b : Bool) → eqb m.next u ≡ b → Entered (with_new mode key m).entries u
      go u true z =
          entered (new_entry m.next mode key)
          (ap (λ (v : ℕ). all number v (with_new mode key m).entries) (sym (eqb-true _ _ z)) ∙ new-here)
          (good_new m.next mode key short)
      go u false z = other u (eqb-false _ _ z) (s.once u)

-- ---- the calls

-- the entry of an open ticket is changed
change_sound : (m : Machine) → Sound m → (t : ℕ) (e y : Entry) → OpenTicket m t e → y.number ≡ e.number → Good y → Sound (put t y m)
change_sound m s t e y o same g = put-sound t m e y o.only (same ∙ named-is number t m.entries e [] o.only) s g

-- a property of what a call on ticket t comes to holds if it holds of every refusal, and of what is done with the entry of an open ticket where no check fails
pub on_ticket_lem : (P : Step Machine → Type 0) (t : ℕ) (buffer : List ℕ) (m : Machine) → Sound m
    → (rest : Standing → List OneCheck) (done : Entry → Step Machine)
    → ((n : ℕ) → P (refuse m buffer n))
    → ((e : Entry) → all number t m.entries ≡ e ∷ [] → Good e → Pass (rest (standing_for e)) → P (done e))
    → P (checked (refuse m buffer) (ticket_checks (standing_of t m) ++ rest (standing_of t m)) (done (entry_of t m)))
on_ticket_lem P t buffer m s rest done refused accepted =
    at-ticket P t buffer m s rest done (refused 11) (refused 12)
    (λ e o. checked-each P (rest (standing_for e)) (refuse m buffer) (done e) refused (accepted e o.only o.good))

pub sound_empty : Sound empty_machine
unfolding empty_machine
sound_empty = record {
  once = λ t. missing refl;
  zeroth = refl;
  above = λ t h. refl;
  numbered = refl;
  few = omega arith;
  small = every_nil (λ (x : Entry). runs_of x ≤ most_runs);
}

sound-outcome : (m : Machine) → Sound m → {c : Call} {r : Step Machine} → Outcome m c r → Sound r.after
unfolding with_new after_feed after_draw after_close after_check sum_machine
sound-outcome m s (refuses c buffer n h) = s
sound-outcome m s (issues n mode key tagLength h short room) = new-sound m s mode key short room
sound-outcome m s (feeds t bytes e o h room) = change_sound m s t e (after_feed bytes e) o refl (good-fed bytes e o.good room)
sound-outcome m s (draws t buffer place count e o h room) = change_sound m s t e (after_draw count e) o refl (good-drawn count e o.good room)
sound-outcome m s (checks t tag e o) = change_sound m s t e (after_check e) o refl (good-checked e o.good)
sound-outcome m s (closes t e o) = change_sound m s t e (after_close e) o refl (good-closed e o.good)
sound-outcome m s sums = s

pub sound-step : (c : Call) (m : Machine) → Sound m → Sound (machine c m).after
sound-step c m s = sound-outcome m s (outcome c m s)

-- so it is after any list
pub sound-final : (cs : List Call) (m : Machine) → Sound m → Sound (final machine m cs)
unfolding final
sound-final [] m s = s
sound-final (c ∷ cs) m s = sound-final cs (machine c m).after (sound-step c m s)
