-- Request K4 on the plain machine: an accepted check leaves what a close leaves where feeding has ended, and a closed ticket stays closed.
-- Assumes nothing.
use mathlib.Core.Bool.{Bool, true, false}
use mathlib.Core.Path.{◌≡◌, refl, sym, ap, ◌∙◌}
use mathlib.Core.List.{List, [], ◌∷◌, ◌++◌}
use Prim.Native.Nat.{ℕ, ◌+◌}
use native.Mathlib.Omega.{arith}
use borrow.Author.Tests.{le-ltb}
use lib.ListN.{drop, set}
use lib.Seq.{set-set}
use Rattle.mode.specs.Mode.{row}
use Rattle.checks.specs.Buffers.{written}
use Rattle.checks.specs.Checks.{OneCheck, checked}
use Rattle.checks.proofs.Checks.{Pass, passed-done}
use Rattle.calls.specs.Answer.{refused, counted}
use Rattle.calls.specs.Call.{Call, Draw, Check, Close, Response, Step, step, refuse, events, final}
use Rattle.calls.specs.Checks.{Standing, ticket_checks, draw_own, draw_checks}
use Rattle.calls.specs.Law.{CheckCloses}
use Rattle.calls.specs.Lists.{names}
use Rattle.calls.specs.Machine.{Entry, Machine, empty_machine, runs_of, output_of, after_draw, after_close, after_check, place_of, entry_of, standing_of, put}
use Rattle.calls.specs.Machine.{draw_machine, close_machine, machine}
use Rattle.calls.proofs.Keyed.{all, find-set, named-is}
use Rattle.calls.proofs.Checks.{is_open, is-closed}
use Rattle.calls.proofs.Entries.{number, Good, Sound, standing_for, entry-is, standing-is}
use Rattle.calls.proofs.Outcomes.{OpenTicket, AcceptedCheck, accepted-check}
use Rattle.calls.proofs.Sound.{put-here, sound_empty, sound-step, sound-final}
use Rattle.calls.proofs.Apart.{act_of, on_entry, call_same, call-other}

-- ---- a check is a draw of no bytes, and a close

-- an entry that is put in place of another with its number is replaced with it
put-put : (t : ℕ) (x y : Entry) (m : Machine) → x.number ≡ t → put t y (put t x m) ≡ put t y m
unfolding put place_of
put-put t x y m k i = record {
  next = m.next;
  entries =
      (ap (λ (p : ℕ). set (set m.entries (place_of t m) x) p y) (find-set number t m.entries x k) ∙ set-set m.entries (place_of t m) x y) i;
}

-- the ticket is open, and no further check fails
module _ (m : Machine) (t : ℕ) (e : Entry) (only : all number t m.entries ≡ e ∷ []) (o : e.is_open ≡ true) where
  passes : (buffer : List ℕ) (rest : Standing → List OneCheck) (done : Entry → Step Machine) → Pass (rest (standing_for e))
      → checked (refuse m buffer) (ticket_checks (standing_of t m) ++ rest (standing_of t m)) (done (entry_of t m)) ≡ done e
  passes buffer rest done pass =
      rw (standing-is t m e only, entry-is t m e only)
      (is_open (refuse m buffer) (standing_for e) (rest (standing_for e)) (done e) refl o ∙ passed-done (rest (standing_for e)) (refuse m buffer) (done e) pass)

  -- a draw of no bytes is accepted
  drawn-none : Good e → (machine (Draw t [] 0 0) m).after ≡ put t (after_draw 0 e) m
  unfolding machine draw_machine draw_checks draw_own ticket_checks
  drawn-none g =
      ap (λ (s : Step Machine). s.after)
      (passes [] (λ x. draw_own x [] 0 0)
      (λ x. step (put t (after_draw 0 x) m) (counted (runs_of (after_draw 0 x))) (written [] 0 (drop x.drawn (output_of x (x.drawn + 0)))))
      (refl, (le-ltb (row e.mode).most_drawn (e.drawn + 0) (omega (arith, g.within)), tt)))

  -- and so is a close
  closed-now : machine (Close t) m ≡ step (put t (after_close e) m) (counted (runs_of (after_close e))) []
  unfolding machine close_machine ticket_checks
  closed-now = passes [] (λ x. []) (λ x. step (put t (after_close x) m) (counted (runs_of (after_close x))) []) tt

module _ (m : Machine) (t : ℕ) (e : Entry) (o : OpenTicket m t e) where
  is-t : e.number ≡ t
  is-t = named-is number t m.entries e [] o.only

  -- one after the other they leave what a check leaves
  both : machine (Close t) (machine (Draw t [] 0 0) m).after ≡ step (put t (after_check e) m) (counted (runs_of (after_check e))) []
  unfolding after_draw after_close after_check
  both =
      ap (machine (Close t)) (drawn-none m t e o.only o.open-now o.good)
      ∙ closed-now (put t ended m) t ended (put-here t m e ended o.only is-t) o.open-now
      ∙ ap (λ (n : Machine). step n (counted (runs_of (after_close ended))) []) (put-put t ended (after_close ended) m is-t)
    where
      ended : Entry
      ended = after_draw 0 e

-- ---- a closed ticket stays closed

-- every call on its entry is refused with 12
refuses-all : (c : Call) (e : Entry) → e.is_open ≡ false → on_entry (act_of c) e ≡ refuse e (act_of c).lent 12
unfolding ticket_checks
refuses-all c e shut = is-closed (refuse e (act_of c).lent) (standing_for e) ((act_of c).further (standing_for e)) _ refl shut

module _ (t : ℕ) (e : Entry) (shut : e.is_open ≡ false) where
  -- so the entry stays
  stays : (c : Call) (m : Machine) → Sound m → all number t m.entries ≡ e ∷ [] → all number t (machine c m).after.entries ≡ e ∷ []
  stays c m s only = go (names t c) refl
    where
      go : (b : Bool) → names t c ≡ b → all number t (machine c m).after.entries ≡ e ∷ []
      go true n = (call_same t c m e n only).entry ∙ ap (λ (x : Step Entry). x.after ∷ []) (refuses-all c e shut)
      go false n = call-other t c m e s only n ∙ only

  stays_closed : (later : List Call) (m : Machine) → Sound m → all number t m.entries ≡ e ∷ [] → (c : Call) → names t c ≡ true
      → (machine c (final machine m later)).response.answer ≡ refused 12
  unfolding final
  stays_closed [] m s only c n =
      ap (λ (r : Response). r.answer) ((call_same t c m e n only).gets ∙ ap (λ (x : Step Entry). x.response) (refuses-all c e shut))
  stays_closed (d ∷ later) m s only c n = stays_closed later (machine d m).after (sound-step d m s) (stays d m s only) c n

pub machine-check-closes : CheckCloses machine empty_machine
unfolding after_draw after_close after_check
machine-check-closes calls t tag ok = record {
  count = ap (λ (x : Step Machine). x.response.answer.runs) check.done ∙ sym (ap (λ (x : Step Machine). x.response.answer.runs) merged);
  alike = λ later. ap (λ (x : Machine). events machine x later) (ap (λ (x : Step Machine). x.after) check.done ∙ sym (ap (λ (x : Step Machine). x.after) merged));
  closed = λ later.
      stays_closed t (after_check e) refl later (machine (Check t tag) m).after (sound-step (Check t tag) m sound)
      (ap (λ (x : Step Machine). all number t x.after.entries) check.done ∙ put-here t m e (after_check e) check.ticket.only (is-t m t e check.ticket));
}
  where
    m : Machine
    m = final machine empty_machine calls

    sound : Sound m
    sound = sound-final calls empty_machine sound_empty

    check : AcceptedCheck m t tag (machine (Check t tag) m)
    check = accepted-check t tag m sound ok

    e : Entry
    e = check.entry

    merged : machine (Close t) (machine (Draw t [] 0 0) m).after ≡ step (put t (after_check e) m) (counted (runs_of (after_check e))) []
    merged = both m t e check.ticket
