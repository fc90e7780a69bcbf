-- The tickets of a list of calls are the numbers of the plain machine's entries, in order, and so a sum over the entries is a sum over the tickets.
-- Assumes nothing.
use mathlib.Core.Bool.{cond}
use mathlib.Core.Path.{◌≡◌, refl, sym, ap, ap₂, ◌∙◌}
use mathlib.Core.List.{List, [], ◌∷◌, ◌++◌, append-nil, append_assoc, map, map-append}
use Prim.Native.Nat.{ℕ, ◌+◌, ◌≤◌}
use native.Mathlib.Omega.{arith}
use borrow.Author.Tests.{ne_eqb}
use lib.ListN.{length, length-append}
use lib.Seq.{map-set_same, append_snoc}
use Rattle.calls.specs.Call.{Call, Step, Response, events, final}
use Rattle.calls.specs.Keyed.{total}
use Rattle.calls.specs.Law.{up_from}
use Rattle.calls.specs.Answer.{accepted}
use Rattle.calls.specs.Lists.{given_by, tickets}
use Rattle.calls.specs.Machine.{Entry, Machine, runs_of, new_entry, after_feed, after_draw, after_close, after_check, place_of, entry_of, put, sum_machine, machine}
use Rattle.calls.proofs.Keyed.{all, all_append, all_yes}
use Rattle.calls.proofs.Entries.{number, Entered, missing, entered, Sound, entry-is}
use Rattle.calls.proofs.Outcomes.{OpenTicket, Outcome, refuses, issues, feeds, draws, checks, closes, sums, outcome}
use Rattle.calls.proofs.Sound.{sound-step}
use Rattle.calls.proofs.Tickets.{reading_of, reading}

-- ---- the tickets

numbers : Machine → List ℕ
numbers m = map number m.entries

-- the tickets that one call gives
given : Call → Response → List ℕ
given c r = cond (accepted r.answer) (given_by c r) []

-- a changed entry keeps its number
put-numbers : (m : Machine) (t : ℕ) (e y : Entry) → OpenTicket m t e → y.number ≡ e.number → numbers (put t y m) ≡ numbers m ++ []
unfolding numbers put entry_of
put-numbers m t e y o same =
    map-set_same number m.entries (place_of t m) y _ (same ∙ ap number (sym (entry-is t m e o.only))) ∙ sym (append-nil (numbers m))

-- a call adds to the numbers the tickets that it gives
given-outcome : (m : Machine) {c : Call} {r : Step Machine} → Outcome m c r → numbers r.after ≡ numbers m ++ given c r.response
unfolding numbers given new_entry after_feed after_draw after_close after_check sum_machine
given-outcome m (refuses c buffer n h) = rw (ne_eqb n 0 h, append-nil)
given-outcome m (issues n mode key tagLength h short room) = map-append number m.entries (new_entry m.next mode key ∷ [])
given-outcome m (feeds t bytes e o h room) = put-numbers m t e (after_feed bytes e) o refl
given-outcome m (draws t buffer place count e o h room) = put-numbers m t e (after_draw count e) o refl
given-outcome m (checks t tag e o) = put-numbers m t e (after_check e) o refl
given-outcome m (closes t e o) = put-numbers m t e (after_close e) o refl
given-outcome m sums = sym (append-nil (numbers m))

-- the entries after a list are those before it and one for each ticket that the list gives
pub all-tickets : (cs : List Call) (m : Machine) → Sound m
    → map number (final machine m cs).entries ≡ map number m.entries ++ tickets (events machine m cs)
unfolding events final tickets numbers given
all-tickets [] m s = sym (append-nil (numbers m))
all-tickets (c ∷ cs) m s =
    all-tickets cs (machine c m).after (sound-step c m s)
    ∙ ap (λ (l : List ℕ). l ++ tickets (events machine (machine c m).after cs)) (given-outcome m (outcome c m s))
    ∙ append_assoc (numbers m) (given c (machine c m).response) (tickets (events machine (machine c m).after cs))

-- ---- their numbers

-- a call gives no ticket, or the next number, which goes up by one
data Given (m : Machine) (c : Call) (r : Step Machine) : Type 0 where
  none : given c r.response ≡ [] → r.after.next ≡ m.next → Given m c r
  one : given c r.response ≡ m.next ∷ [] → r.after.next ≡ m.next + 1 → Given m c r

given-next : (m : Machine) {c : Call} {r : Step Machine} → Outcome m c r → Given m c r
unfolding given put sum_machine
given-next m (refuses c buffer n h) = none (rw (ne_eqb n 0 h)) refl
given-next m (issues n mode key tagLength h short room) = one refl refl
given-next m (feeds t bytes e o h room) = none refl refl
given-next m (draws t buffer place count e o h room) = none refl refl
given-next m (checks t tag e o) = none refl refl
given-next m (closes t e o) = none refl refl
given-next m sums = none refl refl

-- so the tickets of a list count up from the next number
pub tickets-numbered : (cs : List Call) (m : Machine) → Sound m
    → tickets (events machine m cs) ≡ up_from m.next (length (tickets (events machine m cs)))
unfolding events tickets up_from given
tickets-numbered [] m s = refl
tickets-numbered (c ∷ cs) m s = go (given-next m (outcome c m s)) (tickets-numbered cs (machine c m).after (sound-step c m s))
  where
    rest : List ℕ
    rest = tickets (events machine (machine c m).after cs)

    go : Given m c (machine c m) → rest ≡ up_from (machine c m).after.next (length rest)
        → given c (machine c m).response ++ rest ≡ up_from m.next (length (given c (machine c m).response ++ rest))
    go (none g n) later = rw g (later ∙ ap (λ (k : ℕ). up_from k (length rest)) n)
    go (one g n) later = rw g (ap (λ (l : List ℕ). m.next ∷ l) (later ∙ ap (λ (k : ℕ). up_from k (length rest)) n))

-- ---- the sum

-- ticket t has one entry at most
at-most-once : (l : List Entry) (t : ℕ) → Entered l t → length (all number t l) ≤ 1
at-most-once l t (missing q) = omega (arith, ap length q)
at-most-once l t (entered e q g) = omega (arith, ap length q)

-- where x is the only one, its run count is read
only-runs : (u v : List Entry) (x : Entry) → length (u ++ x ∷ v) ≤ 1 → (reading_of (u ++ x ∷ v)).runs ≡ runs_of x
unfolding reading_of
only-runs [] v x h = refl
only-runs (y ∷ u) v x h = absurd (omega (arith, length-append u (x ∷ v)))

-- the run counts of the entries b, which stand behind the entries a, read by their numbers
runs_behind : (l a b : List Entry) → ((t : ℕ) → Entered l t) → l ≡ a ++ b
    → total runs_of b ≡ total (λ (t : ℕ). (reading_of (all number t l)).runs) (map number b)
unfolding total
runs_behind l a [] once whole = refl
runs_behind l a (x ∷ b) once whole =
    ap₂ (λ (m n : ℕ). m + n) (sym first) (runs_behind l (a ++ (x ∷ [])) b once (whole ∙ sym (append_snoc a x b)))
  where
    here : all number x.number l ≡ all number x.number a ++ x ∷ all number x.number b
    here =
        ap (all number x.number) whole
        ∙ all_append number x.number a (x ∷ b)
        ∙ ap (λ (r : List Entry). all number x.number a ++ r) (all_yes number x.number x b refl)

    first : (reading_of (all number x.number l)).runs ≡ runs_of x
    first =
        ap (λ (r : List Entry). (reading_of r).runs) here
        ∙ only-runs (all number x.number a) (all number x.number b) x (rw here at (at-most-once l x.number (once x.number)))

-- all of them
pub runs-all : (m : Machine) → Sound m → total runs_of m.entries ≡ total (λ (t : ℕ). (reading t m).runs) (map number m.entries)
unfolding reading
runs-all m s = runs_behind m.entries [] m.entries s.once refl
