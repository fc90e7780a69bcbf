-- The hub beside the plain machine: the places hold the records of the open entries, and the rest are free and hold nothing. What keeps it so.
-- Assumes nothing.
use Rattle.std.proofs.Common.{◌≡◌, ℕ, zero, suc, ◌+◌, ◌^◌, ◌<◌, Bool, true, false, cond, not, ◌&&◌, eqb, leb, ◌≢◌, List, [], ◌∷◌, length, get_or, sym, refl, ap, ◌∙◌, subst, le_refl, add-zero, arith, length-append, length-set, ne_eqb, le-leb}
use mathlib.Core.List.{nil≢cons}
use native.Mathlib.Decide.{ℕ_discrete, dec_lt}
use borrow.Author.Tests.{lt-leb}
use Rattle.mode.specs.declared.Mode.{Mode}
use Rattle.sponge.specs.declared.record.Record.{Record}
use Rattle.sponge.specs.Record.{sum64, vacant}
use Rattle.sponge.proofs.Core.{sum64-fits}
use Rattle.calls.specs.Checks.{most_open}
use Rattle.calls.specs.Keyed.{find, total}
use Rattle.calls.specs.Machine.{Entry, Machine, empty_machine, runs_of, new_entry, open_count}
use Rattle.calls.specs.Machine as plain
use Rattle.calls.proofs.Keyed.{Every, every_replicate, every_set, every_at, most-total, total_append, all, others, inside, found, named-is, all_here, all-gone, all-other, all_new, total-set}
use Rattle.calls.proofs.Entries.{number, Good, most_runs, Sound}
use Rattle.calls.proofs.Checks.{Tagged}
use Rattle.calls.proofs.Sound.{bounded, good_new, put-here, put_other, with_new, new-here, new-other}
use Rattle.hub.specs.declared.Hub.{Hub}
use Rattle.hub.specs.Hub as hub
use Rattle.hub.proofs.Model.{model, model-fields, count}
use Rattle.hub.proofs.Tickets.{ticket, is_issued, is-absent, is-present}

-- ---- the invariant

-- the records of those entries that are open
abbrev pub models : List Entry → List Record
models [] = []
models (e ∷ es) = cond e.is_open (model e ∷ models es) (models es)

-- whether there are entries
abbrev pub any : List Entry → Bool
any [] = false
any (e ∷ es) = true

abbrev pub runs_in : Record → ℕ
runs_in r = r.runs

-- 1 for a place that is taken
abbrev pub taken : Record → ℕ
taken r = cond (eqb r.ticket 0) 0 1

-- where no ticket has it, a place holds the vacant record
abbrev pub Forgets : Record → Type 0
Forgets r = r.ticket ≡ 0 → r ≡ vacant

-- 1 for a ticket that is open
abbrev pub open_one : Entry → ℕ
open_one e = cond e.is_open 1 0

pub record Represents (h : Hub) (m : Machine) : Type 0 where
  -- the places with ticket t hold the record of its entry if that is open, and there are none if it is not
  pub held : (t : ℕ) → 0 < t → all ticket t h.records ≡ models (all number t m.entries)
  -- exactly the issued tickets have an entry
  pub listed : (t : ℕ) → is_issued t h.issued ≡ any (all number t m.entries)
  pub issues : h.issued ≡ length m.entries
  pub places : length h.records ≡ most_open
  -- as many places are taken as tickets are open
  pub takes : total taken h.records ≡ open_count m
  pub forgets : Every Forgets h.records
  -- the runs of the closed tickets and of all places are the formula over all entries, added up
  pub runs : h.closed + total runs_in h.records ≡ total runs_of m.entries

-- the sum of all runs is far below 64 bits
pub runs-small : (m : Machine) → Sound m → total runs_of m.entries + most_runs < 2 ^ 64
runs-small m s = omega (arith, s.few, most-total runs_of most_runs m.entries s.small)

-- ---- a record in a place

model-ticket : (e : Entry) → Good e → (model e).ticket ≡ e.number
model-ticket e g = ap ticket (model-fields e g)

-- of an open ticket
taken-model : (e : Entry) → Good e → 0 < e.number → (taken (model e) ≡ 1) × Forgets (model e)
taken-model e g l =
    let n : (model e).ticket ≢ 0 = λ z. omega (arith, model-ticket e g) in
    (rw (ne_eqb (model e).ticket 0 n), λ z. absurd (n z))

-- none: the place is free
free_is : (h : Hub) (m : Machine) → Represents h m → (x : Record) (xs : List Record) → all ticket 0 h.records ≡ x ∷ xs → x ≡ vacant
free_is h m rep x xs free =
    let there : get_or h.records (find ticket 0 h.records) vacant ≡ x = found ticket 0 h.records x xs free vacant in
    subst Forgets there
    (every_at Forgets h.records (find ticket 0 h.records) vacant rep.forgets (inside ticket 0 h.records x xs free))
    (named-is ticket 0 h.records x xs free)

-- ---- the record and the entry of a ticket

-- what a call leaves of a ticket with record r: it stays open, or it is closed
abbrev pub settled : Bool → ℕ → Record → Hub → Hub
settled true t r h = hub.put t r h
settled false t r h = hub.release t r.runs h

module _ (h : Hub) (m : Machine) (s : Sound m) (rep : Represents h m) (t : ℕ) (e : Entry) (q : all number t m.entries ≡ e ∷ []) where
  -- no entry has number 0
  positive : 0 < t
  positive = go (ℕ_discrete t 0)
    where
      go : Dec (t ≡ 0) → 0 < t
      go (yes z) = absurd (nil≢cons (sym s.zeroth ∙ ap (λ (u : ℕ). all number u m.entries) (sym z) ∙ q))
      go (no n) = omega arith

  -- what the places hold, by whether it is open
  pub held_if : (b : Bool) → e.is_open ≡ b → all ticket t h.records ≡ cond b (model e ∷ []) []
  held_if b o = rep.held t positive ∙ ap models q ∙ ap (λ (b : Bool). cond b (model e ∷ []) []) o

-- the ticket is open
module _ (h : Hub) (m : Machine) (s : Sound m) (rep : Represents h m) (t : ℕ) (e : Entry) (q : all number t m.entries ≡ e ∷ []) (o : e.is_open ≡ true)
    (g : Good e) where
  here : all ticket t h.records ≡ model e ∷ []
  here = held_if h m s rep t e q true o

  above_zero : 0 < t
  above_zero = positive h m s rep t e q

  -- r takes the place of the record, and y that of the entry
  changed : (r : Record) (y : Entry) (closed : ℕ) → y.number ≡ t → ((u : ℕ) → 0 < u → u ≢ t → r.ticket ≢ u)
      → all ticket t (hub.put t r h).records ≡ models (y ∷ [])
      → taken r ≡ open_one y → Forgets r → closed + r.runs ≡ h.closed + runs_of y
      → Represents (record { records = (hub.put t r h).records; issued = h.issued; closed = closed }) (plain.put t y m)
  unfolding hub.put hub.place_of plain.put plain.place_of open_count
  changed r y closed same apart new takes forgets runs = record {
    held = λ u l. held_at u l (ℕ_discrete u t);
    listed = λ u. listed_at u (ℕ_discrete u t);
    issues = rep.issues ∙ sym (length-set m.entries (plain.place_of t m) y);
    places = length-set h.records (hub.place_of t h) r ∙ rep.places;
    takes = omega (arith, rep.takes, takes, old.0, opened, at_place taken, at_entry open_one);
    forgets = every_set Forgets h.records (hub.place_of t h) r rep.forgets forgets;
    runs = omega (arith, rep.runs, runs, count e g, at_place runs_in, at_entry runs_of);
  }
    where
      old : (taken (model e) ≡ 1) × Forgets (model e)
      old = taken-model e g (omega (arith, above_zero, named-is number t m.entries e [] q))

      opened : open_one e ≡ 1
      opened = ap (λ (b : Bool). cond {A = ℕ} b 1 0) o

      at_place : (f : Record → ℕ) → total f (hub.put t r h).records + f (model e) ≡ total f h.records + f r
      at_place f = total-set ticket t h.records (model e) [] here f r

      at_entry : (f : Entry → ℕ) → total f (plain.put t y m).entries + f e ≡ total f m.entries + f y
      at_entry f = total-set number t m.entries e [] q f y

      held_at : (u : ℕ) → 0 < u → Dec (u ≡ t) → all ticket u (hub.put t r h).records ≡ models (all number u (plain.put t y m).entries)
      held_at u l (yes z) = rw (z, put-here t m e y q same) new
      held_at u l (no n) = rw (put_other t m e y q same u n) (all-other ticket t h.records (model e) [] here r u n (apart u l n) ∙ rep.held u l)

      listed_at : (u : ℕ) → Dec (u ≡ t) → is_issued u h.issued ≡ any (all number u (plain.put t y m).entries)
      listed_at u (yes z) = rw (z, put-here t m e y q same) (rep.listed t ∙ ap any q)
      listed_at u (no n) = rw (put_other t m e y q same u n) (rep.listed u)

  -- y is the new entry of the ticket: it says whether the ticket stays open or is closed
  pub settles : (y : Entry) → y.number ≡ t → Good y → (b : Bool) → y.is_open ≡ b → Represents (settled b t (model y) h) (plain.put t y m)
  unfolding vacant hub.put hub.place_of hub.release
  settles y same yg true yo =
      let mine : (model y).ticket ≡ t = model-ticket y yg ∙ same in
      let new = taken-model y yg (omega (arith, above_zero)) in
      changed (model y) y h.closed same (λ u l n z. n (sym z ∙ mine))
      (all_here ticket t h.records (model e) [] here (model y) mine ∙ ap (λ (b : Bool). cond b (model y ∷ []) []) (sym yo))
      (new.0 ∙ ap (λ (b : Bool). cond {A = ℕ} b 1 0) (sym yo)) new.1 (ap (λ (n : ℕ). h.closed + n) (count y yg))
  settles y same yg false yo =
      changed vacant y (sum64 h.closed (model y).runs) same (λ u l n z. omega arith)
      (all-gone ticket t h.records (model e) [] here vacant (λ z. omega (arith, above_zero)) ∙ ap (λ (b : Bool). cond b (model y ∷ []) []) (sym yo))
      (ap (λ (b : Bool). cond {A = ℕ} b 1 0) (sym yo)) (λ z. refl)
      (rw (count y yg, sum64-fits h.closed (runs_of y) (omega (arith, rep.runs, runs-small m s, bounded y yg))) (add-zero (h.closed + runs_of y)))

-- ---- one more ticket

-- a ticket more is issued: the last one, and those before it
issued-last : (n : ℕ) → 0 < n → is_issued n n ≡ true
issued-last n l = rw (ne_eqb n 0 (λ z. omega arith), le-leb n n (le_refl n))

issued-before : (t n : ℕ) → n + 1 ≢ t → is_issued t (n + 1) ≡ is_issued t n
issued-before t n ne = ap (λ (b : Bool). not (eqb t 0) && b) (go (dec_lt n t))
  where
    go : Dec (n < t) → leb t (n + 1) ≡ leb t n
    go (yes l) = lt-leb t (n + 1) (omega arith) ∙ sym (lt-leb t n l)
    go (no l) = le-leb t (n + 1) (omega arith) ∙ sym (le-leb t n (omega arith))

-- its number
pub next-is : (h : Hub) (m : Machine) → Sound m → Represents h m → m.next ≡ h.issued + 1
next-is h m s rep = s.numbered ∙ ap (λ (n : ℕ). n + 1) (sym rep.issues)

-- its record comes to the first free place
module _ (h : Hub) (m : Machine) (s : Sound m) (rep : Represents h m) (x : Record) (xs : List Record) (free : all ticket 0 h.records ≡ x ∷ xs) (mode : Mode)
    (key : List ℕ) (short : Tagged mode) where
  abbrev new : Entry
  new = new_entry m.next mode key

  -- the number was in no place before
  after : m.next ≡ h.issued + 1
  after = next-is h m s rep

  unheld : all ticket m.next h.records ≡ []
  unheld = rep.held m.next (omega (arith, after)) ∙ ap models (s.above m.next (le_refl m.next))

  pub now-open : Represents (record { records = (hub.put 0 (model new) h).records; issued = m.next; closed = h.closed }) (with_new mode key m)
  unfolding vacant hub.put hub.place_of open_count with_new new_entry total
  now-open = record {
    held = λ u l. held_at u l (ℕ_discrete m.next u);
    listed = λ u. listed_at u (ℕ_discrete m.next u);
    issues = omega (arith, s.numbered, length-append m.entries (new ∷ []));
    places = length-set h.records (hub.place_of 0 h) (model new) ∙ rep.places;
    takes = omega (arith, rep.takes, ap taken empty, now.0, at_place taken, total_append open_one m.entries (new ∷ []));
    forgets = every_set Forgets h.records (hub.place_of 0 h) (model new) rep.forgets now.1;
    runs = omega (arith, rep.runs, ap runs_in empty, count new good, at_place runs_in, total_append runs_of m.entries (new ∷ []));
  }
    where
      good : Good new
      good = good_new m.next mode key short

      mine : (model new).ticket ≡ m.next
      mine = model-ticket new good

      empty : x ≡ vacant
      empty = free_is h m rep x xs free

      now : (taken (model new) ≡ 1) × Forgets (model new)
      now = taken-model new good (omega (arith, after))

      at_place : (f : Record → ℕ) → total f (hub.put 0 (model new) h).records + f x ≡ total f h.records + f (model new)
      at_place f = total-set ticket 0 h.records x xs free f (model new)

      held_at : (u : ℕ) → 0 < u → Dec (m.next ≡ u) → all ticket u (hub.put 0 (model new) h).records ≡ models (all number u (with_new mode key m).entries)
      held_at u l (yes z) =
          rw (← z, new-here m s mode key) (all_new ticket 0 h.records x xs free (model new) m.next (λ y. omega (arith, after)) mine unheld)
      held_at u l (no n) =
          rw (new-other m s mode key u n)
          (all-other ticket 0 h.records x xs free (model new) u (λ y. omega arith) (λ y. n (sym mine ∙ y)) ∙ rep.held u l)

      listed_at : (u : ℕ) → Dec (m.next ≡ u) → is_issued u m.next ≡ any (all number u (with_new mode key m).entries)
      listed_at u (yes z) = rw (← z, new-here m s mode key) (issued-last m.next (omega (arith, after)))
      listed_at u (no n) = rw (new-other m s mode key u n, after) (issued-before u h.issued (λ z. n (after ∙ z)) ∙ rep.listed u)

-- ---- free places

free_count : (h : Hub) (m : Machine) → Represents h m → open_count m + length (all ticket 0 h.records) ≡ most_open
free_count h m rep = omega (arith, rep.takes, rep.places, others ticket 0 h.records)

-- no place is free exactly where as many tickets are open as there are places
pub full-same : (h : Hub) (m : Machine) → Represents h m → hub.absent 0 h ≡ leb most_open (open_count m)
full-same h m rep = go (all ticket 0 h.records) refl
  where
    go : (l : List Record) → all ticket 0 h.records ≡ l → hub.absent 0 h ≡ leb most_open (open_count m)
    go [] q = is-absent 0 h q ∙ sym (le-leb most_open (open_count m) (omega (arith, ap length q, free_count h m rep)))
    go (x ∷ xs) q = is-present 0 h x xs q ∙ sym (lt-leb most_open (open_count m) (omega (arith, ap length q, free_count h m rep)))

-- ---- no ticket

none-issued : (t : ℕ) → is_issued t 0 ≡ false
none-issued zero = refl
none-issued (suc t) = rw (ne_eqb (suc t) 0 (λ z. omega arith), lt-leb (suc t) 0 (omega arith))

pub represents_empty : Represents hub.empty_hub empty_machine
unfolding hub.empty_hub empty_machine vacant open_count total
represents_empty = record {
  held = λ t l. rw (ne_eqb 0 t (λ z. omega arith));
  listed = none-issued;
  issues = refl;
  places = refl;
  takes = refl;
  forgets = every_replicate Forgets most_open vacant (λ z. refl);
  runs = refl;
}
