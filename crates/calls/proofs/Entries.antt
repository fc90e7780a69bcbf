-- The plain machine's entries: what holds of them at every point of a list of calls, and what the machine reads of a ticket.
-- Assumes nothing.
use mathlib.Core.Bool.{true, false}
use mathlib.Core.Path.{◌≡◌}
use mathlib.Core.List.{List, [], ◌∷◌}
use Prim.Native.Nat.{ℕ, ◌+◌, ◌≤◌}
use native.Mathlib.Nat.{le_refl}
use borrow.Author.Tests.{lt-ltb, le-ltb}
use lib.ListN.{length}
use Rattle.mode.specs.declared.Mode.TheVariants.{Prf}
use Rattle.mode.specs.Mode.{row}
use Rattle.calls.specs.Checks.{Standing, most_issued, most_fed}
use Rattle.calls.specs.Machine.{Entry, Machine, runs_of, new_entry, after_close, place_of, entry_of, standing_of}
use Rattle.calls.proofs.Checks.{Tagged}
use Rattle.calls.proofs.Keyed.{Every, all, absent, inside, found}

abbrev pub number : Entry → ℕ
number e = e.number

-- an entry as accepted calls leave it
pub record Good (e : Entry) : Type 0 where
  -- nothing is drawn while feeding lasts
  pub undrawn : e.feeding ≡ true → e.drawn ≡ 0
  -- the limits are kept
  pub within : e.drawn ≤ (row e.mode).most_drawn
  pub roomy : length e.fed ≤ most_fed
  pub short : Tagged e.mode

-- ticket t has no entry, or one
pub data Entered (entries : List Entry) (t : ℕ) : Type 0 where
  missing : all number t entries ≡ [] → Entered entries t
  entered : (e : Entry) → all number t entries ≡ e ∷ [] → Good e → Entered entries t

-- no run count of a ticket is more than this: 16,777,216 + 1,048,576 + 2, as if every byte fed or drawn took a run
abbrev pub most_runs : ℕ
most_runs = 17825794

pub record Sound (m : Machine) : Type 0 where
  pub once : (t : ℕ) → Entered m.entries t
  -- no ticket has number 0, or a number that is still to come
  pub zeroth : all number 0 m.entries ≡ []
  pub above : (t : ℕ) → m.next ≤ t → all number t m.entries ≡ []
  pub numbered : m.next ≡ length m.entries + 1
  pub few : length m.entries ≤ most_issued
  pub small : Every (λ (e : Entry). runs_of e ≤ most_runs) m.entries

-- ---- what the machine reads of a ticket

-- the standing of an open or closed ticket with this entry
abbrev pub standing_for : Entry → Standing
standing_for e = record { issued = true; is_open = e.is_open; mode = e.mode; feeding = e.feeding; fed = length e.fed; drawn = e.drawn }

pub entry-is : (t : ℕ) (m : Machine) (e : Entry) → all number t m.entries ≡ e ∷ [] → entry_of t m ≡ e
unfolding entry_of place_of
entry-is t m e h = found number t m.entries e [] h (after_close (new_entry 0 Prf []))

pub standing-is : (t : ℕ) (m : Machine) (e : Entry) → all number t m.entries ≡ e ∷ [] → standing_of t m ≡ standing_for e
unfolding standing_of place_of
standing-is t m e h = rw (entry-is t m e h, lt-ltb _ _ (inside number t m.entries e [] h))

pub standing-none : (t : ℕ) (m : Machine) → all number t m.entries ≡ [] → (standing_of t m).issued ≡ false
unfolding standing_of place_of
standing-none t m h = rw (absent number t m.entries h) (le-ltb (length m.entries) _ (le_refl _))
