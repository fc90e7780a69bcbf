-- What the hub reads of a ticket, by the records that have its number.
-- Assumes nothing.
use Rattle.std.proofs.Common.{◌≡◌, ℕ, Bool, true, false, not, ◌&&◌, eqb, leb, List, [], ◌∷◌, length, sym, refl, ap, ◌∙◌, le_refl, le-leb}
use borrow.Author.Tests.{lt-leb}
use Rattle.sponge.specs.declared.record.Record.{Record}
use Rattle.calls.specs.Checks.{Standing}
use Rattle.calls.specs.Machine.{Entry}
use Rattle.calls.proofs.Keyed.{all, absent, inside, found}
use Rattle.calls.proofs.Entries.{Good, standing_for}
use Rattle.hub.specs.declared.Hub.{Hub}
use Rattle.hub.specs.Hub as hub
use Rattle.hub.proofs.Model.{outline, model, model-fields}

abbrev pub ticket : Record → ℕ
ticket r = r.ticket

-- tickets 1 to n are issued
abbrev pub is_issued : ℕ → ℕ → Bool
is_issued t n = not (eqb t 0) && leb t n

-- in no place
pub is-absent : (t : ℕ) (h : Hub) → all ticket t h.records ≡ [] → hub.absent t h ≡ true
unfolding hub.absent hub.place_of
is-absent t h q = rw (absent ticket t h.records q) (le-leb (length h.records) _ (le_refl _))

-- in a place
module _ (t : ℕ) (h : Hub) (r : Record) (rs : List Record) (q : all ticket t h.records ≡ r ∷ rs) where
  pub is-present : hub.absent t h ≡ false
  unfolding hub.absent hub.place_of
  is-present = lt-leb (length h.records) (hub.place_of t h) (inside ticket t h.records r rs q)

  pub record_is : hub.record_of t h ≡ r
  unfolding hub.record_of hub.place_of
  record_is = found ticket t h.records r rs q hub.no_record

-- the standing of a ticket: whether it was issued, and whether it is open where no place has it
pub standing-issued : (t : ℕ) (h : Hub) → (hub.standing_of t h).issued ≡ is_issued t h.issued
unfolding hub.standing_of
standing-issued t h = refl

pub standing-closed : (t : ℕ) (h : Hub) → all ticket t h.records ≡ [] → (hub.standing_of t h).is_open ≡ false
unfolding hub.standing_of
standing-closed t h q = ap not (is-absent t h q)

-- the standing of a ticket that is open, its place holding the record of its entry
pub standing-open : (t : ℕ) (h : Hub) (e : Entry) → Good e
    → is_issued t h.issued ≡ true → all ticket t h.records ≡ model e ∷ [] → e.is_open ≡ true
    → hub.standing_of t h ≡ standing_for e
unfolding hub.standing_of
standing-open t h e g s q o =
    rw (s, is-present t h (model e) [] q, record_is t h (model e) [] q)
    (ap (standing true) (model-fields e g) ∙ ap (λ (b : Bool). standing b (outline e e.drawn e.feeding)) (sym o))
  where
    standing : Bool → Record → Standing
    standing is_open r = record { issued = true; is_open = is_open; mode = r.mode; feeding = r.feeding; fed = r.fed; drawn = r.drawn }
