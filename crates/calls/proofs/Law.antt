-- The law of the plain machine, over any list of calls.
-- Assumes nothing.
use Rattle.std.specs.Prelude.{Some}
use mathlib.Core.Bool.{Bool, true, false, false≢true}
use mathlib.Core.Path.{◌≡◌, refl, sym, ap, ap₂, ◌∙◌, fun_ext}
use mathlib.Core.List.{List, [], ◌∷◌}
use Prim.Native.Nat.{ℕ}
use lib.ListN.{length}
use Rattle.mode.specs.declared.Mode.{Mode}
use Rattle.mode.specs.Mode.{row}
use Rattle.sponge.specs.Sponge.{one_shot}
use Rattle.calls.specs.Answer.{summed}
use Rattle.calls.specs.Call.{Call, Event, events, final}
use Rattle.calls.specs.Keyed.{total}
use Rattle.calls.specs.Law.{Law, Numbered}
use Rattle.calls.specs.Lists.{Issue, unissued, issued_by, run_count, tickets}
use Rattle.calls.specs.Machine.{Entry, Machine, empty_machine, formula, runs_of, output_of, sum_machine, machine}
use Rattle.calls.proofs.Keyed.{all}
use Rattle.calls.proofs.Entries.{number}
use Rattle.calls.proofs.Output.{length-output}
use Rattle.calls.proofs.Sound.{sound_empty, sound-final}
use Rattle.calls.proofs.Readings.{Reading, unread, read_on}
use Rattle.calls.proofs.Tickets.{reading_of, reading, reads-list}
use Rattle.calls.proofs.Sums.{all-tickets, tickets-numbered, runs-all}

-- ---- one ticket

-- what is claimed of a ticket that was issued for a mode and a key
record Claim (mode : Mode) (key : List ℕ) (x : Reading) : Type 0 where
  bytes : x.drawn ≡ one_shot (row mode) key x.fed (length x.drawn)
  count : x.runs ≡ formula mode key x.feeding (length x.fed) (length x.drawn)

is_issued : Issue → Bool
is_issued unissued = false
is_issued (issued_by mode key) = true

-- an entry meets the claim for its own mode and key
entry_claim : (mode : Mode) (key : List ℕ) (es : List Entry) → (reading_of es).issue ≡ issued_by (Some mode) key → Claim mode key (reading_of es)
unfolding reading_of is_issued output_of runs_of
entry_claim mode key [] h = absurd (false≢true (ap is_issued h))
entry_claim mode key (e ∷ es) h = record {
  bytes =
      ap₂ (λ (a : Mode) (k : List ℕ). one_shot (row a) k e.fed e.drawn) modes keys
      ∙ ap (one_shot (row mode) key e.fed) (sym all-drawn);
  count =
      ap₂ (λ (a : Mode) (k : List ℕ). formula a k e.feeding (length e.fed) e.drawn) modes keys
      ∙ ap (formula mode key e.feeding (length e.fed)) (sym all-drawn);
}
  where
    all-drawn : length (output_of e e.drawn) ≡ e.drawn
    all-drawn = length-output e.mode e.key e.fed e.drawn

    modes : e.mode ≡ mode
    modes = cc

    keys : e.key ≡ key
    keys = cc

module _ (calls : List Call) where
  list : List Event
  list = events machine empty_machine calls

  end : Machine
  end = final machine empty_machine calls

  -- what the list says of a ticket is what the machine holds of it in the end
  list-says : (t : ℕ) → read_on t list unread ≡ reading t end
  unfolding empty_machine reading reading_of list end
  list-says t = reads-list calls empty_machine sound_empty t

  -- so its entry, where there is one, is what the list says of it
  pub entry-says : (t : ℕ) (e : Entry) → all number t (final machine empty_machine calls).entries ≡ e ∷ []
      → read_on t (events machine empty_machine calls) unread ≡ reading_of (e ∷ [])
  unfolding reading list end
  entry-says t e h = list-says t ∙ ap reading_of h

  ticket_claim : (t : ℕ) (mode : Mode) (key : List ℕ) → (read_on t list unread).issue ≡ issued_by (Some mode) key → Claim mode key (read_on t list unread)
  unfolding reading
  ticket_claim t mode key = rw (list-says t) (entry_claim mode key (all number t end.entries))

  -- the sum over the entries in the end is the one over the tickets of the list
  list-sum : total runs_of end.entries ≡ total (λ (t : ℕ). run_count t list) (tickets list)
  unfolding empty_machine list end run_count read_on
  list-sum =
      runs-all end (sound-final calls empty_machine sound_empty)
      ∙ ap₂ total (fun_ext (λ t. ap (λ (x : Reading). x.runs) (sym (list-says t)))) (all-tickets calls empty_machine sound_empty)

pub machine_law : (calls : List Call) → Law machine empty_machine calls
unfolding read_on list end machine sum_machine run_count
machine_law calls = record {
  bytes = λ t mode key h. (ticket_claim calls t mode key h).bytes;
  count = λ t mode key h. (ticket_claim calls t mode key h).count;
  sum = ap summed (list-sum calls);
  plain = refl;
}

pub machine-numbered : (calls : List Call) → Numbered machine empty_machine calls
unfolding empty_machine
machine-numbered calls = tickets-numbered calls empty_machine sound_empty
