-- Document 01's third demand, that a refused call changes nothing, what request K2 says of tag lengths and verdicts, and what request K4 says of a check, as
-- statements about anything that answers calls: S is a hub, or another machine, `run` what a call makes of it and `empty` what a list begins with.
-- Assumes nothing.
use Rattle.std.specs.Prelude.{true, false, ◌≡◌, ◌≢◌, List, [], ◌∷◌, ℕ, zero, suc, ◌+◌, length, Option, Some}
use Rattle.mode.specs.declared.Mode.{Mode}
use Rattle.mode.specs.declared.Mode.TheVariants.{Mac}
use Rattle.mode.specs.Mode.{row}
use Rattle.sponge.specs.Sponge.{one_shot}
use Rattle.calls.specs.Answer.{accepted, refused, summed}
use Rattle.calls.specs.Call.{Call, Open, Draw, Check, Close, Sum, Step, Event, events, final}
use Rattle.calls.specs.Keyed.{total}
use Rattle.calls.specs.Machine.{formula, empty_machine, machine}
use Rattle.calls.specs.Lists.{issued_by, issue_of, bytes_fed, bytes_drawn, feeding_lasts, run_count, tickets, after_issue, names, naming, calls_of}

-- k numbers from n on
unfoldable pub up_from : ℕ → ℕ → List ℕ
up_from n zero = []
up_from n (suc k) = n ∷ up_from (n + 1) k

module _ {S : Type 0} (run : Call → S → Step S) (empty : S) where
  -- the calls of a list, each with what it got
  abbrev pub transcript : List Call → List Event
  transcript calls = events run empty calls

  -- The law over one list of calls, refused ones included.
  pub record Law (calls : List Call) : Type 0 where
    -- of a ticket that was issued for a mode, with its tag length, and a key, the bytes drawn, d in all, are the first d bytes of the one-shot output for the
    -- bytes fed
    pub bytes : (t : ℕ) (mode : Mode) (key : List ℕ) → issue_of t (transcript calls) ≡ issued_by (Some mode) key
        → bytes_drawn t (transcript calls) ≡ one_shot (row mode) key (bytes_fed t (transcript calls)) (length (bytes_drawn t (transcript calls)))
    -- its run count, given by the last accepted call on it, is the formula: for whether feeding lasts, n bytes fed and d drawn
    pub count : (t : ℕ) (mode : Mode) (key : List ℕ) → issue_of t (transcript calls) ≡ issued_by (Some mode) key
        → run_count t (transcript calls)
        ≡ formula mode key (feeding_lasts t (transcript calls)) (length (bytes_fed t (transcript calls))) (length (bytes_drawn t (transcript calls)))
    -- the sum after the list, which a sum call gives next, is the run counts of all tickets issued in it, added up
    pub sum : (run Sum (final run empty calls)).response.answer ≡ summed (total (λ (t : ℕ). run_count t (transcript calls)) (tickets (transcript calls)))
    -- what each call gets, answer and buffer, is what the plain machine gives it
    pub plain : transcript calls ≡ events machine empty_machine calls

  -- The tickets of a list, in its order, are 1, 2, 3 and so on: none is given twice.
  abbrev pub Numbered : List Call → Type 0
  Numbered calls = tickets (transcript calls) ≡ up_from 1 (length (tickets (transcript calls)))

  -- the calls that name a ticket once it is issued, with what they got
  abbrev pub exchanges : ℕ → List Call → List Event
  exchanges t calls = naming t (after_issue t (transcript calls))

  -- Tickets stand apart. In two lists ticket t, by that number in both, was issued for the same mode, with its tag length, and the same key, and the calls that
  -- name it from then on are the same, in the same order: then they get the same answers and the same buffers, whatever else the lists hold.
  abbrev pub Apart : Type 0
  Apart =
      (calls others : List Call) (t : ℕ) (mode : Option Mode) (key : List ℕ)
      → issue_of t (transcript calls) ≡ issued_by mode key
      → issue_of t (transcript others) ≡ issued_by mode key
      → calls_of (exchanges t calls) ≡ calls_of (exchanges t others)
      → exchanges t calls ≡ exchanges t others

  -- A refused call changes nothing, whatever it is made on.
  abbrev pub RefusedKeeps : Type 0
  RefusedKeeps = (c : Call) (s : S) → accepted (run c s).response.answer ≡ false → (run c s).after ≡ s

  -- ---- request K2's tag lengths

  -- A tag length counts in mode 2 alone. Two opens in another mode that differ in it alone are alike: in what they leave and in what they get.
  abbrev pub LengthIgnored : Type 0
  LengthIgnored = (mode a b : ℕ) (key : List ℕ) → mode ≢ 2 → (s : S) → run (Open mode key a) s ≡ run (Open mode key b) s

  -- the MAC of all that a list feeds to a ticket, with tags of so many bytes
  abbrev pub mac_fed : List Call → ℕ → ℕ → List ℕ → List ℕ
  mac_fed calls t tagLength key = one_shot (row (Mac tagLength)) key (bytes_fed t (transcript calls)) tagLength

  -- The verdict. A check after a list, on a ticket that was issued for mode 2 with this tag length and this key: if it is accepted, it passes where the tag is
  -- the MAC of the bytes fed, whole, and fails where it is anything else.
  abbrev pub Verdicts : Type 0
  Verdicts =
      (calls : List Call) (t tagLength : ℕ) (key tag : List ℕ)
      → issue_of t (transcript calls) ≡ issued_by (Some (Mac tagLength)) key
      → accepted (run (Check t tag) (final run empty calls)).response.answer ≡ true
      → (tag ≡ mac_fed calls t tagLength key → (run (Check t tag) (final run empty calls)).response.answer.passed ≡ true)
      × (tag ≢ mac_fed calls t tagLength key → (run (Check t tag) (final run empty calls)).response.answer.passed ≡ false)

  -- ---- request K4's check

  -- a check after a list
  abbrev pub check_after : List Call → ℕ → List ℕ → Step S
  check_after calls t tag = run (Check t tag) (final run empty calls)

  -- a draw of no bytes after the list, which ends feeding, and then a close
  abbrev pub close_after : List Call → ℕ → Step S
  close_after calls t = run (Close t) (run (Draw t [] 0 0) (final run empty calls)).after

  -- An accepted check after a list, whatever its verdict, also closes the ticket.
  pub record Closes (calls : List Call) (t : ℕ) (tag : List ℕ) : Type 0 where
    -- it gives the run count that a close after it would have given, if all that the check had done were to end feeding
    pub count : (check_after calls t tag).response.answer.runs ≡ (close_after calls t).response.answer.runs
    -- every call after it gets what it would get after that close
    pub alike : (later : List Call) → events run (check_after calls t tag).after later ≡ events run (close_after calls t).after later
    -- and one that names the ticket is refused with 12, however the list goes on
    pub closed : (later : List Call) (c : Call) → names t c ≡ true
        → (run c (final run (check_after calls t tag).after later)).response.answer ≡ refused 12

  abbrev pub CheckCloses : Type 0
  CheckCloses = (calls : List Call) (t : ℕ) (tag : List ℕ) → accepted (check_after calls t tag).response.answer ≡ true → Closes calls t tag
