-- Tickets stand apart on the plain machine: the calls that name a ticket get what its entry alone decides.
-- Assumes nothing.
use Rattle.std.specs.Prelude.{Option, Some, None}
use mathlib.Core.Bool.{Bool, true, false, cond, and-false, false≢true}
use mathlib.Core.Path.{◌≡◌, refl, sym, ap, ap₂, ◌∙◌}
use mathlib.Core.Logic.{◌≢◌}
use mathlib.Core.List.{List, [], ◌∷◌, ◌++◌, nil≢cons}
use Prim.Native.Nat.{ℕ, ◌+◌}
use native.Mathlib.Omega.{arith}
use borrow.Author.Tests.{eqb-true, eqb-false, ne_eqb}
use lib.Dec.{eqb, leb}
use lib.ListN.{length, drop}
use Rattle.mode.specs.declared.Mode.{Mode}
use Rattle.mode.specs.declared.Mode.TheVariants.{Prf}
use Rattle.mode.specs.Mode.{row, named}
use Rattle.calls.specs.Answer.{Answer, counted, judged}
use Rattle.checks.specs.Checks.{OneCheck, checked}
use Rattle.checks.specs.Buffers.{written}
use Rattle.checks.specs.Equality.{same}
use Rattle.calls.specs.Checks.{Standing, most_open, open_checks, ticket_checks, feed_own, feed_checks, draw_own, draw_checks, check_own, check_checks}
use Rattle.calls.specs.Call.{Call, Open, Feed, Draw, Check, Close, Sum, Response, Step, step, refuse, Event, events}
use Rattle.calls.specs.Machine.{Entry, Machine, empty_machine, runs_of, output_of, new_entry, after_feed, after_draw, after_close, after_check, entry_of, standing_of, put}
use Rattle.calls.specs.Machine.{open_count, admit, open_machine, feed_machine, draw_machine, check_machine, close_machine, sum_machine, machine}
use Rattle.calls.specs.Lists.{Issue, issued_by, issue_by, issue_of, is_on, opens, after_issue, names, naming, calls_of}
use Rattle.calls.specs.Law.{Apart}
use Rattle.calls.proofs.Keyed.{all, named-is}
use Rattle.checks.proofs.Checks.{checked-both, checked-each, checked_nonzero}
use Rattle.calls.proofs.Entries.{number, Sound, standing_for, entry-is, standing-is}
use Rattle.calls.proofs.Sound.{put-here, put_other, with_new, new-here, new-other, on_ticket_lem, sound_empty, sound-step}

-- ---- a call on a ticket

-- the buffer that it lends, its checks after 11 and 12, and of an entry that passes them: what becomes of it, closed or open, the answer and the buffer
pub record Act : Type 0 where
  pub lent : List ℕ
  pub further : Standing → List OneCheck
  pub after : Entry → Entry
  pub answer : Entry → Answer
  pub buffer : Entry → List ℕ

-- an open and a sum name no ticket: of them this is not asked
abbrev pub idle : Act
idle = record { lent = []; further = λ s. []; after = λ e. e; answer = λ e. counted 0; buffer = λ e. [] }

abbrev pub act_of : Call → Act
act_of (Open mode key tagLength) = idle
act_of (Feed t bytes) =
    record { lent = []; further = λ s. feed_own s bytes; after = after_feed bytes; answer = λ e. counted (runs_of (after_feed bytes e)); buffer = λ e. [] }
act_of (Draw t buffer place count) =
    record {
      lent = buffer;
      further = λ s. draw_own s buffer place count;
      after = after_draw count;
      answer = λ e. counted (runs_of (after_draw count e));
      buffer = λ e. written buffer place (drop e.drawn (output_of e (e.drawn + count)));
    }
act_of (Check t tag) =
    record {
      lent = [];
      further = λ s. check_own s tag;
      after = after_check;
      answer = λ e. judged (same tag (output_of (after_check e) (row e.mode).most_drawn)) (runs_of (after_check e));
      buffer = λ e. [];
    }
act_of (Close t) = record { lent = []; further = λ s. []; after = after_close; answer = λ e. counted (runs_of (after_close e)); buffer = λ e. [] }
act_of Sum = idle

-- an entry keeps its number
keeps : (c : Call) (e : Entry) → ((act_of c).after e).number ≡ e.number
unfolding after_feed after_draw after_close after_check
keeps (Open mode key tagLength) e = refl
keeps (Feed t bytes) e = refl
keeps (Draw t buffer place count) e = refl
keeps (Check t tag) e = refl
keeps (Close t) e = refl
keeps Sum e = refl

-- ---- on an entry alone, and on a machine

abbrev pub checks_of : Act → Standing → List OneCheck
checks_of a s = ticket_checks s ++ a.further s

abbrev pub on_entry : Act → Entry → Step Entry
on_entry a e = checked (refuse e a.lent) (checks_of a (standing_for e)) (step (a.after e) (a.answer e) (a.buffer e))

abbrev stored : Act → ℕ → Machine → Entry → Step Machine
stored a t m e = step (put t (a.after e) m) (a.answer e) (a.buffer e)

abbrev on_machine : Act → ℕ → Machine → Step Machine
on_machine a t m = checked (refuse m a.lent) (checks_of a (standing_of t m)) (stored a t m (entry_of t m))

-- a call that names t is its act on t
names_act : (t : ℕ) (c : Call) (m : Machine) → names t c ≡ true → machine c m ≡ on_machine (act_of c) t m
unfolding machine feed_machine draw_machine check_machine close_machine ticket_checks feed_checks draw_checks check_checks after_draw after_close after_check
names_act t (Open mode key tagLength) m h = absurd (false≢true h)
names_act t (Feed u bytes) m h = ap (λ (v : ℕ). machine (Feed v bytes) m) (eqb-true u t h)
names_act t (Draw u buffer place count) m h = ap (λ (v : ℕ). machine (Draw v buffer place count) m) (eqb-true u t h)
names_act t (Check u tag) m h = ap (λ (v : ℕ). machine (Check v tag) m) (eqb-true u t h)
names_act t (Close u) m h = ap (λ (v : ℕ). machine (Close v) m) (eqb-true u t h)
names_act t Sum m h = absurd (false≢true h)

-- what a call gets from a machine it gets from the ticket's entry, and the entry after the one is that after the other
pub record Match (t : ℕ) (s : Step Machine) (o : Step Entry) : Type 0 where
  pub gets : s.response ≡ o.response
  pub entry : all number t s.after.entries ≡ o.after ∷ []

-- a call that names t
pub call_same : (t : ℕ) (c : Call) (m : Machine) (e : Entry) → names t c ≡ true → all number t m.entries ≡ e ∷ [] → Match t (machine c m) (on_entry (act_of c) e)
call_same t c m e n h = rw (names_act t c m n, standing-is t m e h, entry-is t m e h) (go (act_of c) (keeps c e))
  where
    go : (a : Act) → (a.after e).number ≡ e.number → Match t (checked (refuse m a.lent) (checks_of a (standing_for e)) (stored a t m e)) (on_entry a e)
    go a same =
        checked-both (Match t) (checks_of a (standing_for e)) (refuse m a.lent) (refuse e a.lent) (stored a t m e)
        (step (a.after e) (a.answer e) (a.buffer e))
        (λ k. record { gets = refl; entry = h })
        (λ p. record { gets = refl; entry = put-here t m e (a.after e) h (same ∙ named-is number t m.entries e [] h) })

-- ---- calls that do not name t leave its entry

abbrev pub Leaves : ℕ → Machine → Step Machine → Type 0
Leaves t m s = all number t s.after.entries ≡ all number t m.entries

act_other : (c : Call) (t u : ℕ) (m : Machine) → Sound m → eqb u t ≡ false → Leaves t m (on_machine (act_of c) u m)
act_other c t u m sound n =
    on_ticket_lem (Leaves t m) u (act_of c).lent m sound (act_of c).further (stored (act_of c) u m) (λ k. refl)
    (λ e h good pass. put_other u m e ((act_of c).after e) h (keeps c e ∙ named-is number u m.entries e [] h) t (λ q. eqb-false u t n (sym q)))

-- an open makes an entry under the next number
open-other : (t mode : ℕ) (key : List ℕ) (tagLength : ℕ) (m : Machine) → Sound m → m.next ≢ t → Leaves t m (open_machine mode key tagLength m)
unfolding open_machine admit with_new
open-other t mode key tagLength m sound n =
    checked-each (Leaves t m) (open_checks (named mode tagLength) key tagLength (length m.entries) (leb most_open (open_count m))) (refuse m [])
    (admit (named mode tagLength) key m) (λ k. refl) (λ p. go (named mode tagLength))
  where
    go : (mode : Option Mode) → Leaves t m (admit mode key m)
    go (Some mode) = new-other m sound mode key t n
    go None = refl

pub call-other : (t : ℕ) (c : Call) (m : Machine) (e : Entry) → Sound m → all number t m.entries ≡ e ∷ [] → names t c ≡ false → Leaves t m (machine c m)
unfolding machine feed_machine draw_machine check_machine close_machine sum_machine ticket_checks feed_checks draw_checks check_checks after_draw after_close after_check
call-other t (Open mode key tagLength) m e sound h n = open-other t mode key tagLength m sound (λ q. nil≢cons (sym (sound.above t (omega arith)) ∙ h))
call-other t (Feed u bytes) m e sound h n = act_other (Feed u bytes) t u m sound n
call-other t (Draw u buffer place count) m e sound h n = act_other (Draw u buffer place count) t u m sound n
call-other t (Check u tag) m e sound h n = act_other (Check u tag) t u m sound n
call-other t (Close u) m e sound h n = act_other (Close u) t u m sound n
call-other t Sum m e sound h n = refl

-- ---- once a ticket has an entry

-- calls on an entry that is all there is
abbrev alone : Entry → List Call → List Event
alone e calls = events (λ (c : Call). on_entry (act_of c)) e calls

-- the calls that name the ticket get what they get on its entry alone
entered-alone : (t : ℕ) (calls : List Call) (m : Machine) (e : Entry) → Sound m → all number t m.entries ≡ e ∷ []
    → naming t (events machine m calls) ≡ alone e (calls_of (naming t (events machine m calls)))
unfolding events naming calls_of
entered-alone t [] m e sound h = refl
entered-alone t (c ∷ cs) m e sound h =
    go (λ e' h'. entered-alone t cs (machine c m).after e' (sound-step c m sound) h') (names t c) refl
  where
    rest : List Event
    rest = naming t (events machine (machine c m).after cs)

    event : Event
    event = record { call = c; response = (machine c m).response }

    go : ((e' : Entry) → all number t (machine c m).after.entries ≡ e' ∷ [] → rest ≡ alone e' (calls_of rest))
        → (b : Bool) → names t c ≡ b → cond b (event ∷ rest) rest ≡ alone e (calls_of (cond b (event ∷ rest) rest))
    go later true n =
        let match : Match t (machine c m) (on_entry (act_of c) e) = call_same t c m e n h in
        ap₂ (λ (r : Response) (l : List Event). record { call = c; response = r } ∷ l) match.gets (later (on_entry (act_of c) e).after match.entry)
    go later false n = later e (call-other t c m e sound h n ∙ h)

-- ---- up to the open that gives a ticket

-- an event gives ticket t, or says nothing of how it was issued
data Gives (t : ℕ) (e : Event) (es : List Event) : Type 0 where
  given : (mode : ℕ) (key : List ℕ) (tagLength : ℕ) → e.call ≡ Open mode key tagLength → is_on t e ≡ true
      → issue_of t (e ∷ es) ≡ issued_by (named mode tagLength) key → after_issue t (e ∷ es) ≡ es → Gives t e es
  silent : issue_of t (e ∷ es) ≡ issue_of t es → after_issue t (e ∷ es) ≡ after_issue t es → Gives t e es

-- a call that is not an open
no_open : (t : ℕ) (e : Event) (es : List Event) → ((i : Issue) → issue_by e.call i ≡ i) → opens e.call ≡ false → Gives t e es
unfolding issue_of after_issue
no_open t e es same shut = silent (go (is_on t e)) (rw (shut, and-false))
  where
    go : (b : Bool) → cond b (issue_by e.call (issue_of t es)) (issue_of t es) ≡ issue_of t es
    go true = same (issue_of t es)
    go false = refl

gives : (t : ℕ) (c : Call) (r : Response) (es : List Event) → Gives t (record { call = c; response = r }) es
unfolding issue_of after_issue
gives t (Open mode key tagLength) r es = go (is_on t event) refl
  where
    event : Event
    event = record { call = Open mode key tagLength; response = r }

    go : (b : Bool) → is_on t event ≡ b → Gives t event es
    go true on = given mode key tagLength refl on (rw on) (rw on)
    go false on = silent (rw on) (rw on)
gives t (Feed u bytes) r es = no_open t (record { call = Feed u bytes; response = r }) es (λ i. refl) refl
gives t (Draw u buffer place count) r es = no_open t (record { call = Draw u buffer place count; response = r }) es (λ i. refl) refl
gives t (Check u tag) r es = no_open t (record { call = Check u tag; response = r }) es (λ i. refl) refl
gives t (Close u) r es = no_open t (record { call = Close u; response = r }) es (λ i. refl) refl
gives t Sum r es = no_open t (record { call = Sum; response = r }) es (λ i. refl) refl

-- the entry of a ticket as its open leaves it. That no mode is named does not occur
abbrev begun : ℕ → Option Mode → List ℕ → Entry
begun t (Some mode) key = new_entry t mode key
begun t None key = new_entry t Prf key

-- an accepted open that gives ticket t makes this entry
open-same : (t mode : ℕ) (key : List ℕ) (tagLength : ℕ) (m : Machine) → Sound m
    → is_on t (record { call = Open mode key tagLength; response = (open_machine mode key tagLength m).response }) ≡ true
    → all number t (open_machine mode key tagLength m).after.entries ≡ begun t (named mode tagLength) key ∷ []
unfolding open_machine open_checks admit with_new
open-same t mode key tagLength m sound =
    checked_nonzero P (open_checks meant key tagLength (length m.entries) (leb most_open (open_count m))) (refuse m []) (admit meant key m)
    ((λ q. omega arith), ((λ q. omega arith), ((λ q. omega arith), ((λ q. omega arith), ((λ q. omega arith), tt)))))
    (λ k z q. absurd (false≢true (rw (ne_eqb k 0 z) at q))) (λ p. go meant)
  where
    meant : Option Mode
    meant = named mode tagLength

    On : Step Machine → Type 0
    On s = is_on t (record { call = Open mode key tagLength; response = s.response }) ≡ true

    P : Step Machine → Type 0
    P s = On s → all number t s.after.entries ≡ begun t meant key ∷ []

    go : (n : Option Mode) → On (admit n key m) → all number t (admit n key m).after.entries ≡ begun t n key ∷ []
    go (Some mode) q = rw (← eqb-true m.next t q) (new-here m sound mode key)
    go None q = absurd (false≢true q)

-- the calls that name the ticket from then on get what they get on its new entry alone
issued-alone : (t : ℕ) (mode : Option Mode) (key : List ℕ) (calls : List Call) (m : Machine) → Sound m → issue_of t (events machine m calls) ≡ issued_by mode key
    → naming t (after_issue t (events machine m calls)) ≡ alone (begun t mode key) (calls_of (naming t (after_issue t (events machine m calls))))
unfolding machine events naming calls_of after_issue
issued-alone t mode key [] m sound issued = refl
issued-alone t mode key (c ∷ cs) m sound issued =
    go (issued-alone t mode key cs (machine c m).after (sound-step c m sound)) (gives t c (machine c m).response rest)
  where
    rest : List Event
    rest = events machine (machine c m).after cs

    event : Event
    event = record { call = c; response = (machine c m).response }

    Alone : List Event → Type 0
    Alone es = naming t es ≡ alone (begun t mode key) (calls_of (naming t es))

    go : (issue_of t rest ≡ issued_by mode key → Alone (after_issue t rest)) → Gives t event rest → Alone (after_issue t (event ∷ rest))
    go later (silent i a) = rw a (later (sym i ∙ issued))
    go later (given n k l is on i a) =
        let same : issued_by (named n l) k ≡ issued_by mode key = sym i ∙ issued in
        let meant : named n l ≡ mode = cc in
        let keys : k ≡ key = cc in
        rw a
        (entered-alone t cs (machine c m).after (begun t mode key) (sound-step c m sound)
        (rw is (open-same t n k l m sound (rw is at on) ∙ ap₂ (λ (x : Option Mode) (y : List ℕ). begun t x y ∷ []) meant keys)))

-- so two lists with the same issue and the same calls give the same
pub machine_apart : Apart machine empty_machine
machine_apart calls others t mode key issued issued' same =
    issued-alone t mode key calls empty_machine sound_empty issued
    ∙ ap (alone (begun t mode key)) same
    ∙ sym (issued-alone t mode key others empty_machine sound_empty issued')
