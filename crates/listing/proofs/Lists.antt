-- The lines of calls that are made one after the other.
-- Assumes nothing.
use mathlib.Core.Path.{◌≡◌, refl, sym, ap, ◌∙◌, subst}
use mathlib.Core.List.{List, [], ◌∷◌, ◌++◌, append-nil, append_assoc}
use Prim.Native.Nat.{ℕ}
use Rattle.std.specs.Prelude.{Option, Some, None}
use Rattle.mode.specs.declared.Mode.{Mode}
use Rattle.mode.specs.Mode.{named}
use Rattle.checks.specs.Checks.{OneCheck, checked}
use Rattle.checks.proofs.Checks.{checked-each}
use Rattle.sponge.specs.declared.record.Record.{Record}
use Rattle.sponge.specs.Record.{absorbed, finished, tag_matches}
use Rattle.calls.specs.Answer.{counted, judged}
use Rattle.calls.specs.Checks.{open_checks, ticket_checks, feed_checks, check_checks}
use Rattle.calls.specs.Call.{Call, Step, step, refuse, Event, events, final}
use Rattle.hub.specs.declared.Hub.{Hub}
use Rattle.hub.specs.Hub.{absent, record_of, standing_of, put, release, admit, open_hub, feed_hub, check_hub, close_hub, sum_hub, on_hub}
use Rattle.script.specs.Writing.{Puts}
use Rattle.script.proofs.Texts.{puts_more}
use Rattle.listing.specs.declared.Listing.{Listing}
use Rattle.listing.specs.Listing.{call_text, response_text, line, lines, Lists}

-- ---- some calls, and those after them

-- a call, and what it gets
abbrev event : Call → Hub → Event
event c h = record { call = c; response = (on_hub c h).response }

pub lines_append : (es fs : List Event) → lines (es ++ fs) ≡ lines es ++ lines fs
unfolding lines
lines_append [] fs = refl
lines_append (e ∷ es) fs = ap (λ (t : List ℕ). line e ++ t) (lines_append es fs) ∙ sym (append_assoc (line e) (lines es) (lines fs))

pub events_append : (h : Hub) (cs ds : List Call) → events on_hub h (cs ++ ds) ≡ events on_hub h cs ++ events on_hub (final on_hub h cs) ds
unfolding events final
events_append h [] ds = refl
events_append h (c ∷ cs) ds = ap (λ (es : List Event). event c h ∷ es) (events_append (on_hub c h).after cs ds)

pub final_more : (h : Hub) (cs ds : List Call) → final on_hub h (cs ++ ds) ≡ final on_hub (final on_hub h cs) ds
unfolding final
final_more h [] ds = refl
final_more h (c ∷ cs) ds = final_more (on_hub c h).after cs ds

pub lines_more : (h : Hub) (cs ds : List Call) → lines (events on_hub h (cs ++ ds)) ≡ lines (events on_hub h cs) ++ lines (events on_hub (final on_hub h cs) ds)
lines_more h cs ds = ap lines (events_append h cs ds) ∙ lines_append (events on_hub h cs) (events on_hub (final on_hub h cs) ds)

-- no call
pub final_none : (h : Hub) → final on_hub h [] ≡ h
unfolding final
final_none h = refl

pub events_none : (h : Hub) → events on_hub h [] ≡ []
unfolding events
events_none h = refl

pub lines_none : (h : Hub) → lines (events on_hub h []) ≡ []
unfolding events lines
lines_none h = refl

-- by these, what calls that are made one after the other got is one list
pub ruleset got = (final_none, events_none, final_more, events_append)

-- by these, calls that are made one after the other are one list
pub ruleset lists = (final_none, lines_none, final_more, lines_more)

-- the same of what the methods promise, for answers by hand
pub lists_more : {cs ds : List Call} {p q r : Listing} → Lists cs p q → Lists ds q r → Lists (cs ++ ds) p r
lists_more {cs} {ds} {p} {q} {r} made next =
    let some = made.listed in
    let more = next.listed in
    record {
      listed = record {
        hub = more.hub ∙ ap (λ (x : Hub). final on_hub x ds) some.hub ∙ sym (final_more p.hub cs ds);
        same = more.same ∙ some.same;
        text = subst (λ (t : List ℕ). Puts t p.out.now r.out.now) (sym (lines_more p.hub cs ds))
            (puts_more some.text (subst (λ (x : Hub). Puts (lines (events on_hub x ds)) q.out.now r.out.now) some.hub more.text));
      };
    }

-- ---- no buffer is lent to a call that is no draw, and so it leaves no bytes

abbrev LeavesNone : Step Hub → Type 0
LeavesNone s = s.response.buffer ≡ []

checked-leaves : (cs : List OneCheck) (h : Hub) (s : Step Hub) → LeavesNone s → LeavesNone (checked (refuse h []) cs s)
checked-leaves cs h s done = checked-each LeavesNone cs (refuse h []) s (λ n. refl) (λ pass. done)

admit-leaves : (m : Option Mode) (key : List ℕ) (h : Hub) → LeavesNone (admit m key h)
unfolding admit
admit-leaves (Some mode) key h = refl
admit-leaves None key h = refl

pub open_leaves : (mode : ℕ) (key : List ℕ) (tagLength : ℕ) (h : Hub) → (open_hub mode key tagLength h).response.buffer ≡ []
unfolding open_hub
open_leaves mode key tagLength h =
    let meant : Option Mode = named mode tagLength in
    checked-leaves (open_checks meant key tagLength h.issued (absent 0 h)) h (admit meant key h) (admit-leaves meant key h)

pub feed_leaves : (t : ℕ) (bytes : List ℕ) (h : Hub) → (feed_hub t bytes h).response.buffer ≡ []
unfolding feed_hub
feed_leaves t bytes h =
    let r : Record = absorbed bytes (record_of t h) in
    checked-leaves (feed_checks (standing_of t h) bytes) h (step (put t r h) (counted r.runs) []) refl

pub check_leaves : (t : ℕ) (tag : List ℕ) (h : Hub) → (check_hub t tag h).response.buffer ≡ []
unfolding check_hub
check_leaves t tag h =
    let r : Record = finished (record_of t h) in
    checked-leaves (check_checks (standing_of t h) tag) h (step (release t r.runs h) (judged (tag_matches tag r) r.runs) []) refl

pub close_leaves : (t : ℕ) (h : Hub) → (close_hub t h).response.buffer ≡ []
unfolding close_hub
close_leaves t h =
    let r : Record = record_of t h in
    checked-leaves (ticket_checks (standing_of t h)) h (step (release t r.runs h) (counted r.runs) []) refl

pub sum_leaves : (h : Hub) → (sum_hub h).response.buffer ≡ []
unfolding sum_hub
sum_leaves h = refl

-- ---- a list of one call has its line alone

pub after_one : (c : Call) (h : Hub) → final on_hub h (c ∷ []) ≡ (on_hub c h).after
unfolding final
after_one c h = refl

pub line_of : (c : Call) (h : Hub)
    → lines (events on_hub h (c ∷ [])) ≡ call_text c ++ response_text (record { answer = (on_hub c h).response.answer; buffer = (on_hub c h).response.buffer })
unfolding events lines line
line_of c h = append-nil (call_text c ++ response_text (on_hub c h).response)

-- by these, what a call gave is its line
pub ruleset calls = (after_one, line_of, open_leaves, feed_leaves, check_leaves, close_leaves, sum_leaves)
