-- The answers that are kept of rounds are those of their calls, and what is written by them is what the calls got.
-- Assumes nothing.
use mathlib.Core.Path.{◌≡◌, refl, sym, ap, ◌∙◌}
use mathlib.Core.Bool.{Bool, true, ◌&&◌}
use mathlib.Core.List.{List, [], ◌∷◌, ◌++◌, append-nil}
use Prim.Native.Nat.{ℕ, suc, ◌+◌, ◌<◌, ◌≤◌}
use native.Mathlib.Numerals.{add-one}
use native.Mathlib.Omega.{arith}
use lib.ListN.{length, get_or, set, take}
use lib.Seq.{take_all, length-take-le, take-suc-set}
use Rattle.std.proofs.Math.Bool.{and-true, and_assoc}
use Rattle.std.proofs.lemmas.List.{take_more}
use Rattle.calls.specs.Answer.{Answer, answer_of, of_count}
use Rattle.calls.specs.Call.{Feed, Close, Step, Event, events, final}
use Rattle.hub.specs.declared.Hub.{Hub}
use Rattle.hub.specs.Hub.{feed_hub, close_hub, on_hub}
use Rattle.script.specs.declared.writer.Writer.{Writer}
use Rattle.script.specs.Writing.{Puts}
use Rattle.script.proofs.Texts.{puts_more}
use Rattle.listing.specs.Listing.{line, lines}
use Rattle.listing.proofs.Lists.{lines_append, feed_leaves, close_leaves}
use Rattle.mainloop.specs.declared.Answered.{Answered}
use Rattle.mainloop.specs.Rounds.{feed_ticket, close_ticket}
use Rattle.mainloop.specs.Kept.{round_events, events_kept, of_their_calls, round_text, rounds_text}

-- ---- what is kept of some rounds, and of the round after them

events_more : (i : ℕ) (bytes : List ℕ) (some : List Answered) (a : Answered)
    → events_kept i bytes (some ++ (a ∷ [])) ≡ events_kept i bytes some ++ round_events (i + length some) bytes (answer_of a.fed) (answer_of a.closed)
unfolding events_kept
events_more i bytes [] a = let e : i + 0 ≡ i = omega arith in rw e refl
events_more i bytes (b ∷ some) a =
    let e : suc i + length some ≡ i + suc (length some) = omega arith in
    ap (λ (es : List Event). round_events i bytes (answer_of b.fed) (answer_of b.closed) ++ es) (events_more (suc i) bytes some a ∙ rw e)

-- so many rounds are before round i
before : (kept : List Answered) (i : ℕ) → i < length kept → 0 + length (take i kept) ≡ i
before kept i h = omega (arith, length-take-le i kept)

events_behind : (bytes : List ℕ) (kept : List Answered) (i : ℕ) (a : Answered) → i < length kept
    → events_kept 0 bytes (take i kept ++ (a ∷ [])) ≡ events_kept 0 bytes (take i kept) ++ round_events i bytes (answer_of a.fed) (answer_of a.closed)
events_behind bytes kept i a h = events_more 0 bytes (take i kept) a ∙ rw (before kept i h)

pub answered_none : (bytes : List ℕ) → events_kept 0 bytes [] ≡ []
unfolding events_kept
answered_none bytes = refl

pub answered_next : (bytes : List ℕ) (kept : List Answered) (i : ℕ) (a : Answered) → i < length kept
    → events_kept 0 bytes (take (i + 1) (set kept i a)) ≡ events_kept 0 bytes (take i kept) ++ round_events i bytes (answer_of a.fed) (answer_of a.closed)
answered_next bytes kept i a h = rw (add-one, take-suc-set kept i a h) (events_behind bytes kept i a h)

pub answered_all : (bytes : List ℕ) (kept : List Answered) (i : ℕ) → length kept ≤ i → events_kept 0 bytes (take i kept) ≡ events_kept 0 bytes kept
answered_all bytes kept i h = ap (events_kept 0 bytes) (take_all i kept h)

-- ---- each is an answer of its call's kind

kinds_more : (some : List Answered) (a : Answered) → of_their_calls (some ++ (a ∷ [])) ≡ of_their_calls some && (of_count a.fed && of_count a.closed)
unfolding of_their_calls
kinds_more [] a = and-true (of_count a.fed && of_count a.closed)
kinds_more (b ∷ some) a = ap (λ (r : Bool). (of_count b.fed && of_count b.closed) && r) (kinds_more some a) ∙ sym (and_assoc (of_count b.fed && of_count b.closed) (of_their_calls some) (of_count a.fed && of_count a.closed))

pub kinds_none : of_their_calls [] ≡ true
unfolding of_their_calls
kinds_none = refl

pub kinds_next : (kept : List Answered) (i : ℕ) (a : Answered) → i < length kept
    → of_their_calls (take (i + 1) (set kept i a)) ≡ of_their_calls (take i kept) && (of_count a.fed && of_count a.closed)
kinds_next kept i a h = rw (add-one, take-suc-set kept i a h) (kinds_more (take i kept) a)

pub kinds_all : (kept : List Answered) (i : ℕ) → length kept ≤ i → of_their_calls (take i kept) ≡ of_their_calls kept
kinds_all kept i h = ap of_their_calls (take_all i kept h)

-- ---- what is listed of them

round_lines : (i : ℕ) (bytes : List ℕ) (fed closed : Answer) → lines (round_events i bytes fed closed) ≡ round_text i bytes fed closed
unfolding lines round_text
round_lines i bytes fed closed =
    let e : Event = record { call = Feed (feed_ticket i) bytes; response = record { answer = fed; buffer = [] } } in
    let f : Event = record { call = Close (close_ticket i); response = record { answer = closed; buffer = [] } } in
    ap (λ (t : List ℕ). line e ++ t) (append-nil (line f))

kept_more : (i : ℕ) (bytes : List ℕ) (some : List Answered) (a : Answered)
    → rounds_text i bytes (some ++ (a ∷ [])) ≡ rounds_text i bytes some ++ round_text (i + length some) bytes (answer_of a.fed) (answer_of a.closed)
kept_more i bytes some a =
    ap lines (events_more i bytes some a)
    ∙ lines_append (events_kept i bytes some) (round_events (i + length some) bytes (answer_of a.fed) (answer_of a.closed))
    ∙ ap (λ (t : List ℕ). rounds_text i bytes some ++ t) (round_lines (i + length some) bytes (answer_of a.fed) (answer_of a.closed))

kept_behind : (bytes : List ℕ) (kept : List Answered) (i : ℕ) (a : Answered) → i < length kept
    → rounds_text 0 bytes (take i kept ++ (a ∷ [])) ≡ rounds_text 0 bytes (take i kept) ++ round_text i bytes (answer_of a.fed) (answer_of a.closed)
kept_behind bytes kept i a h = kept_more 0 bytes (take i kept) a ∙ rw (before kept i h)

pub kept_none : (bytes : List ℕ) → rounds_text 0 bytes [] ≡ []
unfolding events_kept lines
kept_none bytes = refl

-- for the reader: no proof cites it
pub kept_next : (bytes : List ℕ) (kept : List Answered) (i : ℕ) (a : Answered) → i < length kept
    → rounds_text 0 bytes (take (i + 1) (set kept i a)) ≡ rounds_text 0 bytes (take i kept) ++ round_text i bytes (answer_of a.fed) (answer_of a.closed)
kept_next bytes kept i a h = rw (add-one, take-suc-set kept i a h) (kept_behind bytes kept i a h)

pub kept_all : (bytes : List ℕ) (kept : List Answered) (i : ℕ) → length kept ≤ i → rounds_text 0 bytes (take i kept) ≡ rounds_text 0 bytes kept
kept_all bytes kept i h = ap (rounds_text 0 bytes) (take_all i kept h)

pub listed_next : (bytes : List ℕ) (kept : List Answered) (i : ℕ) (a : Answered) {w v u : Writer} → i < length kept
    → Puts (rounds_text 0 bytes (take i kept)) w v → Puts (round_text i bytes (answer_of (get_or kept i a).fed) (answer_of (get_or kept i a).closed)) v u
    → Puts (rounds_text 0 bytes (take (i + 1) kept)) w u
listed_next bytes kept i a h some next = rw (take_more kept i a h, kept_behind bytes kept i (get_or kept i a) h) (puts_more some next)

-- ---- what the two calls of a round leave, what they are answered, and what is listed of them

module _ (i : ℕ) (bytes : List ℕ) (h : Hub) where
  pub round_after : final on_hub h (Feed (feed_ticket i) bytes ∷ Close (close_ticket i) ∷ []) ≡ (close_hub (close_ticket i) (feed_hub (feed_ticket i) bytes h).after).after
  unfolding final on_hub
  round_after = refl

  pub round_answered : events on_hub h (Feed (feed_ticket i) bytes ∷ Close (close_ticket i) ∷ [])
      ≡ round_events i bytes (feed_hub (feed_ticket i) bytes h).response.answer (close_hub (close_ticket i) (feed_hub (feed_ticket i) bytes h).after).response.answer
  unfolding events on_hub
  round_answered j =
      let fed : Step Hub = feed_hub (feed_ticket i) bytes h in
      let closed : Step Hub = close_hub (close_ticket i) fed.after in
      record { call = Feed (feed_ticket i) bytes; response = record { answer = fed.response.answer; buffer = feed_leaves (feed_ticket i) bytes h j } } ∷
      record { call = Close (close_ticket i); response = record { answer = closed.response.answer; buffer = close_leaves (close_ticket i) fed.after j } } ∷ []

  -- for the reader: no proof cites it
  pub round_listed : lines (events on_hub h (Feed (feed_ticket i) bytes ∷ Close (close_ticket i) ∷ []))
      ≡ round_text i bytes (feed_hub (feed_ticket i) bytes h).response.answer (close_hub (close_ticket i) (feed_hub (feed_ticket i) bytes h).after).response.answer
  round_listed = ap lines round_answered ∙ round_lines i bytes _ _

-- by these, the rounds' answers that were kept and those of the next round are all
pub ruleset rounds_kept = (answered_none, answered_next, answered_all, kinds_none, kinds_next, kinds_all, round_after, round_answered)

pub ruleset rounds_listed = (kept_none, kept_all)
