-- What a list of calls and what they got say of a ticket: document 01's "Lists of calls", read off the list alone. Nothing here looks into a hub or a machine.
-- Assumes nothing.
use Rattle.std.specs.Prelude.{Bool, true, false, cond, not, ◌&&◌, List, [], ◌∷◌, ◌++◌, ℕ, eqb, take, drop, Option}
use Rattle.mode.specs.declared.Mode.{Mode}
use Rattle.mode.specs.Mode.{named}
use Rattle.calls.specs.Answer.{accepted}
use Rattle.calls.specs.Call.{Call, Open, Feed, Draw, Check, Close, Sum, Response, Event}

-- ---- one call of the list

-- whether a call is on ticket t: an open is on the ticket that it gave, a sum on none
abbrev pub concerns : ℕ → Call → Response → Bool
concerns t (Open mode key tagLength) r = eqb r.answer.ticket t
concerns t (Feed u bytes) r = eqb u t
concerns t (Draw u buffer place count) r = eqb u t
concerns t (Check u tag) r = eqb u t
concerns t (Close u) r = eqb u t
concerns t Sum r = false

-- an accepted call on ticket t, its open included
abbrev pub is_on : ℕ → Event → Bool
is_on t e = accepted e.response.answer && concerns t e.call e.response

-- the bytes that it feeds, if it is a feed
abbrev pub fed_by : Call → List ℕ
fed_by (Open mode key tagLength) = []
fed_by (Feed t bytes) = bytes
fed_by (Draw t buffer place count) = []
fed_by (Check t tag) = []
fed_by (Close t) = []
fed_by Sum = []

-- the bytes that it wrote, if it is a draw: count bytes from place on
abbrev pub drawn_by : Call → Response → List ℕ
drawn_by (Open mode key tagLength) r = []
drawn_by (Feed t bytes) r = []
drawn_by (Draw t buffer place count) r = take count (drop place r.buffer)
drawn_by (Check t tag) r = []
drawn_by (Close t) r = []
drawn_by Sum r = []

-- a draw or a check ends feeding
abbrev pub ends_feeding : Call → Bool
ends_feeding (Open mode key tagLength) = false
ends_feeding (Feed t bytes) = false
ends_feeding (Draw t buffer place count) = true
ends_feeding (Check t tag) = true
ends_feeding (Close t) = false
ends_feeding Sum = false

-- ---- a ticket in the list

-- how a ticket was issued: by an open that named this mode, which has mode 2's tag length in it, and this key; or not at all
pub data Issue : Type 0 where
  unissued : Issue
  issued_by : (mode : Option Mode) (key : List ℕ) → Issue

abbrev pub issue_by : Call → Issue → Issue
issue_by (Open mode key tagLength) otherwise = issued_by (named mode tagLength) key
issue_by (Feed t bytes) otherwise = otherwise
issue_by (Draw t buffer place count) otherwise = otherwise
issue_by (Check t tag) otherwise = otherwise
issue_by (Close t) otherwise = otherwise
issue_by Sum otherwise = otherwise

-- what the open that gave it named
unfoldable pub issue_of : ℕ → List Event → Issue
issue_of t [] = unissued
issue_of t (e ∷ es) = cond (is_on t e) (issue_by e.call (issue_of t es)) (issue_of t es)

-- the bytes of its accepted feeds, joined in the list's order
unfoldable pub bytes_fed : ℕ → List Event → List ℕ
bytes_fed t [] = []
bytes_fed t (e ∷ es) = cond (is_on t e) (fed_by e.call) [] ++ bytes_fed t es

-- the bytes that its accepted draws wrote, joined likewise
unfoldable pub bytes_drawn : ℕ → List Event → List ℕ
bytes_drawn t [] = []
bytes_drawn t (e ∷ es) = cond (is_on t e) (drawn_by e.call e.response) [] ++ bytes_drawn t es

-- feeding lasts until its first accepted draw or check
unfoldable pub feeding_lasts : ℕ → List Event → Bool
feeding_lasts t [] = true
feeding_lasts t (e ∷ es) = not (is_on t e && ends_feeding e.call) && feeding_lasts t es

-- the run count that the last accepted call on it gave, its open included; n where there is none
unfoldable pub last_runs : ℕ → ℕ → List Event → ℕ
last_runs t n [] = n
last_runs t n (e ∷ es) = last_runs t (cond (is_on t e) e.response.answer.runs n) es

unfoldable pub run_count : ℕ → List Event → ℕ
run_count t es = last_runs t 0 es

-- ---- the tickets of the list, in its order

abbrev pub given_by : Call → Response → List ℕ
given_by (Open mode key tagLength) r = r.answer.ticket ∷ []
given_by (Feed t bytes) r = []
given_by (Draw t buffer place count) r = []
given_by (Check t tag) r = []
given_by (Close t) r = []
given_by Sum r = []

unfoldable pub tickets : List Event → List ℕ
tickets [] = []
tickets (e ∷ es) = cond (accepted e.response.answer) (given_by e.call e.response) [] ++ tickets es

-- ---- the calls on a ticket, once it is issued

abbrev pub opens : Call → Bool
opens (Open mode key tagLength) = true
opens (Feed t bytes) = false
opens (Draw t buffer place count) = false
opens (Check t tag) = false
opens (Close t) = false
opens Sum = false

-- what comes after the open that gave it
unfoldable pub after_issue : ℕ → List Event → List Event
after_issue t [] = []
after_issue t (e ∷ es) = cond (is_on t e && opens e.call) es (after_issue t es)

-- a call that names ticket t, accepted or refused
abbrev pub names : ℕ → Call → Bool
names t (Open mode key tagLength) = false
names t (Feed u bytes) = eqb u t
names t (Draw u buffer place count) = eqb u t
names t (Check u tag) = eqb u t
names t (Close u) = eqb u t
names t Sum = false

-- the calls that name it, with what they got
unfoldable pub naming : ℕ → List Event → List Event
naming t [] = []
naming t (e ∷ es) = cond (names t e.call) (e ∷ naming t es) (naming t es)

-- the calls of some events, without what they got
unfoldable pub calls_of : List Event → List Call
calls_of [] = []
calls_of (e ∷ es) = e.call ∷ calls_of es
