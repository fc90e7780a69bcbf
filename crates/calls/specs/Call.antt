-- The six calls as values, and lists of them, each call on what the call before it returned: document 01's "Lists of calls".
-- Assumes nothing.
use Rattle.std.specs.Prelude.{List, [], ◌∷◌, ℕ}
use Rattle.calls.specs.Answer.{Answer, refused}

-- all arguments are values, a draw's buffer as it was lent among them
pub data Call : Type 0 where
  Open : (mode : ℕ) (key : List ℕ) (tagLength : ℕ) → Call
  Feed : (ticket : ℕ) (bytes : List ℕ) → Call
  Draw : (ticket : ℕ) (buffer : List ℕ) (place count : ℕ) → Call
  Check : (ticket : ℕ) (tag : List ℕ) → Call
  Close : (ticket : ℕ) → Call
  Sum : Call

-- what a caller sees: the answer, and the lent buffer as the call leaves it (none is lent: no bytes)
pub record Response : Type 0 where
  pub answer : Answer
  pub buffer : List ℕ

-- what a call makes of S, be that a hub or a machine
pub record Step (S : Type 0) : Type 0 where
  pub after : S
  pub response : Response

abbrev pub step : {S : Type 0} → S → Answer → List ℕ → Step S
step s answer buffer = record { after = s; response = record { answer = answer; buffer = buffer } }

-- a refused call changes nothing
abbrev pub refuse : {S : Type 0} → S → List ℕ → ℕ → Step S
refuse s buffer n = step s (refused n) buffer

-- a call of a list, and what it got
pub record Event : Type 0 where
  pub call : Call
  pub response : Response

-- each call gets what the call before it returned
unfoldable pub events : {S : Type 0} → (Call → S → Step S) → S → List Call → List Event
events run s [] = []
events run s (c ∷ cs) = record { call = c; response = (run c s).response } ∷ events run (run c s).after cs

-- what is left after a list
unfoldable pub final : {S : Type 0} → (Call → S → Step S) → S → List Call → S
final run s [] = s
final run s (c ∷ cs) = final run (run c s).after cs
