-- Lists of calls as text: a line for each call, with its arguments and, after `=`, every field of its answer and the lent buffer as the call leaves it.
-- Assumes nothing.
use Rattle.std.specs.Prelude.{◌≡◌, Bool, cond, List, [], ◌∷◌, ◌++◌, ℕ}
use Rattle.calls.specs.Answer.{Answer}
use Rattle.calls.specs.Call.{Call, Open, Feed, Draw, Check, Close, Sum, Response, Event, events, final}
use Rattle.hub.specs.declared.Hub.{Hub}
use Rattle.hub.specs.Hub.{on_hub}
use Rattle.script.specs.Text.{text, space, newline}
use Rattle.script.specs.Number.{decimal}
use Rattle.script.specs.Hex.{bytes_text}
use Rattle.script.specs.Writing.{Puts}
use Rattle.listing.specs.declared.Fields.{Fields}
use Rattle.listing.specs.declared.Listing.{Listing}

-- ---- a line

-- a number, and bytes in hexadecimal, `-` for none, each after a space
unfoldable pub number_field : ℕ → List ℕ
number_field n = (space ∷ []) ++ decimal n

unfoldable pub bytes_field : List ℕ → List ℕ
bytes_field bs = (space ∷ []) ++ bytes_text bs

-- a name, and the number after it
unfoldable pub numbered : List ℕ → ℕ → List ℕ
numbered name n = name ++ number_field n

-- a name, a number and bytes
unfoldable pub three_fields : List ℕ → ℕ → List ℕ → List ℕ
three_fields name n bs = numbered name n ++ bytes_field bs

-- what was called, with what. A close has no bytes and a sum neither number nor bytes: there stand 0 and `-`
unfoldable pub call_text : Call → List ℕ
call_text (Open mode key tagLength) = three_fields (text "open") mode key ++ number_field tagLength
call_text (Feed ticket bytes) = three_fields (text "feed") ticket bytes
call_text (Draw ticket buffer place count) = three_fields (text "draw") ticket buffer ++ number_field place ++ number_field count
call_text (Check ticket tag) = three_fields (text "check") ticket tag
call_text (Close ticket) = three_fields (text "close") ticket []
call_text Sum = three_fields (text "sum") 0 []

-- a verdict as a digit
abbrev pub bit : Bool → ℕ
bit b = cond b 1 0

-- every field of an answer, after its name
unfoldable pub answer_text : Answer → List ℕ
answer_text a =
    numbered (text " refusal") a.refusal ++ numbered (text " ticket") a.ticket ++ numbered (text " runs") a.runs ++ numbered (text " passed") (bit a.passed) ++
    numbered (text " sum") a.sum

-- the answer that has these fields
abbrev pub answer_with : Fields → Answer
answer_with f = record { refusal = f.refusal; ticket = f.ticket; runs = f.runs; passed = f.passed; sum = f.sum }

-- what it gave, to the line's end
unfoldable pub response_text : Response → List ℕ
response_text r = text " =" ++ answer_text r.answer ++ bytes_field r.buffer ++ (newline ∷ [])

-- a call and what it gave
unfoldable pub line : Event → List ℕ
line e = call_text e.call ++ response_text e.response

-- ---- a list

-- a line for each call of a list
unfoldable pub lines : List Event → List ℕ
lines [] = []
lines (e ∷ es) = line e ++ lines es

-- A text was put, and this is the hub then. The writer is the same one.
pub record Listed (put : List ℕ) (left : Hub) (before after : Listing) : Type 0 where
  pub hub : after.hub ≡ left
  pub same : after.out.ghost_name ≡ before.out.ghost_name
  pub text : Puts put before.out.now after.out.now

-- The calls were made one after the other, and their lines put.
pub record Lists (calls : List Call) (before after : Listing) : Type 0 where
  pub listed : Listed (lines (events on_hub before.hub calls)) (final on_hub before.hub calls) before after
