-- What a script says, and what is printed of it: document 01's "Script program". A script is run on anything that answers calls: S is a hub, or the plain machine,
-- `run` what a call makes of it, and `empty` what a script begins with.
-- Assumes nothing.
use Rattle.std.specs.Prelude.{Bool, true, false, cond, List, [], ◌∷◌, ◌++◌, ℕ, ◌+◌, ◌-◌, eqb, leb, length, take, get_or, replicate, Option, Some, None}
use Rattle.checks.specs.Equality.{same}
use Rattle.calls.specs.Answer.{Answer, accepted}
use Rattle.calls.specs.Call.{
  Call,
  Open as openCall,
  Feed as feedCall,
  Draw as drawCall,
  Check as checkCall,
  Close as closeCall,
  Sum as sumCall,
  Step,
  Event,
  events,
}
use Rattle.script.specs.declared.line.Verb.{Verb}
use Rattle.script.specs.declared.line.Verb.TheVariants.{Open, Feed, Draw, Check, Close, Sum}
use Rattle.script.specs.declared.answer.Word.{Word}
use Rattle.script.specs.declared.answer.Word.TheVariants.{Ok, Pass, Fail, No, Stop}
use Rattle.script.specs.Text.{text}
use Rattle.script.specs.Line.{Field, Line, parse}
use Rattle.script.specs.Answer.{answer_line}
use Rattle.script.specs.Input.{lines}
use Rattle.script.specs.Parsed.{size_of, bytes_in}

-- the line of names that a script begins with
abbrev pub names : List ℕ
names = text "call number bytes"

-- and the one that is printed first
abbrev pub answer_names : List ℕ
answer_names = text "answer number bytes\n"

-- a script has at most so many lines, that of the names among them
abbrev pub most_lines : ℕ
most_lines = 1000000

-- ---- a line as a call

-- a draw lends as many zero bytes as it draws
abbrev pub draw_of : ℕ → ℕ → Call
draw_of t count = drawCall t (replicate count 0) 0 count

-- the bytes of an open are its key. In mode 2 one more byte follows the key, the tag length (request K2); of no bytes there is no key either, which 2 refuses
abbrev pub key_of : ℕ → List ℕ → List ℕ
key_of mode bs = cond (eqb mode 2) (take (length bs - 1) bs) bs

abbrev pub tag_length_of : ℕ → List ℕ → ℕ
tag_length_of mode bs = cond (eqb mode 2) (get_or bs (length bs - 1) 0) 0

abbrev pub open_of : ℕ → List ℕ → Call
open_of mode bs = openCall mode (key_of mode bs) (tag_length_of mode bs)

abbrev pub call_for : Verb → ℕ → Field → Call
call_for Open n f = open_of n (bytes_in f)
call_for Feed n f = feedCall n (bytes_in f)
call_for Draw n f = draw_of n (size_of f)
call_for Check n f = checkCall n (bytes_in f)
call_for Close n f = closeCall n
call_for Sum n f = sumCall

unfoldable pub call_of : Line → Call
call_of l = call_for l.verb l.number l.field

-- ---- what is printed of a call

abbrev pub verb_of : Call → Verb
verb_of (openCall mode key tagLength) = Open
verb_of (feedCall t bytes) = Feed
verb_of (drawCall t buffer place count) = Draw
verb_of (checkCall t tag) = Check
verb_of (closeCall t) = Close
verb_of sumCall = Sum

abbrev pub verdict_word : Bool → Word
verdict_word true = Pass
verdict_word false = Fail

-- of an accepted call
abbrev pub accepted_word : Verb → Answer → Word
accepted_word Open a = Ok
accepted_word Feed a = Ok
accepted_word Draw a = Ok
accepted_word Check a = verdict_word a.passed
accepted_word Close a = Ok
accepted_word Sum a = Ok

abbrev pub accepted_number : Verb → Answer → ℕ
accepted_number Open a = a.ticket
accepted_number Feed a = a.runs
accepted_number Draw a = a.runs
accepted_number Check a = a.runs
accepted_number Close a = a.runs
accepted_number Sum a = a.sum

abbrev pub accepted_bytes : Verb → List ℕ → List ℕ
accepted_bytes Open buffer = []
accepted_bytes Feed buffer = []
accepted_bytes Draw buffer = buffer
accepted_bytes Check buffer = []
accepted_bytes Close buffer = []
accepted_bytes Sum buffer = []

-- of a refused call: `no`, the refusal, and no bytes
unfoldable pub word_for : Verb → Answer → Word
word_for v a = cond (accepted a) (accepted_word v a) No

unfoldable pub number_for : Verb → Answer → ℕ
number_for v a = cond (accepted a) (accepted_number v a) a.refusal

unfoldable pub bytes_for : Verb → Answer → List ℕ → List ℕ
bytes_for v a buffer = cond (accepted a) (accepted_bytes v buffer) []

unfoldable pub answered : Verb → Answer → List ℕ → List ℕ
answered v a buffer = answer_line (word_for v a) (number_for v a) (bytes_for v a buffer)

-- all answers of a list of calls
unfoldable pub answers : List Event → List ℕ
answers [] = []
answers (e ∷ es) = answered (verb_of e.call) e.response.answer e.response.buffer ++ answers es

-- ---- what a script says

-- what a line means where it stands
pub data Meaning : Type 0 where
  names_line : Meaning
  call_line : Call → Meaning
  malformed_line : Meaning

abbrev pub as_call : Option Line → Meaning
as_call (Some l) = call_line (call_of l)
as_call None = malformed_line

-- line 1 is the names; no line comes after the last allowed one
unfoldable pub meaning : ℕ → List ℕ → Meaning
meaning k s = cond (eqb k 1) (cond (same s names) names_line malformed_line) (cond (leb k most_lines) (as_call (parse s)) malformed_line)

-- how a script ends: with its input, or at a malformed line of this number
pub data Ending : Type 0 where
  at_the_end : Ending
  at_line : ℕ → Ending

-- its calls up to there, and how it ends
pub record Script : Type 0 where
  pub calls : List Call
  pub ending : Ending

-- line k means this, and the lines after it say the rest
abbrev pub followed : ℕ → Meaning → Script → Script
followed k names_line rest = rest
followed k (call_line c) rest = record { calls = c ∷ rest.calls; ending = rest.ending }
followed k malformed_line rest = record { calls = []; ending = at_line k }

-- what the lines from number k on say. Input without line 1 lacks the names
unfoldable pub script_from : ℕ → List (List ℕ) → Script
script_from k [] = record { calls = []; ending = cond (eqb k 1) (at_line 1) at_the_end }
script_from k (s ∷ ss) = followed k (meaning k s) (script_from (k + 1) ss)

unfoldable pub script_of : List ℕ → Script
script_of input = script_from 1 (lines input)

-- ---- what it prints

abbrev pub stop_line : ℕ → List ℕ
stop_line k = answer_line Stop k []

abbrev pub ending_text : Ending → List ℕ
ending_text at_the_end = []
ending_text (at_line k) = stop_line k

module _ {S : Type 0} (run : Call → S → Step S) where
  -- of lines that say this, on s
  unfoldable pub printed_of : S → Script → List ℕ
  printed_of s script = answers (events run s script.calls) ++ ending_text script.ending

  -- of a whole script
  unfoldable pub output : S → List ℕ → List ℕ
  output empty input = answer_names ++ printed_of empty (script_of input)
