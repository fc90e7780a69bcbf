-- A script under way, as the code has it: a session and its line buffer, and what each byte of the input makes of them.
-- Assumes nothing.
use Rattle.std.specs.Prelude.{Bool, true, false, cond, not, ◌&&◌, List, [], ◌∷◌, ◌++◌, ℕ, ◌+◌, ◌-◌, eqb, leb, ltb, length, take, set}
use Rattle.calls.specs.Call.{Call}
use Rattle.hub.specs.declared.Hub.{Hub}
use Rattle.hub.specs.Hub.{empty_hub, on_hub}
use Rattle.script.specs.Text.{newline}
use Rattle.script.specs.Line.{longest_line}
use Rattle.interpreter.specs.declared.Session.{Session}
use Rattle.interpreter.specs.declared.Reader.{Reader}
use Rattle.interpreter.specs.declared.Progress.{Progress}
use Rattle.interpreter.specs.Script.{Meaning, names_line, call_line, malformed_line, meaning, answered, verb_of, stop_line}

-- line 1 is to be read, and nothing of it was
unfoldable pub begun : Session
begun = record { hub = empty_hub; number = 1; held = 0; going = true }

-- ---- a line

-- what a line leaves, and what is printed of it
pub record LineStep : Type 0 where
  pub session : Session
  pub text : List ℕ

-- the next line is to be read
abbrev pub go_on : Session → Hub → Session
go_on s h = record { hub = h; number = s.number + 1; held = 0; going = true }

abbrev pub halted : Session → Session
halted s = record { hub = s.hub; number = s.number; held = 0; going = false }

-- a malformed line ends the script
abbrev pub stopped : Session → LineStep
stopped s = record { session = halted s; text = stop_line s.number }

-- a call is made, and answered
abbrev pub called : Session → Call → LineStep
called s c =
    record {
      session = go_on s (on_hub c s.hub).after;
      text = answered (verb_of c) (on_hub c s.hub).response.answer (on_hub c s.hub).response.buffer;
    }

abbrev pub step_by : Session → Meaning → LineStep
step_by s names_line = record { session = go_on s s.hub; text = [] }
step_by s (call_line c) = called s c
step_by s malformed_line = stopped s

unfoldable pub stepped : Session → List ℕ → LineStep
stepped s line = step_by s (meaning s.number line)

-- ---- a byte

-- a session and its line buffer
abbrev pub reader_of : Session → List ℕ → Reader
reader_of s line = record { session = s; line = line }

-- what bytes leave, and what is printed of them
pub record Consumed : Type 0 where
  pub reader : Reader
  pub text : List ℕ

abbrev pub silent : Reader → Consumed
silent r = record { reader = r; text = [] }

-- the session after a line; the buffer keeps its bytes
abbrev pub after_step : Reader → LineStep → Consumed
after_step r s = record { reader = record { session = s.session; line = r.line }; text = s.text }

-- the buffer holds n bytes of the line
abbrev pub holding : Session → ℕ → Session
holding s n = record { hub = s.hub; number = s.number; held = n; going = s.going }

-- one more byte of it
abbrev pub hold : Reader → ℕ → Consumed
hold r b =
    silent (record { session = holding r.session (r.session.held + 1); line = set r.line r.session.held b })

-- a newline ends the line, any other byte is one more of it, and one too many is malformed. Once the script has stopped, bytes do nothing
unfoldable pub byte_step : Reader → ℕ → Consumed
byte_step r b =
    cond r.session.going
    (cond (eqb b newline)
    (after_step r (stepped r.session (take r.session.held r.line)))
    (cond (ltb r.session.held longest_line) (hold r b) (after_step r (stopped r.session))))
    (silent r)

abbrev pub and_then : List ℕ → Consumed → Consumed
and_then text f = record { reader = f.reader; text = text ++ f.text }

unfoldable pub consumed : Reader → List ℕ → Consumed
consumed r [] = silent r
consumed r (b ∷ s) = and_then (byte_step r b).text (consumed (byte_step r b).reader s)

-- no newline is missing: nothing of a line was read. Line 1 is missing where nothing was read at all
abbrev pub complete : Session → Bool
complete s = eqb s.held 0 && not (eqb s.number 1)

-- at the end of the input a newline that is missing is supplied
unfoldable pub finished : Reader → Consumed
finished r = cond (complete r.session) (silent r) (consumed r (newline ∷ []))

-- ---- filling an output buffer

-- no answer is longer, whatever the hub holds; of a script none has more than 2,060 bytes
abbrev pub longest_answer : ℕ
longest_answer = 2075

-- what bytes leave, all that was printed, and the bytes that were not taken yet
pub record Filled : Type 0 where
  pub reader : Reader
  pub text : List ℕ
  pub left : List ℕ

-- bytes are taken one after the other as long as a buffer of this size, with some text in it, has room for the longest answer
unfoldable pub filled : ℕ → Reader → List ℕ → List ℕ → Filled
filled size r text [] = record { reader = r; text = text; left = [] }
filled size r text (b ∷ s) =
    cond (leb (length text + longest_answer) size)
    (filled size (byte_step r b).reader (text ++ (byte_step r b).text) s)
    (record { reader = r; text = text; left = b ∷ s })

-- the output buffer has this size
abbrev pub output_size : ℕ
output_size = 65536

-- what filling an empty one from a chunk leaves
unfoldable pub filled_from : Reader → List ℕ → Filled
filled_from r chunk = filled output_size r [] chunk

-- how many of the chunk's bytes were taken, and how much of the buffer is filled
abbrev pub progress_of : List ℕ → Filled → Progress
progress_of chunk f = record { taken = length chunk - length f.left; size = length f.text }
