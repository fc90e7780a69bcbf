-- What the functions promise that write into a lent buffer: from a place on, or over the bytes that a line was read into.
-- Assumes nothing.
use Rattle.std.specs.Prelude.{◌≡◌, Bool, List, ◌++◌, ℕ, ◌+◌, ◌≤◌, ◌<◌, length, drop, Result}
use Rattle.checks.specs.declared.refusal.Refusal.{Refusal}
use Rattle.calls.specs.declared.Accepted.{Accepted}
use Rattle.calls.specs.Answer.{answer_of, of_open, of_count, of_check, of_sum}
use Rattle.calls.specs.Call.{Step}
use Rattle.hub.specs.declared.Hub.{Hub}
use Rattle.hub.specs.declared.Reply.{Reply}
use Rattle.script.specs.declared.line.Verb.{Verb}
use Rattle.script.specs.declared.line.Verb.TheVariants.{Open, Feed, Draw, Check, Close, Sum}
use Rattle.script.specs.declared.writer.Writer.{Writer}
use Rattle.script.specs.Writing.{Puts}
use Rattle.interpreter.specs.declared.Session.{Session}
use Rattle.interpreter.specs.declared.Reader.{Reader}
use Rattle.interpreter.specs.Session.{LineStep, longest_answer, filled}

-- a call was made: the hub after it, and its answer
pub record Replying (s : Step Hub) (r : Reply) : Type 0 where
  pub hub : r.hub ≡ s.after
  pub answer : answer_of r.answer ≡ s.response.answer

-- an answer of a verb's call
abbrev pub of_verb : Verb → Result Accepted Refusal → Bool
of_verb Open a = of_open a
of_verb Feed a = of_count a
of_verb Draw a = of_count a
of_verb Check a = of_check a
of_verb Close a = of_count a
of_verb Sum a = of_sum a

-- a line's step was taken: the session after it, and its text in the buffer
pub record Stepping (s : LineStep) (after : Session) (out out' : Writer) : Type 0 where
  pub session : after ≡ s.session
  pub text : Puts s.text out out'

-- so many bytes of a chunk were taken: they printed this text, which is no longer than one answer; and filling any buffer that has room goes on from there
pub record Advancing (r : Reader) (chunk : List ℕ) (n : ℕ) (r' : Reader) (out out' : Writer) : Type 0 where
  pub text : List ℕ
  pub wrote : Puts text out out'
  pub short : length text ≤ longest_answer
  pub ahead : 0 < n
  pub within : n ≤ length chunk
  pub taken : (size : ℕ) (before : List ℕ) → length before + longest_answer ≤ size
      → filled size r before chunk ≡ filled size r' (before ++ text) (drop n chunk)

-- the bytes that a line was read into, after its call: those drawn, or as they were
abbrev pub bytes_after : Verb → List ℕ → List ℕ → List ℕ
bytes_after Open bytes buffer = bytes
bytes_after Feed bytes buffer = bytes
bytes_after Draw bytes buffer = buffer
bytes_after Check bytes buffer = bytes
bytes_after Close bytes buffer = bytes
bytes_after Sum bytes buffer = bytes
