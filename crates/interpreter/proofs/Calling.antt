-- A line's call is the call of its verb, with the line's bytes.
-- Assumes nothing.
use mathlib.Core.Path.{◌≡◌, refl, ap, ◌∙◌}
use mathlib.Core.List.{List, [], ◌∷◌, ◌++◌}
use Prim.Native.Nat.{ℕ, ◌-◌, ◌≤◌}
use native.Mathlib.Omega.{arith}
use borrow.Author.Tests.{eq-eqb, ne_eqb}
use lib.ListN.{length, take, length-append}
use lib.Seq.{take-length, length-take-le, take-take, take_at, get_or-append_seam}
use Rattle.calls.specs.Answer.{Answer, answer_of}
use Rattle.calls.specs.Call.{Call}
use Rattle.hub.specs.declared.Reply.{Reply}
use Rattle.hub.specs.Hub.{on_hub}
use Rattle.script.specs.declared.line.Verb.{Verb}
use Rattle.script.specs.declared.line.Verb.TheVariants.{Open, Feed, Draw, Check, Close, Sum}
use Rattle.script.specs.declared.writer.Writer.{Writer}
use Rattle.script.specs.Writing.{Puts}
use Rattle.script.specs.Line.{Field, bytes as bytes_field, Line}
use Rattle.script.specs.Parsed.{field_in, line_with}
use Rattle.interpreter.specs.declared.Session.{Session}
use Rattle.interpreter.specs.Script.{call_for, call_of, verb_of, bytes_for, answered}
use Rattle.interpreter.specs.Session.{go_on, called}
use Rattle.interpreter.specs.Promises.{Replying, Stepping, bytes_after}

-- ---- an open

-- all but the last byte
pub before-end : (key : List ℕ) (n : ℕ) → length (key ++ (n ∷ [])) - 1 ≡ length key
before-end key n = omega (arith, length-append key (n ∷ []))

-- by these the bytes of an open are cut
pub ruleset opening = (before-end, eq-eqb, ne_eqb, take_at, get_or-append_seam)

-- ---- any call

-- a line's bytes are all that were lent
pub all_bytes : (bytes : List ℕ) → take (length bytes) bytes ≡ bytes
all_bytes bytes = take-length bytes

-- ---- what is printed of it

verb-kept : (l : Line) → verb_of (call_of l) ≡ l.verb
unfolding call_of
verb-kept l = go l.verb
  where
    go : (v : Verb) → verb_of (call_for v l.number l.field) ≡ v
    go Open = refl
    go Feed = refl
    go Draw = refl
    go Check = refl
    go Close = refl
    go Sum = refl

bytes-kept : (v : Verb) (a : Answer) (bytes buffer : List ℕ) → bytes_for v a (bytes_after v bytes buffer) ≡ bytes_for v a buffer
unfolding bytes_for
bytes-kept Open a bytes buffer = refl
bytes-kept Feed a bytes buffer = refl
bytes-kept Draw a bytes buffer = refl
bytes-kept Check a bytes buffer = refl
bytes-kept Close a bytes buffer = refl
bytes-kept Sum a bytes buffer = refl

-- a line's bytes are the first of the buffer that it was read into
line-part : (v : Verb) (n size : ℕ) (bytes : List ℕ) → size ≤ length bytes → line_with v n (length (take size bytes)) (take size bytes) ≡ line_with v n size bytes
line-part v n size bytes h = ap (λ (f : Field). record { verb = v; number = n; field = f }) (rw (length-take-le size bytes h) (go v))
  where
    again : bytes_field (take size (take size bytes)) ≡ bytes_field (take size bytes)
    again = ap bytes_field (take-take size size bytes (omega arith))

    go : (w : Verb) → field_in w size (take size bytes) ≡ field_in w size bytes
    go Open = again
    go Feed = again
    go Draw = refl
    go Check = again
    go Close = again
    go Sum = again

module _ (s : Session) (verb : Verb) (number size : ℕ) (bytes : List ℕ) (fits : size ≤ length bytes) where
  abbrev whole : Call
  whole = call_of (line_with verb number size bytes)

  pub answer-step : (reply : Reply) (after : List ℕ)
      → Replying (on_hub (call_of (line_with verb number (length (take size bytes)) (take size bytes))) s.hub) reply
      → after ≡ bytes_after verb (take size bytes) (on_hub (call_of (line_with verb number (length (take size bytes)) (take size bytes))) s.hub).response.buffer
      → (s' : Session) (out out' : Writer) → s' ≡ go_on s reply.hub
      → Puts (answered verb (answer_of reply.answer) after) out out' → Stepping (called s whole) s' out out'
  unfolding answered
  answer-step reply after c d s' out out' next wrote =
      let l = line-part verb number size bytes fits in
      let e : Replying (on_hub whole s.hub) reply = rw l at c in
      let f : after ≡ bytes_after verb (take size bytes) (on_hub whole s.hub).response.buffer = rw l at d in
      let v : verb_of whole ≡ verb = verb-kept (line_with verb number size bytes) in
      record {
        session = next ∙ ap (go_on s) e.hub;
        text =
            rw (v, ← (bytes-kept verb (on_hub whole s.hub).response.answer (take size bytes) (on_hub whole s.hub).response.buffer), ← f)
            (rw e.answer at wrote);
      }
