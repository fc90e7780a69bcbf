-- No answer is longer than the room that is kept for one.
-- Assumes nothing.
use mathlib.Core.Path.{◌≡◌, refl, sym, ◌∙◌}
use mathlib.Core.Bool.{Bool, true, false, cond}
use mathlib.Core.List.{List, [], ◌∷◌}
use Prim.Native.Nat.{ℕ, ◌+◌, ◌≤◌}
use native.Mathlib.Omega.{arith}
use lib.Dec.{eqb, leb}
use lib.ListN.{length, drop, replicate, length-append, length-drop, length-replicate}
use Rattle.checks.specs.Checks.{OneCheck, checked}
use Rattle.checks.specs.Buffers.{written}
use Rattle.checks.specs.Equality.{same}
use Rattle.calls.specs.Answer.{Answer, accepted, counted}
use Rattle.calls.specs.Checks.{draw_checks}
use Rattle.calls.specs.Call.{Step, step, refuse}
use Rattle.sponge.specs.declared.record.Record.{Record}
use Rattle.sponge.specs.Record.{finished, squeezed, next_bytes}
use Rattle.sponge.proofs.Calls.{length-next_bytes}
use Rattle.hub.specs.declared.Hub.{Hub}
use Rattle.hub.specs.Hub.{record_of, put, standing_of, draw_hub, on_hub}
use Rattle.script.specs.declared.line.Verb.{Verb}
use Rattle.script.specs.declared.line.Verb.TheVariants.{Open, Feed, Draw, Check, Close, Sum}
use Rattle.std.specs.Prelude.{Option, Some, None}
use Rattle.script.specs.Line.{Field, bytes, count, Line, FieldFits, most_bytes, parse}
use Rattle.script.proofs.Answers.{answer-long}
use Rattle.script.proofs.RoundTrip.{printed-lines}
use Rattle.interpreter.specs.declared.Session.{Session}
use Rattle.interpreter.specs.Script.{names, most_lines, draw_of, call_for, call_of, verb_of, accepted_bytes, word_for, number_for, bytes_for, answered, names_line, malformed_line, as_call, meaning}
use Rattle.interpreter.specs.Session.{longest_answer, step_by, stepped}

-- what holds of every way out of a list of checks holds of its answer
checked_either : {A : Type 0} (P : A → Type 0) (refuse : ℕ → A) (done : A) (cs : List OneCheck) → ((n : ℕ) → P (refuse n)) → P done → P (checked refuse cs done)
checked_either P refuse done [] f d = d
checked_either P refuse done (c ∷ cs) f d = go c.fails (checked_either P refuse done cs f d)
  where
    go : (t : Bool) → P (checked refuse cs done) → P (cond t (refuse c.number) (checked refuse cs done))
    go true p = f c.number
    go false p = p

-- a draw leaves as many bytes as it was lent
written-length : (buffer new : List ℕ) → length new ≡ length buffer → length (written buffer 0 new) ≡ length buffer
unfolding written
written-length buffer new e = length-append new (drop (0 + length new) buffer) ∙ omega (arith, length-drop (0 + length new) buffer)

drawn-length : (h : Hub) (t k : ℕ) → length (on_hub (draw_of t k) h).response.buffer ≡ k
unfolding on_hub draw_hub
drawn-length h t k =
    let lent : List ℕ = replicate k 0 in
    let same : length lent ≡ k = length-replicate {A = ℕ} k 0 in
    let ended : Record = finished (record_of t h) in
    let r : Record = squeezed k ended in
    checked_either (λ (s : Step Hub). length s.response.buffer ≡ k)
    (refuse h lent)
    (step (put t r h) (counted r.runs) (written lent 0 (next_bytes k ended)))
    (draw_checks (standing_of t h) lent 0 k)
    (λ n. same)
    (written-length lent (next_bytes k ended) (length-next_bytes k ended ∙ sym same) ∙ same)

-- so what is printed of a call is no more than a field has
fits : (v : Verb) (n : ℕ) (f : Field) → FieldFits v n f → (h : Hub) (t : Bool)
    → length (cond t (accepted_bytes (verb_of (call_for v n f)) (on_hub (call_for v n f) h).response.buffer) []) ≤ most_bytes
unfolding FieldFits
fits Open n f w h true = omega arith
fits Feed n f w h true = omega arith
fits Draw n (bytes bs) w h true = absurd w
fits Draw n (count k) w h true = omega (arith, drawn-length h n k)
fits Check n f w h true = omega arith
fits Close n f w h true = omega arith
fits Sum n f w h true = omega arith
fits v n f w h false = omega arith

shown_short : (h : Hub) (s : List ℕ) (l : Line) → parse s ≡ Some l
    → length (bytes_for (verb_of (call_of l)) (on_hub (call_of l) h).response.answer (on_hub (call_of l) h).response.buffer) ≤ most_bytes
unfolding bytes_for call_of
shown_short h s l e =
    fits l.verb l.number l.field (printed-lines.only s l e).1.field h (accepted (on_hub (call_of l) h).response.answer)

-- ---- a line's text

answered-short : (v : Verb) (a : Answer) (buffer : List ℕ) → length (bytes_for v a buffer) ≤ most_bytes → length (answered v a buffer) ≤ longest_answer
unfolding answered
answered-short v a buffer h = omega (arith, answer-long (word_for v a) (number_for v a) (bytes_for v a buffer) h)

pub step-short : (s : Session) (line : List ℕ) → length (stepped s line).text ≤ longest_answer
unfolding stepped meaning
step-short s line = go (eqb s.number 1) (same line names) (leb s.number most_lines) (parse line) refl
  where
    stop-short : length (step_by s malformed_line).text ≤ longest_answer
    stop-short = answer-long _ _ [] (omega arith)

    read : (r : Option Line) → parse line ≡ r → length (step_by s (as_call r)).text ≤ longest_answer
    read (Some l) e = answered-short (verb_of (call_of l)) _ _ (shown_short s.hub line l e)
    read None e = stop-short

    go : (t u v : Bool) (r : Option Line) → parse line ≡ r
        → length (step_by s (cond t (cond u names_line malformed_line) (cond v (as_call r) malformed_line))).text ≤ longest_answer
    go true true v r e = omega arith
    go true false v r e = stop-short
    go false u true r e = read r e
    go false u false r e = stop-short
