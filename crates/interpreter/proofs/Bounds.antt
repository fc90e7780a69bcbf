-- A script that goes on has read no more bytes than its lines may have.
-- Assumes nothing.
use mathlib.Core.Path.{◌≡◌, refl, sym, ap, ◌∙◌}
use mathlib.Core.Bool.{Bool, true, false, cond, false≢true}
use mathlib.Core.List.{List, [], ◌∷◌}
use Prim.Native.Nat.{ℕ, ◌+◌, ◌-◌, ◌*◌, ◌≤◌, min}
use native.Mathlib.Omega.{arith}
use lib.Dec.{eqb, leb, ltb}
use lib.ListN.{length, take, length-append}
use borrow.Author.Tests.{eqb-true, leb-true, ltb-true}
use Rattle.checks.specs.Equality.{same}
use Rattle.script.specs.Text.{newline}
use Rattle.script.specs.Line.{longest_line, parse}
use Rattle.interpreter.specs.declared.Session.{Session}
use Rattle.interpreter.specs.Script.{Meaning, names_line, call_line, malformed_line, meaning, names, most_lines, as_call}
use Rattle.interpreter.specs.declared.Reader.{Reader}
use Rattle.interpreter.specs.Session.{begun, step_by, stepped, stopped, Consumed, silent, after_step, hold, byte_step, consumed}
use Rattle.checks.specs.Joined.{joined}
use Rattle.interpreter.specs.Theorems.{consumed_all, at_first, most_input, NotEmpty}
use Rattle.interpreter.proofs.Consuming.{consumed-joined, stopped-consumed}

-- so many bytes may still be read
pub left : Session → ℕ
left s = 2101 * (1000001 - s.number) + (2101 - min s.held 2100)

-- a line that is no fault is line 1, or stands before the last allowed one or in its place
no_fault : (k : ℕ) (s : List ℕ) (m : Meaning) → meaning k s ≡ m → (m ≡ malformed_line → ⊥) → k ≤ most_lines
unfolding meaning
no_fault k s m e n = go (eqb k 1) (leb k most_lines) refl refl e
  where
    go : (t u : Bool) → eqb k 1 ≡ t → leb k most_lines ≡ u → cond t (cond (same s names) names_line malformed_line) (cond u (as_call (parse s)) malformed_line) ≡ m → k ≤ most_lines
    go true u p q e = omega (arith, eqb-true k 1 p)
    go false true p q e = leb-true k most_lines q
    go false false p q e = absurd (n (sym e))

-- a line takes at least one byte of them
line-left : (s : Session) (m : Meaning) → (m ≡ malformed_line → ⊥) → s.number ≤ most_lines → left (step_by s m).session + 1 ≤ left s
unfolding left
line-left s names_line n h = omega arith
line-left s (call_line c) n h = omega arith
line-left s malformed_line n h = absurd (n refl)

not_going : {A : Type 0} → false ≡ true → A
not_going e = absurd (false≢true e)

step_left : (s : Session) (line : List ℕ) → (stepped s line).session.going ≡ true → left (stepped s line).session + 1 ≤ left s
unfolding stepped
step_left s line e = go (meaning s.number line) refl e
  where
    go : (m : Meaning) → meaning s.number line ≡ m → (step_by s m).session.going ≡ true → left (step_by s m).session + 1 ≤ left s
    go names_line p q = line-left s names_line (λ z. let y : ◌≡◌ {A = ℕ} 0 1 = cc in omega arith)
        (no_fault s.number line names_line p (λ z. let y : ◌≡◌ {A = ℕ} 0 1 = cc in omega arith))
    go (call_line c) p q = line-left s (call_line c) (λ z. let y : ◌≡◌ {A = ℕ} 0 1 = cc in omega arith)
        (no_fault s.number line (call_line c) p (λ z. let y : ◌≡◌ {A = ℕ} 0 1 = cc in omega arith))
    go malformed_line p q = not_going q

-- so does any byte
byte_left : (r : Reader) (b : ℕ) → (byte_step r b).reader.session.going ≡ true → left (byte_step r b).reader.session + 1 ≤ left r.session
unfolding byte_step left
byte_left r b e = go r.session.going (eqb b newline) (ltb r.session.held longest_line) refl refl e
  where
    go : (t u v : Bool) → r.session.going ≡ t → ltb r.session.held longest_line ≡ v
        → (cond t (cond u (after_step r (stepped r.session (take r.session.held r.line))) (cond v (hold r b) (after_step r (stopped r.session))))
        (silent r)).reader.session.going ≡ true
        → left (cond t (cond u (after_step r (stepped r.session (take r.session.held r.line)))
        (cond v (hold r b) (after_step r (stopped r.session)))) (silent r)).reader.session + 1 ≤ left r.session
    go true true v p q e = step_left r.session (take r.session.held r.line) e
    go true false true p q e = let h = ltb-true r.session.held longest_line q in omega arith
    go true false false p q e = not_going e
    go false u v p q e = not_going (sym p ∙ e)

pub consumed-left : (r : Reader) (s : List ℕ) → (consumed r s).reader.session.going ≡ true → left (consumed r s).reader.session + length s ≤ left r.session
unfolding consumed
consumed-left r [] e = omega arith
consumed-left r (b ∷ s) e = go (byte_step r b).reader.session.going refl (consumed-left (byte_step r b).reader s e)
  where
    go : (t : Bool) → (byte_step r b).reader.session.going ≡ t
        → left (consumed (byte_step r b).reader s).reader.session + length s ≤ left (byte_step r b).reader.session
        → left (consumed (byte_step r b).reader s).reader.session + length (b ∷ s) ≤ left r.session
    go true p h = omega (arith, byte_left r b p)
    go false p h = not_going (sym (ap (λ (f : Consumed). f.reader.session.going) (stopped-consumed (byte_step r b).reader s p) ∙ p) ∙ e)

-- ---- turns

chunks-short : (chunks : List (List ℕ)) → NotEmpty chunks → length chunks ≤ length (joined chunks)
chunks-short [] h = omega arith
chunks-short (c ∷ cs) h = omega (arith, h.0, chunks-short cs h.1, length-append c (joined cs))

pub turns-enough : (line : List ℕ) (chunks : List (List ℕ)) → NotEmpty chunks → (consumed_all (at_first line) chunks).reader.session.going ≡ true
    → length chunks ≤ most_input
unfolding left begun
turns-enough line chunks h e =
    let f = consumed-joined (at_first line) chunks in
    let g : (consumed (at_first line) (joined chunks)).reader.session.going ≡ true = sym (ap (λ (x : Consumed). x.reader.session.going) f) ∙ e in
    omega (arith, consumed-left (at_first line) (joined chunks) g, chunks-short chunks h)
