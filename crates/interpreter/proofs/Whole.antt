-- Input byte by byte prints what its lines say.
-- Assumes nothing.
use mathlib.Core.Path.{◌≡◌, refl, sym, ap, ◌∙◌}
use mathlib.Core.Bool.{Bool, true, false, cond, not, ◌&&◌}
use mathlib.Core.List.{List, [], ◌∷◌, ◌++◌, append_assoc, append-nil}
use Prim.Native.Nat.{ℕ, ◌+◌, ◌≤◌, ◌<◌}
use native.Mathlib.Numerals.{add-one}
use native.Mathlib.Omega.{arith}
use lib.Dec.{eqb, leb, ltb}
use lib.ListN.{length, take, length-set}
use lib.Seq.{take-suc-set, length-take-le}
use borrow.Author.Tests.{ne_eqb, eqb-true, eqb-false, ltb-true, ltb-false, lt-leb}
use Rattle.checks.specs.Equality.{same}
use Rattle.checks.proofs.Equality.{other-same}
use Rattle.calls.specs.Call.{Call, events}
use Rattle.hub.specs.declared.Hub.{Hub}
use Rattle.hub.specs.Hub.{empty_hub, on_hub}
use Rattle.script.specs.Text.{newline}
use Rattle.std.specs.Prelude.{None}
use Rattle.script.specs.Line.{longest_line, fields, parse}
use Rattle.script.specs.Input.{in_front, lines}
use Rattle.interpreter.specs.declared.Session.{Session}
use Rattle.interpreter.specs.Script.{names, most_lines, answers, Meaning, names_line, call_line, malformed_line, as_call, meaning, at_the_end, at_line, Script, followed, script_from, script_of, stop_line, ending_text, printed_of}
use Rattle.interpreter.specs.declared.Reader.{Reader}
use Rattle.interpreter.specs.Session.{begun, step_by, stepped, Consumed, silent, hold, byte_step, consumed, finished}
use Rattle.interpreter.specs.Theorems.{at_first}
use Rattle.interpreter.proofs.Consuming.{stopped-consumed}
use Rattle.interpreter.proofs.Steps.{newline-step, hold-step, long-step}

-- ---- lines, the first of which has begun

-- bytes in front of the first line, none of which is taken for a newline
begin : List ℕ → List (List ℕ) → List (List ℕ)
begin [] ls = ls
begin (a ∷ h) ls = in_front a (begin h ls)

begin-more : (h : List ℕ) (b : ℕ) (ls : List (List ℕ)) → begin h (in_front b ls) ≡ begin (h ++ (b ∷ [])) ls
unfolding begin
begin-more [] b ls = refl
begin-more (a ∷ h) b ls = ap (in_front a) (begin-more h b ls)

begin-line : (h : List ℕ) (ls : List (List ℕ)) → begin h ([] ∷ ls) ≡ h ∷ ls
unfolding begin
begin-line [] ls = refl
begin-line (a ∷ h) ls = ap (in_front a) (begin-line h ls)

begin-last : (a : ℕ) (h : List ℕ) → begin (a ∷ h) [] ≡ (a ∷ h) ∷ []
unfolding begin
begin-last a [] = refl
begin-last a (b ∷ h) = ap (in_front a) (begin-last b h)

-- the first line is longer than those bytes
record Longer (h : List ℕ) (ls : List (List ℕ)) : Type 0 where
  first : List ℕ
  rest : List (List ℕ)
  split : ls ≡ first ∷ rest
  more : length h < length first

begin-longer : (h : List ℕ) (b : ℕ) (ls : List (List ℕ)) → Longer h (begin h (in_front b ls))
unfolding begin
begin-longer [] b [] = record { first = b ∷ []; rest = []; split = refl; more = omega arith }
begin-longer [] b (l ∷ ls) = record { first = b ∷ l; rest = ls; split = refl; more = omega arith }
begin-longer (a ∷ h) b ls =
    let w = begin-longer h b ls in
    record { first = a ∷ w.first; rest = w.rest; split = ap (in_front a) w.split; more = omega (arith, w.more) }

-- ---- a line that is too long

long-not-names : (s : List ℕ) → longest_line < length s → same s names ≡ false
long-not-names s h = other-same s names (λ e. omega (arith, ap length e))

long-malformed : (k : ℕ) (s : List ℕ) → longest_line < length s → meaning k s ≡ malformed_line
unfolding meaning parse
long-malformed k s h = rw (long-not-names s h, lt-leb (length s) longest_line h) (go (eqb k 1) (leb k most_lines))
  where
    go : (t u : Bool) → cond t (cond false names_line malformed_line) (cond u (as_call (cond false (fields s) None)) malformed_line) ≡ malformed_line
    go true u = refl
    go false true = refl
    go false false = refl

long-script : (k : ℕ) (h : List ℕ) (b : ℕ) (ls : List (List ℕ)) → longest_line ≤ length h
    → script_from k (begin h (in_front b ls)) ≡ record { calls = []; ending = at_line k }
unfolding script_from
long-script k h b ls e =
    let w = begin-longer h b ls in
    rw (w.split, long-malformed k w.first (omega (arith, w.more)))

-- ---- what is printed of a line and the lines after it

printed-call : (s : Session) (c : Call) (rest : Script) (k : ℕ)
    → printed_of on_hub s.hub (followed k (call_line c) rest) ≡ (step_by s (call_line c)).text ++ printed_of on_hub (step_by s (call_line c)).session.hub rest
unfolding printed_of events answers
printed-call s c rest k = append_assoc (step_by s (call_line c)).text (answers (events on_hub (step_by s (call_line c)).session.hub rest.calls))
    (ending_text rest.ending)

printed_fault : (h : Hub) (k : ℕ) → printed_of on_hub h (record { calls = []; ending = at_line k }) ≡ stop_line k
unfolding printed_of events answers
printed_fault h k = refl

-- ---- the whole input

-- what is printed from a reader on, to the end of the input
abbrev to_the_end : Reader → List ℕ → List ℕ
to_the_end r s = (consumed r s).text ++ (finished (consumed r s).reader).text

-- a script that has stopped prints nothing more
end-stopped : (r : Reader) (s : List ℕ) → r.session.going ≡ false → to_the_end r s ≡ []
unfolding finished
end-stopped r s e = rw (stopped-consumed r s e) (go (eqb r.session.held 0 && not (eqb r.session.number 1)))
  where
    go : (t : Bool) → (cond t (silent r) (consumed r (newline ∷ []))).text ≡ []
    go true = refl
    go false = rw (stopped-consumed r (newline ∷ []) e)

-- the line that is being read, so far
abbrev so_far : Reader → List ℕ
so_far r = take r.session.held r.line

-- a reader within its bounds
record Sound (r : Reader) : Type 0 where
  going : r.session.going ≡ true
  numbered : 1 ≤ r.session.number
  room : r.session.held ≤ longest_line
  buffer : length r.line ≡ longest_line

-- what its lines print
abbrev saying : Reader → List ℕ → List ℕ
saying r s = printed_of on_hub r.session.hub (script_from r.session.number (begin (so_far r) (lines s)))

-- what follows a line that means this: the script goes on, or has stopped
abbrev Follows : Session → Meaning → Script → List ℕ → Type 0
Follows s names_line rest others = others ≡ printed_of on_hub (step_by s names_line).session.hub rest
Follows s (call_line c) rest others = others ≡ printed_of on_hub (step_by s (call_line c)).session.hub rest
Follows s malformed_line rest others = others ≡ []

printed-line : (s : Session) (m : Meaning) (rest : Script) (others : List ℕ) → Follows s m rest others
    → (step_by s m).text ++ others ≡ printed_of on_hub s.hub (followed s.number m rest)
printed-line s names_line rest others e = e
printed-line s (call_line c) rest others e = rw e (sym (printed-call s c rest s.number))
printed-line s malformed_line rest others e = rw e (append-nil (stop_line s.number) ∙ sym (printed_fault s.hub s.number))

-- ---- a byte, and the bytes after it

ahead : (r : Reader) (b : ℕ) (s : List ℕ) → to_the_end r (b ∷ s) ≡ (byte_step r b).text ++ to_the_end (byte_step r b).reader s
unfolding consumed
ahead r b s = append_assoc (byte_step r b).text (consumed (byte_step r b).reader s).text (finished (consumed (byte_step r b).reader s).reader).text

module _ (r : Reader) (w : Sound r) where
  -- the reader after a line that means this
  abbrev after : Meaning → Reader
  after m = record { session = (step_by r.session m).session; line = r.line }

  newline-sound : (m : Meaning) → (m ≡ malformed_line → ⊥) → Sound (after m)
  newline-sound names_line n = record { going = refl; numbered = omega arith; room = omega arith; buffer = w.buffer }
  newline-sound (call_line c) n = record { going = refl; numbered = omega arith; room = omega arith; buffer = w.buffer }
  newline-sound malformed_line n = absurd (n refl)

  at-newline : (s : List ℕ) → ((q : Reader) → Sound q → to_the_end q s ≡ saying q s) → to_the_end r (newline ∷ s) ≡ saying r (newline ∷ s)
  unfolding lines script_from stepped begin
  at-newline s ih =
      ahead r newline s
      ∙ rw (newline-step r w.going, begin-line (so_far r) (lines s))
      (printed-line r.session (meaning r.session.number (so_far r)) (script_from (r.session.number + 1) (lines s))
      (to_the_end (after (meaning r.session.number (so_far r))) s) (go (meaning r.session.number (so_far r))))
    where
      go : (m : Meaning) → Follows r.session m (script_from (r.session.number + 1) (lines s)) (to_the_end (after m) s)
      go names_line = ih (after names_line) (newline-sound names_line (λ z. let y : ◌≡◌ {A = ℕ} 0 1 = cc in omega arith))
      go (call_line c) = ih (after (call_line c)) (newline-sound (call_line c) (λ z. let y : ◌≡◌ {A = ℕ} 0 1 = cc in omega arith))
      go malformed_line = end-stopped (after malformed_line) s refl

  -- another byte, for which there is room
  abbrev held : ℕ → Reader
  held b = (hold r b).reader

  hold-sound : (b : ℕ) → r.session.held < longest_line → Sound (held b)
  hold-sound b h =
      record { going = w.going; numbered = w.numbered; room = omega arith; buffer = length-set r.line r.session.held b ∙ w.buffer }

  hold-line : (b : ℕ) → r.session.held < longest_line → so_far (held b) ≡ so_far r ++ (b ∷ [])
  hold-line b h = rw (add-one r.session.held) (take-suc-set r.line r.session.held b (omega (arith, w.buffer)))

  lines-byte : (b : ℕ) (s : List ℕ) → (b ≡ newline → ⊥) → lines (b ∷ s) ≡ in_front b (lines s)
  unfolding lines
  lines-byte b s n = rw (ne_eqb b newline n)

  at_byte : (b : ℕ) (s : List ℕ) → (b ≡ newline → ⊥) → r.session.held < longest_line → to_the_end (held b) s ≡ saying (held b) s
      → to_the_end r (b ∷ s) ≡ saying r (b ∷ s)
  at_byte b s n h ih =
      ahead r b s
      ∙ ap (λ (f : Consumed). f.text ++ to_the_end f.reader s) (hold-step r b w.going n h)
      ∙ ih
      ∙ ap (λ (ls : List (List ℕ)). printed_of on_hub r.session.hub (script_from r.session.number ls))
      (ap (λ (l : List ℕ). begin l (lines s)) (hold-line b h) ∙ sym (begin-more (so_far r) b (lines s)) ∙ ap (begin (so_far r)) (sym (lines-byte b s n)))

  -- and one for which there is none
  at_long : (b : ℕ) (s : List ℕ) → (b ≡ newline → ⊥) → longest_line ≤ r.session.held → to_the_end r (b ∷ s) ≡ saying r (b ∷ s)
  at_long b s n h =
      ahead r b s
      ∙ ap (λ (f : Consumed). f.text ++ to_the_end f.reader s) (long-step r b w.going n h)
      ∙ ap (λ (t : List ℕ). stop_line r.session.number ++ t) (end-stopped (after malformed_line) s refl)
      ∙ append-nil (stop_line r.session.number)
      ∙ sym (printed_fault r.session.hub r.session.number)
      ∙ sym
      (ap (printed_of on_hub r.session.hub)
      (ap (λ (ls : List (List ℕ)). script_from r.session.number (begin (so_far r) ls)) (lines-byte b s n)
      ∙ long-script r.session.number (so_far r) b (lines s) (omega (arith, length-take-le r.session.held r.line (omega (arith, w.room, w.buffer))))))

  -- ---- the end of the input

  nothing-more : script_from (r.session.number + 1) [] ≡ record { calls = []; ending = at_the_end }
  unfolding script_from
  nothing-more = rw (ne_eqb (r.session.number + 1) 1 (λ e. omega (arith, w.numbered)))

  prints_nothing : (h : Hub) → printed_of on_hub h (record { calls = []; ending = at_the_end }) ≡ []
  unfolding printed_of events answers
  prints_nothing h = refl

  -- a last line without its newline is run as if it had one
  last_line : (consumed r (newline ∷ [])).text ≡ printed_of on_hub r.session.hub (script_from r.session.number (so_far r ∷ []))
  unfolding consumed script_from stepped
  last_line =
      rw (newline-step r w.going)
      (printed-line r.session (meaning r.session.number (so_far r)) (script_from (r.session.number + 1) []) [] (go (meaning r.session.number (so_far r))))
    where
      go : (m : Meaning) → Follows r.session m (script_from (r.session.number + 1) []) []
      go names_line = sym (ap (printed_of on_hub r.session.hub) nothing-more ∙ prints_nothing r.session.hub)
      go (call_line c) = sym (ap (printed_of on_hub (step_by r.session (call_line c)).session.hub) nothing-more
          ∙ prints_nothing (step_by r.session (call_line c)).session.hub)
      go malformed_line = refl

  -- line 1 is missing
  no_names : r.session.held ≡ 0 → r.session.number ≡ 1 → (consumed r (newline ∷ [])).text ≡ printed_of on_hub r.session.hub (script_from r.session.number [])
  unfolding consumed script_from stepped meaning same
  no_names e f = rw (newline-step r w.going, e, f) (append-nil (stop_line 1) ∙ sym (printed_fault r.session.hub 1))

  -- nothing is missing after a line with its newline
  no_line : (eqb r.session.number 1 ≡ false) → [] ≡ printed_of on_hub r.session.hub (script_from r.session.number [])
  unfolding script_from
  no_line e = rw e (sym (prints_nothing r.session.hub))

  held-length : length (so_far r) ≡ r.session.held
  held-length = length-take-le r.session.held r.line (omega (arith, w.room, w.buffer))

  at-end : to_the_end r [] ≡ saying r []
  unfolding consumed finished lines begin
  at-end = go (eqb r.session.held 0) (eqb r.session.number 1) refl refl (so_far r) refl
    where
      go : (t u : Bool) → eqb r.session.held 0 ≡ t → eqb r.session.number 1 ≡ u → (l : List ℕ) → so_far r ≡ l
          → (cond (t && not u) (silent r) (consumed r (newline ∷ []))).text ≡ printed_of on_hub r.session.hub (script_from r.session.number (begin l []))
      go true true p q [] e = no_names (eqb-true r.session.held 0 p) (eqb-true r.session.number 1 q)
      go true false p q [] e = no_line q
      go true u p q (a ∷ l) e = absurd (omega (arith, eqb-true r.session.held 0 p, held-length, ap length e))
      go false u p q [] e = absurd (eqb-false r.session.held 0 p (omega (arith, held-length, ap length e)))
      go false u p q (a ∷ l) e =
          last_line
          ∙ ap (λ (ls : List (List ℕ)). printed_of on_hub r.session.hub (script_from r.session.number ls))
          (ap (λ (x : List ℕ). x ∷ []) e ∙ sym (begin-last a l))

-- ---- all bytes

whole : (r : Reader) (s : List ℕ) → Sound r → to_the_end r s ≡ saying r s
whole r [] w = at-end r w
whole r (b ∷ s) w = go (eqb b newline) (ltb r.session.held longest_line) refl refl (λ q v. whole q s v)
  where
    go : (t u : Bool) → eqb b newline ≡ t → ltb r.session.held longest_line ≡ u → ((q : Reader) → Sound q → to_the_end q s ≡ saying q s)
        → to_the_end r (b ∷ s) ≡ saying r (b ∷ s)
    go true u p q ih = rw (eqb-true b newline p) (at-newline r w s ih)
    go false true p q ih =
        let h = ltb-true r.session.held longest_line q in
        at_byte r w b s (eqb-false b newline p) h (ih (hold r b).reader (hold-sound r w b h))
    go false false p q ih = at_long r w b s (eqb-false b newline p) (ltb-false r.session.held longest_line q)

-- from the first byte on
pub from_the_start : (line s : List ℕ) → length line ≡ longest_line
    → (consumed (at_first line) s).text ++ (finished (consumed (at_first line) s).reader).text ≡ printed_of on_hub empty_hub (script_of s)
unfolding begun script_of begin
from_the_start line s h = whole (at_first line) s (record { going = refl; numbered = omega arith; room = omega arith; buffer = h })
