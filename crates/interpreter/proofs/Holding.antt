-- The bytes of a line are held one after the other.
-- Assumes nothing.
use mathlib.Core.Path.{◌≡◌, refl, sym, ap, ◌∙◌}
use mathlib.Core.Bool.{Bool, true, false, cond}
use mathlib.Core.List.{List, [], ◌∷◌, ◌++◌}
use Prim.Native.Nat.{ℕ, suc, ◌+◌, ◌-◌, ◌≤◌}
use native.Mathlib.Nat.{add-zero}
use native.Mathlib.Numerals.{add-one}
use native.Mathlib.Omega.{arith}
use lib.Dec.{eqb}
use lib.ListN.{length, take, drop, set, take-append-drop}
use lib.Seq.{sets}
use borrow.Author.Tests.{eqb-false}
use Rattle.script.specs.Text.{newline, before}
use Rattle.script.specs.Line.{longest_line}
use Rattle.script.specs.Input.{piece}
use Rattle.script.proofs.Pieces.{piece-part}
use Rattle.interpreter.specs.declared.Reader.{Reader}
use Rattle.interpreter.specs.Session.{reader_of, holding, hold, longest_answer, filled}
use Rattle.interpreter.proofs.Consuming.{stopped-byte}
use Rattle.interpreter.proofs.Filling.{filled-silent}
use Rattle.interpreter.proofs.Steps.{hold-step}

-- a text without a newline begins with another byte, and goes on so
no_newline : (b : ℕ) (s : List ℕ) → before newline (b ∷ s) ≡ b ∷ s → (b ≡ newline → ⊥) × (before newline s ≡ s)
unfolding before
no_newline b s e = go (eqb b newline) refl e
  where
    go : (t : Bool) → eqb b newline ≡ t → cond t [] (b ∷ before newline s) ≡ b ∷ s → (b ≡ newline → ⊥) × (before newline s ≡ s)
    go true p q = let z : ◌≡◌ {A = ℕ} 0 1 = cc in absurd (omega arith)
    go false p q = (eqb-false b newline p, cc)

-- the reader with a text behind the bytes that it holds
abbrev pub held : Reader → List ℕ → Reader
held r p = reader_of (holding r.session (r.session.held + length p)) (sets r.line r.session.held p)

held_more : (r : Reader) (b : ℕ) (p : List ℕ) → held (hold r b).reader p ≡ held r (b ∷ p)
held_more r b p =
    let n : r.session.held + 1 + length p ≡ r.session.held + suc (length p) = omega arith in
    ap (λ (k : ℕ). reader_of (holding r.session k) (sets (set r.line r.session.held b) (r.session.held + 1) p)) n
    ∙ ap (λ (k : ℕ). reader_of (holding r.session (r.session.held + suc (length p))) (sets (set r.line r.session.held b) k p))
    (add-one r.session.held)

pub filled-held : (size : ℕ) (r : Reader) (text p s : List ℕ) → length text + longest_answer ≤ size → r.session.going ≡ true
    → length p ≤ longest_line - r.session.held → before newline p ≡ p → filled size r text (p ++ s) ≡ filled size (held r p) text s
filled-held size r text [] s room going h e = ap (λ (k : ℕ). filled size (reader_of (holding r.session k) r.line) text s) (sym (add-zero r.session.held))
filled-held size r text (b ∷ p) s room going h e =
    let n = no_newline b p e in
    filled-silent size r (hold r b).reader text b (p ++ s) room (hold-step r b going n.0 (omega arith))
    ∙ filled-held size (hold r b).reader text p s room going (omega arith) n.1
    ∙ ap (λ (q : Reader). filled size q text s) (held_more r b p)

-- a script that has stopped takes all
pub filled-stopped : (size : ℕ) (r : Reader) (text s : List ℕ) → length text + longest_answer ≤ size → r.session.going ≡ false
    → filled size r text s ≡ filled size r text []
filled-stopped size r text [] room e = refl
filled-stopped size r text (b ∷ s) room e = filled-silent size r r text b s room (stopped-byte r b e) ∙ filled-stopped size r text s room e

-- a chunk is a piece of a line and what stands after it
pub chunk-split : (chunk : List ℕ) (room n : ℕ) → n ≡ length (piece chunk room) → chunk ≡ piece chunk room ++ drop n chunk
chunk-split chunk room n e =
    sym (take-append-drop n chunk)
    ∙ ap (λ (p : List ℕ). p ++ drop n chunk) (ap (λ (k : ℕ). take k chunk) e ∙ piece-part chunk room)
