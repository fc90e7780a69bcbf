-- A line's step by what the line means.
-- Assumes nothing.
use mathlib.Core.Path.{◌≡◌, sym, ◌∙◌}
use mathlib.Core.Bool.{Bool, true, false, not}
use mathlib.Core.List.{List}
use Prim.Native.Nat.{ℕ, ◌≤◌, ◌<◌}
use borrow.Author.Tests.{not-true, not-false, eq-eqb, ne_eqb, le-leb, lt-leb}
use Rattle.std.specs.Str.{bytes_eq}
use Rattle.checks.specs.Equality.{same}
use Rattle.std.specs.Prelude.{Some, None}
use Rattle.script.specs.Line.{Line, parse}
use Rattle.script.proofs.ParsedLines.{parsed-size}
use Rattle.script.proofs.Words.{same-bytes}
use Rattle.interpreter.specs.declared.Session.{Session}
use Rattle.interpreter.specs.Script.{names, most_lines, names_line, call_of, meaning}
use Rattle.interpreter.specs.Session.{stopped, called, step_by, stepped}

-- what `!=` says of two texts
module _ (s p : List ℕ) (other : Bool) (is : other ≡ not (bytes_eq s p)) where
  pub told-other : other ≡ true → same s p ≡ false
  told-other e = same-bytes s p ∙ not-true (bytes_eq s p) (sym is ∙ e)

  pub told-same : other ≡ false → same s p ≡ true
  told-same e = same-bytes s p ∙ not-false (bytes_eq s p) (sym is ∙ e)

module _ (s : Session) (line : List ℕ) where
  module _ (first : s.number ≡ 1) where
    pub step-names : same line names ≡ true → stepped s line ≡ step_by s names_line
    unfolding stepped meaning
    step-names e = rw (eq-eqb s.number 1 first, e)

    pub step-no_names : same line names ≡ false → stepped s line ≡ stopped s
    unfolding stepped meaning
    step-no_names e = rw (eq-eqb s.number 1 first, e)

  module _ (later : s.number ≡ 1 → ⊥) where
    pub step_too_many : most_lines < s.number → stepped s line ≡ stopped s
    unfolding stepped meaning
    step_too_many h = rw (ne_eqb s.number 1 later, lt-leb s.number most_lines h)

    pub step_call : s.number ≤ most_lines → (l : Line) → parse line ≡ Some l → stepped s line ≡ called s (call_of l)
    unfolding stepped meaning
    step_call h l e = rw (ne_eqb s.number 1 later, le-leb s.number most_lines h, e)

    pub step-malformed : s.number ≤ most_lines → parse line ≡ None → stepped s line ≡ stopped s
    unfolding stepped meaning
    step-malformed h e = rw (ne_eqb s.number 1 later, le-leb s.number most_lines h, e)

-- by these a line is told by what it means
pub ruleset steps = (step-names, step-no_names, step_too_many, step_call, step-malformed, parsed-size)
