-- What a script prints, however its input comes, and what the bytes of an open are.
-- Assumes nothing.
use mathlib.Core.Path.{◌≡◌, refl, ap, ap₂, ◌∙◌}
use mathlib.Core.List.{List, [], ◌∷◌, ◌++◌}
use Prim.Native.Nat.{ℕ}
use borrow.Author.Tests.{ne_eqb}
use lib.ListN.{length}
use lib.Seq.{take_at, get_or-append_seam}
use Rattle.calls.specs.Call.{Open as openCall, Event}
use Rattle.calls.specs.Machine.{machine, empty_machine}
use Rattle.hub.specs.Hub.{empty_hub, on_hub}
use Rattle.hub.proofs.Law.{hub_law}
use Rattle.script.specs.Line.{longest_line}
use Rattle.interpreter.specs.Script.{answer_names, answers, ending_text, script_of, printed_of, output}
use Rattle.interpreter.specs.Session.{Consumed, finished}
use Rattle.checks.specs.Joined.{joined}
use Rattle.interpreter.specs.Theorems.{at_first, printed, OpenBytes, Scripts}
use Rattle.interpreter.proofs.Calling.{before-end}
use Rattle.interpreter.proofs.Consuming.{consumed-joined}
use Rattle.interpreter.proofs.Filling.{filled-parts, parts_whole}
use Rattle.interpreter.proofs.Bounds.{turns-enough}
use Rattle.interpreter.proofs.Whole.{from_the_start}

cut : (line : List ℕ) (chunks : List (List ℕ)) → length line ≡ longest_line → printed line chunks ≡ output on_hub empty_hub (joined chunks)
unfolding printed output
cut line chunks h =
    ap (λ (f : Consumed). answer_names ++ (f.text ++ (finished f.reader).text)) (consumed-joined (at_first line) chunks)
    ∙ ap (λ (t : List ℕ). answer_names ++ t) (from_the_start line (joined chunks) h)

plain : (input : List ℕ) → output on_hub empty_hub input ≡ output machine empty_machine input
unfolding output printed_of
plain input =
    ap (λ (es : List Event). answer_names ++ (answers es ++ ending_text (script_of input).ending)) (hub_law (script_of input).calls).plain

pub open-bytes : OpenBytes
open-bytes = record {
  tagged = λ key n. rw before-end (ap₂ (openCall 2) (take_at key (n ∷ []) (length key) refl) (get_or-append_seam key n [] 0));
  bare = refl;
  plain = λ mode key other. rw (ne_eqb mode 2 other);
}

pub scripts : Scripts
scripts =
    record {
      cut = cut;
      plain = plain;
      parts = filled-parts;
      whole = parts_whole;
      turns = turns-enough;
    }
