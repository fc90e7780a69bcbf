-- Laws of a line's fields, for the code that reads and writes them.
-- Assumes nothing.
use mathlib.Core.Path.{◌≡◌, refl, ◌∙◌}
use mathlib.Core.Bool.{Bool, true, false, cond, ◌&&◌}
use mathlib.Core.List.{List, [], ◌∷◌}
use Prim.Native.Nat.{ℕ, ◌*◌, ◌≤◌, ◌<◌}
use native.Mathlib.Omega.{arith}
use lib.Dec.{leb}
use lib.ListN.{length}
use lib.Seq.{sets}
use borrow.Author.Tests.{ne_eqb, le-leb, lt-leb, leb-true}
use Rattle.script.specs.Text.{space, dash, before, after}
use Rattle.std.specs.Prelude.{Some, None, option_and_then}
use Rattle.script.specs.Number.{number_of}
use Rattle.script.specs.Hex.{hex_pairs, decoded}
use Rattle.script.specs.Line.{longest_line, most_bytes, Field, bytes, count, count_of, is_count, no_bytes_of, is_dash, verb_of, is_hex, count_value, field_of, with_field, fields, parse}
use Rattle.script.specs.Parsed.{bytes_in, buffer_with}
use Rattle.script.proofs.Texts.{and_left, and_right}
use Rattle.script.proofs.Words.{same-tests}
use Rattle.script.proofs.HexDigits.{decoded-length}

-- ---- a field of bytes

pub hex-short : (s : List ℕ) → is_hex s ≡ true → length s ≤ 2 * most_bytes
unfolding is_hex
hex-short s e = leb-true _ _ (and_left (leb (length s) (2 * most_bytes)) (hex_pairs s) (and_right (leb 1 (length s)) (leb (length s) (2 * most_bytes) && hex_pairs s) e))

pub hex-pairs : (s : List ℕ) → is_hex s ≡ true → hex_pairs s ≡ true
unfolding is_hex
hex-pairs s e = and_right (leb (length s) (2 * most_bytes)) (hex_pairs s) (and_right (leb 1 (length s)) (leb (length s) (2 * most_bytes) && hex_pairs s) e)

pub hex-no_dash : (s : List ℕ) → is_hex s ≡ true → is_dash s ≡ false
unfolding is_dash
hex-no_dash s e = same-tests s (dash ∷ []) ∙ rw (ne_eqb (length s) 1 (λ n. omega (arith, decoded-length s (hex-pairs s e))))

-- by these a field of digits can be decoded
pub ruleset digits = (hex-short, hex-pairs, hex-no_dash)

-- ---- a count

two-filled : (bs : List ℕ) → length bs ≡ 2 → sets (0 ∷ 0 ∷ []) 0 bs ≡ bs
two-filled [] e = absurd (omega arith)
two-filled (x ∷ []) e = absurd (omega arith)
two-filled (x ∷ y ∷ []) e = refl
two-filled (x ∷ y ∷ z ∷ bs) e = absurd (omega arith)

-- four digits fill a buffer of two bytes
pub four-decoded : (s : List ℕ) → length s ≡ 4 → hex_pairs s ≡ true → sets (0 ∷ 0 ∷ []) 0 (decoded s) ≡ decoded s
four-decoded s n h = two-filled (decoded s) (omega (arith, decoded-length s h))

pub ruleset counts = (four-decoded)

-- ---- a count and an empty field leave the buffer as it was

keeps-cond : (t : Bool) (f : Field) (d : List ℕ) → bytes_in f ≡ [] → buffer_with d (cond t (Some f) None) ≡ d
keeps-cond true f d e = rw e
keeps-cond false f d e = refl

pub count-keeps : (d s : List ℕ) → buffer_with d (count_of s) ≡ d
unfolding count_of
count-keeps d s = keeps-cond (is_count s) (count (count_value s)) d refl

pub empty-keeps : (d s : List ℕ) → buffer_with d (no_bytes_of s) ≡ d
unfolding no_bytes_of
empty-keeps d s = keeps-cond (is_dash s) (bytes []) d refl

pub ruleset keeps = (count-keeps, empty-keeps)

-- ---- a line

pub parse-long : (s : List ℕ) → longest_line < length s → parse s ≡ None
unfolding parse
parse-long s h = rw (lt-leb (length s) longest_line h)

pub parse-fields : (s : List ℕ) → length s ≤ longest_line
    → parse s
    ≡ option_and_then
    (λ v. option_and_then (λ n. with_field v n (field_of v n (after space (after space s)))) (number_of (before space (after space s))))
    (verb_of (before space s))
unfolding parse fields
parse-fields s h = rw (le-leb (length s) longest_line h)

pub ruleset lines = (parse-long, parse-fields)
