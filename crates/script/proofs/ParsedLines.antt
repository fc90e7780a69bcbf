-- What `parse_line` answers: nothing is lost, and sizes are small.
-- Assumes nothing.
use mathlib.Core.Path.{◌≡◌, refl, sym, ap, ◌∙◌}
use mathlib.Core.List.{List}
use Prim.Native.Nat.{ℕ, ◌+◌, ◌≤◌}
use native.Mathlib.Omega.{arith}
use lib.ListN.{length, take, drop}
use lib.Seq.{sets, sets-eq, take_at, length-sets}
use Rattle.script.specs.declared.line.Verb.{Verb}
use Rattle.script.specs.declared.line.Verb.TheVariants.{Open, Feed, Draw, Check, Close, Sum}
use Rattle.script.specs.declared.line.Parsed.{Parsed}
use Rattle.std.specs.Prelude.{Option, Some, None}
use Rattle.script.specs.Line.{most_bytes, Line, Field, bytes, count, SomeBytes, NoBytes, ACount, FieldFits, Valid, field_of, with_field, parse}
use Rattle.script.specs.Parsed.{field_in, line_with, line_in, size_of, bytes_in, parsed_of, buffer_after, size_read, buffer_with}
use Rattle.script.proofs.Texts.{none-some}
use Rattle.script.proofs.RoundTrip.{read-printed}

-- ---- the answer and the buffer, put together

front : (bs d : List ℕ) → length bs ≤ length d → take (length bs) (sets d 0 bs) ≡ bs
front bs d h = rw (sets-eq bs d 0 (omega arith)) (take_at bs (drop (0 + length bs) d) (length bs) refl)

module _ (d : List ℕ) (room : length d ≡ most_bytes) where
  some-from : (f : Field) → SomeBytes f → bytes (take (size_of f) (sets d 0 (bytes_in f))) ≡ f
  some-from (bytes bs) h = ap bytes (front bs d (omega (arith, h.0)))
  some-from (count k) h = absurd h

  none_from : (f : Field) → NoBytes f → bytes (take (size_of f) (sets d 0 (bytes_in f))) ≡ f
  none_from (bytes bs) h = ap bytes (front bs d (omega (arith, ap length h)))
  none_from (count k) h = absurd h

  count-from : (f : Field) → ACount f → count (size_of f) ≡ f
  count-from (bytes bs) h = absurd h
  count-from (count k) h = refl

  field-from : (v : Verb) (n : ℕ) (f : Field) → FieldFits v n f → field_in v (size_of f) (sets d 0 (bytes_in f)) ≡ f
  unfolding FieldFits
  field-from Open n f h = some-from f h
  field-from Feed n f h = some-from f h
  field-from Draw n f h = count-from f h
  field-from Check n f h = some-from f h
  field-from Close n f h = none_from f h
  field-from Sum n f h = none_from f h.0

  line-from : (l : Line) → Valid l → line_with l.verb l.number (size_of l.field) (sets d 0 (bytes_in l.field)) ≡ l
  line-from l h = ap (λ (f : Field). record { verb = l.verb; number = l.number; field = f }) (field-from l.verb l.number l.field h.field)

  from-read : (s : List ℕ) (r : Option Line) → parse s ≡ r → line_in (parsed_of r) (buffer_after d r) ≡ r
  from-read s (Some l) e = ap Some (line-from l (read-printed s l e).1)
  from-read s None e = refl

  -- an answer and the buffer stand for the line that was read
  pub nothing_lost : (s : List ℕ) → line_in (parsed_of (parse s)) (buffer_after d (parse s)) ≡ parse s
  nothing_lost s = from-read s (parse s) refl

  -- so what `parse_line` answers, with the buffer that it leaves, stands for the line
  pub parsed_line : (s : List ℕ) (p : Option Parsed) (e : List ℕ) → p ≡ parsed_of (parse s) → e ≡ buffer_after d (parse s) → line_in p e ≡ parse s
  parsed_line s p e answer buffer = rw (answer, buffer) (nothing_lost s)

  -- an answer that is put together from a verb, a number and what was read of the third field stands, with the buffer, for the line
  pub line-read : (s t e : List ℕ) (v : Verb) (n k : ℕ)
      → parse s ≡ with_field v n (field_of v n t) → Some k ≡ size_read (field_of v n t) → e ≡ buffer_with d (field_of v n t) → Some (line_with v n k e) ≡ parse s
  line-read s t e v n k p q b =
      go (field_of v n t) p q b
    where
      go : (r : Option Field) → parse s ≡ with_field v n r → Some k ≡ size_read r → e ≡ buffer_with d r → Some (line_with v n k e) ≡ parse s
      go (Some f) p q b =
          let w : k ≡ size_of f = cc in
          rw (w, b) (ap Some (line-from (record { verb = v; number = n; field = f }) (read-printed s (record { verb = v; number = n; field = f }) p).1) ∙ sym p)
      go None p q b = absurd (none-some (sym q))

-- ---- sizes

some_size : (f : Field) → SomeBytes f → size_of f ≤ most_bytes
some_size (bytes bs) h = h.0
some_size (count k) h = absurd h

none-size : (f : Field) → NoBytes f → size_of f ≤ most_bytes
none-size (bytes bs) h = omega (arith, ap length h)
none-size (count k) h = absurd h

count-size : (f : Field) → ACount f → size_of f ≤ most_bytes
count-size (bytes bs) h = absurd h
count-size (count k) h = h

field-size : (v : Verb) (n : ℕ) (f : Field) → FieldFits v n f → size_of f ≤ most_bytes
unfolding FieldFits
field-size Open n f h = some_size f h
field-size Feed n f h = some_size f h
field-size Draw n f h = count-size f h
field-size Check n f h = some_size f h
field-size Close n f h = none-size f h
field-size Sum n f h = none-size f h.0

-- a call's size is at most 1,024
pub parsed-size : (s : List ℕ) (p : Parsed) → parsed_of (parse s) ≡ Some p → p.size ≤ most_bytes
parsed-size s p e = go (parse s) refl e
  where
    go : (r : Option Line) → parse s ≡ r → parsed_of r ≡ Some p → p.size ≤ most_bytes
    go (Some l) q f =
        let w : size_of l.field ≡ p.size = cc in
        omega (arith, w, field-size l.verb l.number l.field (read-printed s l q).1.field)
    go None q f = absurd (none-some f)

-- the buffer keeps its length
pub buffer-length : (d : List ℕ) (r : Option Line) → length (buffer_after d r) ≡ length d
buffer-length d (Some l) = length-sets d 0 (bytes_in l.field)
buffer-length d None = refl
