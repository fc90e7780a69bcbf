-- Well-formed lines are exactly the printed ones: what is printed is read back, and what is read was printed so.
-- Assumes nothing.
use mathlib.Core.Path.{◌≡◌, refl, sym, ap, ◌∙◌, subst}
use mathlib.Core.Logic.{◌⊎◌, inl, inr, ⊎_elim}
use mathlib.Core.Bool.{Bool, true, false, cond, ◌&&◌}
use mathlib.Core.List.{List, [], ◌∷◌, ◌++◌}
use Prim.Native.Nat.{ℕ, ◌+◌, ◌*◌, ◌/◌, ◌%◌, ◌≤◌}
use native.Mathlib.Omega.{arith}
use lib.Dec.{eqb, leb}
use lib.ListN.{length, get_or, length-append}
use borrow.Author.Tests.{eq-eqb, ne_eqb, le-leb, leb-true, eqb-true}
use Rattle.checks.specs.Equality.{same}
use Rattle.checks.proofs.Equality.{same-equal}
use Rattle.script.specs.declared.line.Verb.{Verb}
use Rattle.script.specs.declared.line.Verb.TheVariants.{Open, Feed, Draw, Check, Close, Sum}
use Rattle.script.specs.Text.{space, dash, before, after}
use Rattle.std.specs.Prelude.{Option, Some, None, option_and_then}
use Rattle.script.specs.Number.{most_number, is_digit, all_digits, plain_start, value_from, is_number, number_of, decimal}
use Rattle.script.specs.Hex.{hex_pairs, decoded, hex_of, bytes_text}
use Rattle.script.specs.Line.{Line, Field, bytes, count, longest_line, most_bytes, most_count, name, field_text, render, AllBytes, SomeBytes, NoBytes, ACount, FieldFits, Valid, verb_of, is_dash, is_hex, bytes_of, no_bytes_of, count_value, is_count, count_of, field_of, with_field, fields, parse}
use Rattle.script.specs.Laws.{PrintedLines}
use Rattle.script.proofs.Texts.{and_left, and_right, none-some}
use Rattle.script.proofs.Decimals.{decimal_digits, decimal-read, decimal-long, spelled_back, digit_range}
use Rattle.script.proofs.HexDigits.{hex-length, bytes-text-long, decoded-length, hex-is-pairs, hex-decoded, decoded-hex, decoded-bytes}
use Rattle.script.proofs.Lines.{parse-fields, hex-short, hex-pairs, hex-no_dash}

-- ---- a printed line is cut at its spaces

before-name : (v : Verb) (r : List ℕ) → before space (name v ++ space ∷ r) ≡ name v
unfolding before
before-name Open r = refl
before-name Feed r = refl
before-name Draw r = refl
before-name Check r = refl
before-name Close r = refl
before-name Sum r = refl

after-name : (v : Verb) (r : List ℕ) → after space (name v ++ space ∷ r) ≡ r
unfolding after
after-name Open r = refl
after-name Feed r = refl
after-name Draw r = refl
after-name Check r = refl
after-name Close r = refl
after-name Sum r = refl

no_space : (b : ℕ) → is_digit b ≡ true → eqb b space ≡ false
no_space b e = let w = digit_range b e in ne_eqb b space (λ q. omega arith)

before_digits : (w r : List ℕ) → all_digits w ≡ true → before space (w ++ space ∷ r) ≡ w
unfolding before all_digits
before_digits [] r e = refl
before_digits (b ∷ w) r e = rw (no_space b (and_left (is_digit b) (all_digits w) e), before_digits w r (and_right (is_digit b) (all_digits w) e))

after_digits : (w r : List ℕ) → all_digits w ≡ true → after space (w ++ space ∷ r) ≡ r
unfolding after all_digits
after_digits [] r e = refl
after_digits (b ∷ w) r e = rw (no_space b (and_left (is_digit b) (all_digits w) e)) (after_digits w r (and_right (is_digit b) (all_digits w) e))

verb-read : (v : Verb) → verb_of (name v) ≡ Some v
unfolding verb_of same
verb-read Open = refl
verb-read Feed = refl
verb-read Draw = refl
verb-read Check = refl
verb-read Close = refl
verb-read Sum = refl

-- ---- fields are read back

dash-read : is_dash (dash ∷ []) ≡ true
unfolding is_dash same
dash-read = refl

hex-read : (b : ℕ) (bs : List ℕ) → length (b ∷ bs) ≤ most_bytes → AllBytes (b ∷ bs) → is_hex (hex_of (b ∷ bs)) ≡ true
unfolding is_hex
hex-read b bs h k =
    let n = hex-length (b ∷ bs) in
    rw (
      le-leb 1 (length (hex_of (b ∷ bs))) (omega arith),
      le-leb (length (hex_of (b ∷ bs))) (2 * most_bytes) (omega arith),
      hex-is-pairs (b ∷ bs) k,
    )

bytes_read : (bs : List ℕ) → length bs ≤ most_bytes → AllBytes bs → bytes_of (bytes_text bs) ≡ Some (bytes bs)
unfolding bytes_of bytes_text
bytes_read [] h k = rw dash-read
bytes_read (b ∷ bs) h k = let e = hex-read b bs h k in rw (hex-no_dash (hex_of (b ∷ bs)) e, e, hex-decoded (b ∷ bs) k)

none_read : no_bytes_of (dash ∷ []) ≡ Some (bytes [])
unfolding no_bytes_of
none_read = rw dash-read

-- a count is two bytes
count-bytes : (k : ℕ) → k ≤ most_count → AllBytes (k / 256 ∷ k % 256 ∷ [])
unfolding AllBytes
count-bytes k h = (omega arith, (omega arith, tt))

count-back : (k : ℕ) → k ≤ most_count → count_value (hex_of (k / 256 ∷ k % 256 ∷ [])) ≡ k
unfolding count_value
count-back k h = rw (hex-decoded (k / 256 ∷ k % 256 ∷ []) (count-bytes k h)) (omega arith)

count-read : (k : ℕ) → k ≤ most_count → count_of (hex_of (k / 256 ∷ k % 256 ∷ [])) ≡ Some (count k)
unfolding count_of is_count
count-read k h =
    let e = count-back k h in
    rw (
      eq-eqb (length (hex_of (k / 256 ∷ k % 256 ∷ []))) 4 (hex-length (k / 256 ∷ k % 256 ∷ [])),
      hex-is-pairs (k / 256 ∷ k % 256 ∷ []) (count-bytes k h),
      e,
      le-leb k most_count h,
    )

some_read : (f : Field) → SomeBytes f → bytes_of (field_text f) ≡ Some f
unfolding field_text
some_read (bytes bs) h = bytes_read bs h.0 h.1
some_read (count k) h = absurd h

no_read : (f : Field) → NoBytes f → no_bytes_of (field_text f) ≡ Some f
unfolding field_text bytes_text
no_read (bytes bs) h = rw h none_read
no_read (count k) h = absurd h

draw-read : (f : Field) → ACount f → count_of (field_text f) ≡ Some f
unfolding field_text
draw-read (bytes bs) h = absurd h
draw-read (count k) h = count-read k h

field-read : (v : Verb) (n : ℕ) (f : Field) → FieldFits v n f → field_of v n (field_text f) ≡ Some f
unfolding field_of FieldFits
field-read Open n f h = some_read f h
field-read Feed n f h = some_read f h
field-read Draw n f h = draw-read f h
field-read Check n f h = some_read f h
field-read Close n f h = no_read f h
field-read Sum n f h = rw (eq-eqb n 0 h.1) (no_read f h.0)

-- ---- a printed line is short enough

name-long : (v : Verb) → length (name v) ≤ 5
name-long Open = omega arith
name-long Feed = omega arith
name-long Draw = omega arith
name-long Check = omega arith
name-long Close = omega arith
name-long Sum = omega arith

some-long : (f : Field) → SomeBytes f → length (field_text f) ≤ 2 * most_bytes
unfolding field_text
some-long (bytes bs) h = bytes-text-long bs h.0
some-long (count k) h = absurd h

none-long : (f : Field) → NoBytes f → length (field_text f) ≤ 2 * most_bytes
unfolding field_text bytes_text
none-long (bytes bs) h = rw h (omega arith)
none-long (count k) h = absurd h

draw-long : (f : Field) → ACount f → length (field_text f) ≤ 2 * most_bytes
unfolding field_text
draw-long (bytes bs) h = absurd h
draw-long (count k) h = omega (arith, hex-length (k / 256 ∷ k % 256 ∷ []))

field-long : (v : Verb) (n : ℕ) (f : Field) → FieldFits v n f → length (field_text f) ≤ 2 * most_bytes
unfolding FieldFits
field-long Open n f h = some-long f h
field-long Feed n f h = some-long f h
field-long Draw n f h = draw-long f h
field-long Check n f h = some-long f h
field-long Close n f h = none-long f h
field-long Sum n f h = none-long f h.0

render-long : (l : Line) → Valid l → length (render l) ≤ longest_line
unfolding render
render-long l h =
    omega (
      arith,
      length-append (name l.verb) (space ∷ (decimal l.number ++ space ∷ field_text l.field)),
      length-append (decimal l.number) (space ∷ field_text l.field),
      name-long l.verb,
      decimal-long l.number,
      field-long l.verb l.number l.field h.field,
    )

-- ---- what is printed is read back

pub printed-read : (l : Line) → Valid l → parse (render l) ≡ Some l
unfolding render
printed-read l h =
    let v = l.verb in
    let n = l.number in
    let f = field_text l.field in
    let b = before-name v (decimal n ++ space ∷ f) in
    let a = after-name v (decimal n ++ space ∷ f) in
    parse-fields (render l) (render-long l h)
    ∙ rw (
      ap verb_of b ∙ verb-read v,
      ap (λ (r : List ℕ). number_of (before space r)) a ∙ ap number_of (before_digits (decimal n) f (decimal_digits n)) ∙ decimal-read n h.number,
      ap (after space) a ∙ after_digits (decimal n) f (decimal_digits n),
    )
    (ap (with_field v n) (field-read v n l.field h.field))

-- ---- what a line that is read was

-- a choice between a value and another reading gave y: by its first case, or by its second
chosen : {A : Type 0} (t : Bool) (x : A) (r : Option A) (y : A) → cond t (Some x) r ≡ Some y → ((t ≡ true) × (x ≡ y)) ⊎ ((t ≡ false) × (r ≡ Some y))
chosen true x r y e = inl (refl, cc)
chosen false x r y e = inr (refl, e)

only : {A : Type 0} (t : Bool) (x y : A) → cond t (Some x) None ≡ Some y → (t ≡ true) × (x ≡ y)
only t x y e = ⊎_elim (λ p. p) (λ p. absurd (none-some p.1)) (chosen t x None y e)

-- a verb's word is its name
named : (s : List ℕ) (u v : Verb) (r : Option Verb) → (r ≡ Some v → s ≡ name v) → cond (same s (name u)) (Some u) r ≡ Some v → s ≡ name v
named s u v r other e = go (same s (name u)) refl e
  where
    go : (t : Bool) → same s (name u) ≡ t → cond t (Some u) r ≡ Some v → s ≡ name v
    go true p q = let w : u ≡ v = cc in same-equal s (name u) p ∙ ap name w
    go false p q = other q

verb-back : (s : List ℕ) (v : Verb) → verb_of s ≡ Some v → s ≡ name v
unfolding verb_of
verb-back s v =
    named s Open v _
    (named s Feed v _
    (named s Draw v _
    (named s Check v _
    (named s Close v _
    (named s Sum v None (λ e. absurd (none-some e)))))))

number-back : (s : List ℕ) (n : ℕ) → number_of s ≡ Some n → (s ≡ decimal n) × (n ≤ most_number)
unfolding number_of is_number
number-back s n e = go (is_number s) refl e
  where
    go : (t : Bool) → is_number s ≡ t → cond t (Some (value_from 0 s)) None ≡ Some n → (s ≡ decimal n) × (n ≤ most_number)
    go true p q =
        let w : value_from 0 s ≡ n = cc in
        let r = and_right (plain_start s) (all_digits s && leb (value_from 0 s) most_number) p in
        let m = leb-true (value_from 0 s) most_number (and_right (all_digits s) (leb (value_from 0 s) most_number) r) in (
          sym (spelled_back s (and_left (plain_start s) (all_digits s && leb (value_from 0 s) most_number) p)
              (and_left (all_digits s) (leb (value_from 0 s) most_number) r) m) ∙ ap decimal w,
          omega (arith, m, w),
        )
    go false p q = absurd (none-some q)

-- ---- a field that is read was written so, and fits

hex-some : (s : List ℕ) → is_hex s ≡ true → 1 ≤ length s
unfolding is_hex
hex-some s e = leb-true _ _ (and_left (leb 1 (length s)) (leb (length s) (2 * most_bytes) && hex_pairs s) e)

dash-text : (s : List ℕ) → is_dash s ≡ true → s ≡ field_text (bytes [])
unfolding is_dash field_text bytes_text
dash-text s e = same-equal s (dash ∷ []) e

none-back : (s : List ℕ) (f : Field) → no_bytes_of s ≡ Some f → (s ≡ field_text f) × NoBytes f
unfolding no_bytes_of
none-back s f e =
    let p = only (is_dash s) (bytes []) f e in
    subst (λ (g : Field). (s ≡ field_text g) × NoBytes g) p.1 (dash-text s p.0, refl)

-- bytes as text: a dash where there are none, and digits where there are some
pub bytes-text-none : (s : List ℕ) → length s ≡ 0 → bytes_text s ≡ dash ∷ []
unfolding bytes_text
bytes-text-none [] e = refl
bytes-text-none (a ∷ s) e = absurd (omega arith)

pub bytes-text-some : (s : List ℕ) → (length s ≡ 0 → ⊥) → bytes_text s ≡ hex_of s
unfolding bytes_text
bytes-text-some [] h = absurd (h refl)
bytes-text-some (a ∷ s) h = refl

hex-back : (s : List ℕ) → is_hex s ≡ true → (s ≡ field_text (bytes (decoded s))) × SomeBytes (bytes (decoded s))
unfolding field_text
hex-back s e =
    let p = hex-pairs s e in
    let n = decoded-length s p in
    (sym (bytes-text-some (decoded s) (λ z. omega (arith, n, hex-some s e)) ∙ decoded-hex s p), (omega (arith, n, hex-short s e), decoded-bytes s p))

some_back : (s : List ℕ) (f : Field) → bytes_of s ≡ Some f → (s ≡ field_text f) × SomeBytes f
unfolding bytes_of AllBytes
some_back s f e =
    ⊎_elim
    (λ p. subst (λ (g : Field). (s ≡ field_text g) × SomeBytes g) p.1 (dash-text s p.0, (omega arith, tt)))
    (λ p. let q = only (is_hex s) (bytes (decoded s)) f p.1 in subst (λ (g : Field). (s ≡ field_text g) × SomeBytes g) q.1 (hex-back s q.0))
    (chosen (is_dash s) (bytes []) (cond (is_hex s) (Some (bytes (decoded s))) None) f e)

-- two bytes are the number that they spell
two_bytes : (bs : List ℕ) → length bs ≡ 2 → AllBytes bs → bs ≡ (get_or bs 0 0 * 256 + get_or bs 1 0) / 256 ∷ (get_or bs 0 0 * 256 + get_or bs 1 0) % 256 ∷ []
unfolding AllBytes
two_bytes [] e h = absurd (omega arith)
two_bytes (a ∷ []) e h = absurd (omega arith)
two_bytes (a ∷ b ∷ []) e h =
    let k = h.1.0 in
    let p : a ≡ (a * 256 + b) / 256 = omega arith in
    let q : b ≡ (a * 256 + b) % 256 = omega arith in
    λ i. p i ∷ q i ∷ []
two_bytes (a ∷ b ∷ c ∷ s) e h = absurd (omega arith)

count-back-text : (s : List ℕ) → is_count s ≡ true → (s ≡ field_text (count (count_value s))) × (count_value s ≤ most_count)
unfolding is_count field_text count_value
count-back-text s e =
    let r = and_right (eqb (length s) 4) (hex_pairs s && leb (count_value s) most_count) e in
    let n = eqb-true (length s) 4 (and_left (eqb (length s) 4) (hex_pairs s && leb (count_value s) most_count) e) in
    let p = and_left (hex_pairs s) (leb (count_value s) most_count) r in (
      sym (decoded-hex s p) ∙ ap hex_of (two_bytes (decoded s) (omega (arith, decoded-length s p, n)) (decoded-bytes s p)),
      leb-true (count_value s) most_count (and_right (hex_pairs s) (leb (count_value s) most_count) r),
    )

draw-back : (s : List ℕ) (f : Field) → count_of s ≡ Some f → (s ≡ field_text f) × ACount f
unfolding count_of
draw-back s f e =
    let p = only (is_count s) (count (count_value s)) f e in
    subst (λ (g : Field). (s ≡ field_text g) × ACount g) p.1 (count-back-text s p.0)

sum_back : (t : Bool) (n : ℕ) (s : List ℕ) (f : Field) → eqb n 0 ≡ t → cond t (no_bytes_of s) None ≡ Some f → (s ≡ field_text f) × (NoBytes f × (n ≡ 0))
sum_back true n s f p e = let q = none-back s f e in (q.0, (q.1, eqb-true n 0 p))
sum_back false n s f p e = absurd (none-some e)

field_back : (v : Verb) (n : ℕ) (s : List ℕ) (f : Field) → field_of v n s ≡ Some f → (s ≡ field_text f) × FieldFits v n f
unfolding field_of FieldFits
field_back Open n s f e = some_back s f e
field_back Feed n s f e = some_back s f e
field_back Draw n s f e = draw-back s f e
field_back Check n s f e = some_back s f e
field_back Close n s f e = none-back s f e
field_back Sum n s f e = sum_back (eqb n 0) n s f refl e

-- ---- the parts of a line

-- what is read has the three parts that were read
abbrev Parts : Option Verb → Option ℕ → List ℕ → Line → Type 0
Parts w m s l = (w ≡ Some l.verb) × (m ≡ Some l.number) × (field_of l.verb l.number s ≡ Some l.field)

parts : (w : Option Verb) (m : Option ℕ) (s : List ℕ) (l : Line) → option_and_then (λ v. option_and_then (λ n. with_field v n (field_of v n s)) m) w ≡ Some l → Parts w m s l
parts (Some v) (Some n) s l e = go (field_of v n s) refl e
  where
    go : (r : Option Field) → field_of v n s ≡ r → with_field v n r ≡ Some l → Parts (Some v) (Some n) s l
    go (Some f) p q =
        let w : record { verb = v; number = n; field = f } ≡ l = cc in
        subst (λ (k : Line). Parts (Some v) (Some n) s k) w (refl, refl, p)
    go None p q = absurd (none-some q)
parts (Some v) None s l e = absurd (none-some e)
parts None m s l e = absurd (none-some e)

-- a text is what stands before a byte, the byte, and what stands after it, where there is something after it
joined : (b : ℕ) (s : List ℕ) → 1 ≤ length (after b s) → s ≡ before b s ++ b ∷ after b s
unfolding before after
joined b [] h = absurd (omega arith)
joined b (a ∷ s) h = go (eqb a b) refl h (λ k. joined b s k)
  where
    go : (t : Bool) → eqb a b ≡ t → 1 ≤ length (cond t s (after b s)) → (1 ≤ length (after b s) → s ≡ before b s ++ b ∷ after b s)
        → a ∷ s ≡ cond t [] (a ∷ before b s) ++ b ∷ cond t s (after b s)
    go true p k ih = ap (λ (x : ℕ). x ∷ s) (eqb-true a b p)
    go false p k ih = ap (λ (r : List ℕ). a ∷ r) (ih k)

field-not-empty : (f : Field) → 1 ≤ length (field_text f)
unfolding field_text bytes_text hex_of
field-not-empty (bytes []) = omega arith
field-not-empty (bytes (b ∷ bs)) = omega arith
field-not-empty (count k) = omega arith

fields-printed : (s : List ℕ) (l : Line) → fields s ≡ Some l → (s ≡ render l) × Valid l
unfolding fields render
fields-printed s l e =
    let r : List ℕ = after space s in
    let p = parts (verb_of (before space s)) (number_of (before space r)) (after space r) l e in
    let v = verb-back (before space s) l.verb p.0 in
    let n = number-back (before space r) l.number p.1 in
    let f = field_back l.verb l.number (after space r) l.field p.2 in
    let j = joined space r (rw f.0 (field-not-empty l.field)) in
    let k = joined space s (omega (arith, ap length j, length-append (before space r) (space ∷ after space r))) in (
      k
          ∙ ap (λ (w : List ℕ). w ++ space ∷ r) v
          ∙ ap (λ (x : List ℕ). name l.verb ++ space ∷ x)
          (j ∙ ap (λ (w : List ℕ). w ++ space ∷ after space r) n.0 ∙ ap (λ (x : List ℕ). decimal l.number ++ space ∷ x) f.0),
      record { number = n.1; field = f.1 },
    )

-- ---- what is read was printed so

pub read-printed : (s : List ℕ) (l : Line) → parse s ≡ Some l → (s ≡ render l) × Valid l
unfolding parse
read-printed s l e = go (leb (length s) longest_line) e
  where
    go : (t : Bool) → cond t (fields s) None ≡ Some l → (s ≡ render l) × Valid l
    go true q = fields-printed s l q
    go false q = absurd (none-some q)

pub printed-lines : PrintedLines
printed-lines = record { back = printed-read; only = read-printed }
