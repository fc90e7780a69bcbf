-- A script line: what it may say, how it is written, and how it is read. Document 01's "Script program".
-- Assumes nothing.
use Rattle.std.specs.Prelude.{◌≡◌, Bool, cond, ◌&&◌, List, [], ◌∷◌, ◌++◌, ℕ, ◌+◌, ◌*◌, ◌/◌, ◌%◌, ◌≤◌, ◌<◌, eqb, leb, length, get_or, Option, Some, None, option_map, option_and_then}
use Rattle.checks.specs.Equality.{same}
use Rattle.script.specs.declared.line.Verb.{Verb}
use Rattle.script.specs.declared.line.Verb.TheVariants.{Open, Feed, Draw, Check, Close, Sum}
use Rattle.script.specs.Text.{text, space, dash, before, after}
use Rattle.script.specs.Number.{most_number, number_of, decimal}
use Rattle.script.specs.Hex.{hex_pairs, decoded, hex_of, bytes_text}

-- ---- limits

-- a line has at most so many bytes without its newline. No line that may be said is so long: the longest has 2,065
abbrev pub longest_line : ℕ
longest_line = 2100

-- a field has at most so many bytes
abbrev pub most_bytes : ℕ
most_bytes = 1024

-- and a draw at most this count
abbrev pub most_count : ℕ
most_count = 0x400

-- ---- what a line says

-- the third field: bytes, none of them for close and sum; or a draw's count
pub data Field : Type 0 where
  bytes : List ℕ → Field
  count : ℕ → Field

-- the call, a number, which is the mode for open, 0 for sum and else the ticket, and the third field
pub record Line : Type 0 where
  pub verb : Verb
  pub number : ℕ
  pub field : Field

unfoldable pub AllBytes : List ℕ → Type 0
AllBytes [] = Unit {0}
AllBytes (b ∷ bs) = (b < 256) × AllBytes bs

abbrev pub SomeBytes : Field → Type 0
SomeBytes (bytes bs) = (length bs ≤ most_bytes) × AllBytes bs
SomeBytes (count k) = ⊥

abbrev pub NoBytes : Field → Type 0
NoBytes (bytes bs) = bs ≡ []
NoBytes (count k) = ⊥

abbrev pub ACount : Field → Type 0
ACount (bytes bs) = ⊥
ACount (count k) = k ≤ most_count

unfoldable pub FieldFits : Verb → ℕ → Field → Type 0
FieldFits Open n f = SomeBytes f
FieldFits Feed n f = SomeBytes f
FieldFits Draw n f = ACount f
FieldFits Check n f = SomeBytes f
FieldFits Close n f = NoBytes f
FieldFits Sum n f = NoBytes f × (n ≡ 0)

-- what a line may say
pub record Valid (l : Line) : Type 0 where
  pub number : l.number ≤ most_number
  pub field : FieldFits l.verb l.number l.field

-- ---- how it is written

abbrev pub name : Verb → List ℕ
name Open = text "open"
name Feed = text "feed"
name Draw = text "draw"
name Check = text "check"
name Close = text "close"
name Sum = text "sum"

-- a count is four digits: two bytes, the high one first
unfoldable pub field_text : Field → List ℕ
field_text (bytes bs) = bytes_text bs
field_text (count k) = hex_of (k / 256 ∷ k % 256 ∷ [])

-- three fields, split by one space
unfoldable pub render : Line → List ℕ
render l = name l.verb ++ space ∷ (decimal l.number ++ space ∷ field_text l.field)

-- ---- how it is read

unfoldable pub verb_of : List ℕ → Option Verb
verb_of s =
    cond (same s (name Open)) (Some Open)
    (cond (same s (name Feed)) (Some Feed)
    (cond (same s (name Draw)) (Some Draw)
    (cond (same s (name Check)) (Some Check)
    (cond (same s (name Close)) (Some Close)
    (cond (same s (name Sum)) (Some Sum) None)))))

unfoldable pub is_dash : List ℕ → Bool
is_dash s = same s (dash ∷ [])

-- some pairs of digits, for at most as many bytes as a field may have
unfoldable pub is_hex : List ℕ → Bool
is_hex s = leb 1 (length s) && (leb (length s) (2 * most_bytes) && hex_pairs s)

unfoldable pub bytes_of : List ℕ → Option Field
bytes_of s = cond (is_dash s) (Some (bytes [])) (cond (is_hex s) (Some (bytes (decoded s))) None)

unfoldable pub no_bytes_of : List ℕ → Option Field
no_bytes_of s = cond (is_dash s) (Some (bytes [])) None

-- the number that four digits spell
unfoldable pub count_value : List ℕ → ℕ
count_value s = get_or (decoded s) 0 0 * 256 + get_or (decoded s) 1 0

unfoldable pub is_count : List ℕ → Bool
is_count s = eqb (length s) 4 && (hex_pairs s && leb (count_value s) most_count)

unfoldable pub count_of : List ℕ → Option Field
count_of s = cond (is_count s) (Some (count (count_value s))) None

unfoldable pub field_of : Verb → ℕ → List ℕ → Option Field
field_of Open n s = bytes_of s
field_of Feed n s = bytes_of s
field_of Draw n s = count_of s
field_of Check n s = bytes_of s
field_of Close n s = no_bytes_of s
field_of Sum n s = cond (eqb n 0) (no_bytes_of s) None

abbrev pub with_field : Verb → ℕ → Option Field → Option Line
with_field v n field = option_map (λ f. record { verb = v; number = n; field = f }) field

-- the fields are what stands before the first space, between it and the second, and after that. A missing space leaves an empty field, and none of the three may be
-- empty; a third space stands in the third field, which has none
unfoldable pub fields : List ℕ → Option Line
fields s =
    option_and_then
    (λ v. option_and_then (λ n. with_field v n (field_of v n (after space (after space s)))) (number_of (before space (after space s))))
    (verb_of (before space s))

unfoldable pub parse : List ℕ → Option Line
parse s = cond (leb (length s) longest_line) (fields s) None
