-- Computed: lines that are well-formed and lines that are not, answers, and texts cut into lines. They guard the definitions.
-- Assumes nothing.
use mathlib.Core.Path.{◌≡◌, refl}
use mathlib.Core.Bool.{true, false}
use mathlib.Core.List.{[], ◌∷◌, ◌++◌}
use lib.ListN.{replicate}
use Rattle.checks.specs.Equality.{same}
use Rattle.script.specs.declared.line.Verb.TheVariants.{Open, Feed, Draw, Check, Close, Sum}
use Rattle.script.specs.declared.answer.Word.TheVariants.{Ok, Pass, Fail, No, Stop}
use Rattle.script.specs.Text.{text, before, after}
use Rattle.std.specs.Prelude.{Some, None}
use Rattle.script.specs.Number.{is_digit, all_digits, plain_start, value_from, is_number, number_of, spelled, decimal}
use Rattle.script.specs.Hex.{nibble, digit_of, hex_pairs, decoded, hex_of, bytes_text}
use Rattle.script.specs.Line.{bytes, count, verb_of, is_dash, is_hex, bytes_of, no_bytes_of, count_value, is_count, count_of, field_of, fields, parse}
use Rattle.script.specs.Answer.{answer_line}
use Rattle.script.specs.Input.{lines, piece}

pub well_formed :
    (parse (text "feed 1 0a1f") ≡ Some (record { verb = Feed; number = 1; field = bytes (0x0a ∷ 0x1f ∷ []) }))
    × (parse (text "open 0 -") ≡ Some (record { verb = Open; number = 0; field = bytes [] }))
    × (parse (text "check 12 00ff") ≡ Some (record { verb = Check; number = 12; field = bytes (0 ∷ 255 ∷ []) }))
    × (parse (text "close 3 -") ≡ Some (record { verb = Close; number = 3; field = bytes [] }))
    × (parse (text "sum 0 -") ≡ Some (record { verb = Sum; number = 0; field = bytes [] }))
    × (parse (text "draw 7 0400") ≡ Some (record { verb = Draw; number = 7; field = count 1024 }))
    × (parse (text "close 4294967295 -") ≡ Some (record { verb = Close; number = 4294967295; field = bytes [] }))
unfolding parse fields field_of count_of is_count count_value no_bytes_of bytes_of is_hex is_dash verb_of same before after is_digit all_digits plain_start value_from is_number number_of nibble hex_pairs decoded
well_formed = (refl, refl, refl, refl, refl, refl, refl)

pub ill_formed :
    -- past a limit
    (parse (text "draw 7 0401") ≡ None)
    × (parse (text "close 4294967296 -") ≡ None)
    -- a leading zero, an upper-case digit, a byte just before and just after the digits, half a pair
    × (parse (text "feed 01 09") ≡ None)
    × (parse (text "feed 1 0A") ≡ None)
    × (parse (text "feed 1 0/") ≡ None)
    × (parse (text "feed 1 0g") ≡ None)
    × (parse (text "feed 1 0a1") ≡ None)
    -- a field too few, one too many, an empty one
    × (parse (text "feed 1") ≡ None)
    × (parse (text "feed 1 09 -") ≡ None)
    × (parse (text "feed 1  09") ≡ None)
    × (parse (text "feed 1 09 ") ≡ None)
    × (parse (text " feed 1 09") ≡ None)
    × (parse (text "") ≡ None)
    -- what a call does not take
    × (parse (text "sum 1 -") ≡ None)
    × (parse (text "close 3 00") ≡ None)
    × (parse (text "draw 7 -") ≡ None)
    × (parse (text "draw 7 04") ≡ None)
    × (parse (text "Feed 1 09") ≡ None)
    -- a carriage return, a tab for a space, a byte that is no character
    × (parse (text "sum 0 -" ++ (0x0d ∷ [])) ≡ None)
    × (parse (text "sum" ++ (0x09 ∷ text "0 -")) ≡ None)
    × (parse (text "feed 1 0" ++ (0xe1 ∷ [])) ≡ None)
unfolding parse fields field_of count_of is_count count_value no_bytes_of bytes_of is_hex is_dash verb_of same before after is_digit all_digits plain_start value_from is_number number_of nibble hex_pairs decoded
ill_formed = (refl, refl, refl, refl, refl, refl, refl, refl, refl, refl, refl, refl, refl, refl, refl, refl, refl, refl, refl, refl, refl)

pub answers :
    (answer_line No 12 [] ≡ text "no 12 -\n")
    × (answer_line Pass 2 [] ≡ text "pass 2 -\n")
    × (answer_line Fail 0 [] ≡ text "fail 0 -\n")
    × (answer_line Stop 1000001 [] ≡ text "stop 1000001 -\n")
    × (answer_line Ok 18446744073709551615 (0x00 ∷ 0xff ∷ []) ≡ text "ok 18446744073709551615 00ff\n")
unfolding answer_line spelled decimal digit_of hex_of bytes_text
answers = (refl, refl, refl, refl, refl)

-- 1,024 bytes are as many as a field may have
pub most_bytes : (is_hex (replicate 2048 0x30) ≡ true) × (is_hex (replicate 2050 0x30) ≡ false)
unfolding is_hex hex_pairs nibble
most_bytes = (refl, refl)

pub cut :
    (lines (text "") ≡ [])
    × (lines (text "sum 0 -\n\nsum") ≡ text "sum 0 -" ∷ [] ∷ text "sum" ∷ [])
    × (lines (text "sum 0 -\n") ≡ text "sum 0 -" ∷ [])
    × (piece (text "0 -\nopen") 9 ≡ text "0 -")
    × (piece (text "0 -\nopen") 2 ≡ text "0 ")
    × (piece (text "open") 9 ≡ text "open")
    × (piece [] 9 ≡ [])
unfolding lines piece before
cut = (refl, refl, refl, refl, refl, refl, refl)
