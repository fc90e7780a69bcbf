-- Scripts and what they print, computed by the checker on the plain machine. The definitions of a script are used by the code and by the theorems alike: what is wrong in
-- them changes one of these.
-- Assumes nothing.
use mathlib.Core.Path.{◌≡◌, refl}
use mathlib.Core.Bool.{Bool, true, false}
use mathlib.Core.List.{[], ◌∷◌}
use Prim.Native.Char.{code}
use Prim.Native.String.{String}
use Rattle.mode.specs.Mode.{named}
use Rattle.sponge.specs.Sponge.{ceiling, start, one_shot, output as spongeOutput, squeeze_bytes, runs_feeding, runs_ended}
use Rattle.checks.specs.Buffers.{written}
use Rattle.checks.specs.Equality.{same}
use Rattle.calls.specs.Checks.{open_checks, ticket_checks, feed_own, feed_checks, draw_own, draw_checks, check_own, check_checks}
use Rattle.calls.specs.Answer.{Answer}
use Rattle.calls.specs.Call.{
  Call,
  Open as openCall,
  Feed as feedCall,
  Draw as drawCall,
  Check as checkCall,
  Close as closeCall,
  Sum as sumCall,
  events,
}
use Rattle.script.specs.declared.line.Verb.{Verb}
use Rattle.script.specs.declared.line.Verb.TheVariants.{Open, Feed, Draw, Check, Close, Sum}
use Rattle.calls.specs.Keyed.{find, total}
use Rattle.calls.specs.Machine.{
  empty_machine,
  formula,
  runs_of,
  output_of,
  new_entry,
  after_feed,
  after_draw,
  after_close,
  place_of,
  entry_of,
  standing_of,
  put,
  open_count,
  admit,
  open_machine,
  feed_machine,
  draw_machine,
  check_machine,
  close_machine,
  sum_machine,
  machine,
}
use Rattle.script.specs.Text.{text, before, after}
use Rattle.script.specs.Number.{is_digit, all_digits, plain_start, value_from, is_number, number_of, spelled, decimal}
use Rattle.script.specs.Hex.{nibble, digit_of, hex_pairs, decoded, hex_of, bytes_text}
use Rattle.script.specs.Line.{verb_of, is_dash, is_hex, bytes_of, no_bytes_of, count_value, is_count, count_of, field_of, fields, parse}
use Rattle.script.specs.Answer.{answer_line}
use Rattle.script.specs.Input.{lines}
use Rattle.interpreter.specs.Script.{call_of, word_for, number_for, bytes_for, answered, answers, call_line, malformed_line, meaning, script_from, script_of, printed_of, output}
use Rattle.interpreter.specs.Session.{begun, reader_of, holding, byte_step}

-- ---- one call

-- an accepted answer with another number in each field
abbrev accepting : Bool → Answer
accepting passed = record { refusal = 0; ticket = 7; runs = 5; passed = passed; sum = 9 }

-- and a refused one
abbrev refusing : Answer
refusing = record { refusal = 17; ticket = 7; runs = 5; passed = true; sum = 9 }

-- the line that is printed of an answer to this call, with the bytes 1 and 255 in the buffer
abbrev Shows : Verb → Answer → String → Type 0
Shows v a line = answered v a (1 ∷ 255 ∷ []) ≡ text line

pub shown_answers :
    Shows Open (accepting true) "ok 7 -\n" × Shows Feed (accepting true) "ok 5 -\n" × Shows Draw (accepting true) "ok 5 01ff\n"
    × Shows Check (accepting true) "pass 5 -\n" × Shows Check (accepting false) "fail 5 -\n"
    × Shows Close (accepting true) "ok 5 -\n" × Shows Sum (accepting true) "ok 9 -\n"
    × Shows Open refusing "no 17 -\n" × Shows Feed refusing "no 17 -\n" × Shows Draw refusing "no 17 -\n"
    × Shows Check refusing "no 17 -\n" × Shows Close refusing "no 17 -\n" × Shows Sum refusing "no 17 -\n"
unfolding answered word_for number_for bytes_for answer_line spelled decimal digit_of hex_of bytes_text
shown_answers = (refl, refl, refl, refl, refl, refl, refl, refl, refl, refl, refl, refl, refl)

-- this line, as line 2, means that call
abbrev Means : String → Call → Type 0
Means line c = meaning 2 (text line) ≡ call_line c

pub meant-calls :
    Means "open 3 0a" (openCall 3 (10 ∷ []) 0) × Means "open 2 0a0b08" (openCall 2 (10 ∷ 11 ∷ []) 8) × Means "open 2 10" (openCall 2 [] 16)
    × Means "open 2 -" (openCall 2 [] 0) × Means "feed 4 -" (feedCall 4 []) × Means "draw 5 0003" (drawCall 5 (0 ∷ 0 ∷ 0 ∷ []) 0 3)
    × Means "check 6 0bff" (checkCall 6 (11 ∷ 255 ∷ [])) × Means "close 7 -" (closeCall 7) × Means "sum 0 -" sumCall
unfolding meaning call_of parse fields field_of count_of is_count count_value no_bytes_of bytes_of is_hex is_dash verb_of same before after is_digit all_digits plain_start value_from is_number number_of nibble hex_pairs decoded
meant-calls = (refl, refl, refl, refl, refl, refl, refl, refl, refl)

-- the last allowed line, and one after it
pub last-lines : (meaning 1000000 (text "sum 0 -") ≡ call_line sumCall) × (meaning 1000001 (text "sum 0 -") ≡ malformed_line)
unfolding meaning call_of parse fields field_of no_bytes_of is_dash verb_of same before after is_digit all_digits plain_start value_from is_number number_of
last-lines = (refl, refl)

-- a line's 2,100th byte is taken, and its 2,101st stops the script
pub longest_line_lem :
    ((byte_step (reader_of (holding begun 2099) []) (code "x")).reader.session.going ≡ true)
    × ((byte_step (reader_of (holding begun 2100) []) (code "x")).reader.session.going ≡ false)
unfolding byte_step begun
longest_line_lem = (refl, refl)

-- ---- whole scripts

-- this script prints that
abbrev Prints : String → String → Type 0
Prints input printed = output machine empty_machine (text input) ≡ text printed

pub examples :
    -- document 01's
    Prints "call number bytes\nopen 3 -\nfeed 1 0102030405060708\ndraw 1 0000\nclose 1 -\nfeed 1 09\nsum 0 -\n"
    "answer number bytes\nok 1 -\nok 2 -\nok 3 -\nok 3 -\nno 12 -\nok 3 -\n"
    -- tickets are numbered, and their counts are their own
    × Prints "call number bytes\nopen 4 -\nopen 3 -\nfeed 2 00112233445566778899\nfeed 1 -\nsum 0 -\n"
    "answer number bytes\nok 1 -\nok 2 -\nok 2 -\nok 1 -\nok 3 -\n"
    -- the last newline may be missing
    × Prints "call number bytes\nopen 4 -\nsum 0 -" "answer number bytes\nok 1 -\nok 1 -\n"
    -- the names alone, with and without theirs
    × Prints "call number bytes\n" "answer number bytes\n"
    × Prints "call number bytes" "answer number bytes\n"
    -- no names, others, and too many of them
    × Prints "" "answer number bytes\nstop 1 -\n"
    × Prints "\n" "answer number bytes\nstop 1 -\n"
    × Prints "open 3 -\n" "answer number bytes\nstop 1 -\n"
    × Prints "call number bytes\ncall number bytes\n" "answer number bytes\nstop 2 -\n"
    -- nothing after a malformed line, an empty one among them, be it the last
    × Prints "call number bytes\nopen 3 -\nopen 03 -\nsum 0 -\n" "answer number bytes\nok 1 -\nstop 3 -\n"
    × Prints "call number bytes\nopen 3 -\n\nsum 0 -\n" "answer number bytes\nok 1 -\nstop 3 -\n"
    × Prints "call number bytes\nopen 3 -\n\n" "answer number bytes\nok 1 -\nstop 3 -\n"
    × Prints "call number bytes\nopen 3 -\nsum 0" "answer number bytes\nok 1 -\nstop 3 -\n"
    -- refused calls: a draw prints no bytes, and an open no ticket
    × Prints "call number bytes\ndraw 1 0002\nopen 0 -\nopen 1 00\nopen 3 -\ncheck 1 0011223344556677\nclose 2 -\ndraw 1 0021\n"
    "answer number bytes\nno 11 -\nno 1 -\nno 2 -\nok 1 -\nno 18 -\nno 11 -\nno 17 -\n"
    -- in mode 2 a tag length after the key, and in mode 1 none; what is drawn and checked has that length
    × Prints "call number bytes\nopen 2 -\nopen 2 10\nopen 2 00000000000000000000000000000000\nopen 2 0000000000000000000000000000000007\nopen 2 0000000000000000000000000000000011\nopen 2 0000000000000000000000000000000008\nopen 2 0000000000000000000000000000000010\nopen 1 00000000000000000000000000000000\nopen 1 0000000000000000000000000000000008\nopen 2 000000000000000000000000000000000008\nopen 4 08\nopen 5 08\nopen 6 08\ndraw 1 0009\ncheck 1 00000000000000000000000000000000\ncheck 2 0000000000000000\ndraw 2 0011\n"
    "answer number bytes\nno 2 -\nno 2 -\nno 2 -\nno 21 -\nno 21 -\nok 1 -\nok 2 -\nok 3 -\nno 2 -\nno 2 -\nno 2 -\nno 2 -\nno 2 -\nno 17 -\nno 4 -\nno 4 -\nno 17 -\n"
unfolding output printed_of script_of script_from meaning answers answered word_for number_for bytes_for call_of lines answer_line parse fields field_of count_of is_count count_value no_bytes_of bytes_of is_hex is_dash verb_of same before after is_digit all_digits plain_start value_from is_number number_of spelled decimal nibble digit_of hex_pairs decoded hex_of bytes_text events machine empty_machine open_machine open_checks named admit new_entry runs_of formula runs_feeding runs_ended ceiling start open_count total feed_machine draw_machine check_machine close_machine ticket_checks feed_checks feed_own draw_checks draw_own check_checks check_own standing_of entry_of place_of find after_feed after_draw after_close put sum_machine output_of written one_shot spongeOutput squeeze_bytes
examples = (refl, refl, refl, refl, refl, refl, refl, refl, refl, refl, refl, refl, refl, refl, refl)
