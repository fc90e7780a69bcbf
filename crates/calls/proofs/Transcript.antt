-- One list of calls, and all that specs/Lists.antt reads off it, computed by the checker: refused calls, tickets by turns, draws inside their buffers.
-- Assumes nothing.
use Rattle.std.specs.Prelude.{Some}
use mathlib.Core.Bool.{true, false}
use mathlib.Core.Path.{◌≡◌, refl}
use mathlib.Core.List.{List, [], ◌∷◌, map}
use Prim.Native.Nat.{ℕ}
use Rattle.word.specs.Word.{bit, word, number, column, rotr}
use Rattle.word.specs.Bytes.{weight, byte_at, bytes_from, xor_word, xor_at, xor_from, from_bytes, to_bytes, words_of, zeros_to}
use Rattle.permutation.specs.Permutation.{sbox, add_constant, at_every_place, substitute, mix, diffuse, round, permute}
use Rattle.mode.specs.declared.Mode.TheVariants.{Mac, Hash}
use Rattle.mode.specs.Mode.{named}
use Rattle.sponge.specs.Sponge.{ceiling, initial, start, pad, cut, blocks, flip_if, absorb_blocks, absorb_message, squeeze_blocks, squeeze_bytes, output, one_shot, runs_feeding, runs_ended}
use Rattle.calls.specs.Answer.{refused, counted}
use Rattle.checks.specs.Buffers.{written}
use Rattle.calls.specs.Checks.{open_checks, ticket_checks, feed_own, feed_checks, draw_own, draw_checks, check_own, check_checks}
use Rattle.calls.specs.Call.{Call, Open, Feed, Draw, Check, Close, Sum, Event, events, final}
use Rattle.calls.specs.Keyed.{find, total}
use Rattle.calls.specs.Lists.{unissued, issued_by, issue_of, bytes_fed, bytes_drawn, feeding_lasts, last_runs, run_count, tickets, after_issue, naming, calls_of}
use Rattle.calls.specs.Machine.{empty_machine, formula, runs_of, output_of, new_entry, after_feed, after_draw, after_close, after_check, place_of, entry_of, standing_of, put}
use Rattle.calls.specs.Machine.{open_count, admit, open_machine, feed_machine, draw_machine, check_machine, close_machine, sum_machine, machine}

abbrev key : List ℕ
key = 0 ∷ 1 ∷ 2 ∷ 3 ∷ 4 ∷ 5 ∷ 6 ∷ 7 ∷ 8 ∷ 9 ∷ 10 ∷ 11 ∷ 12 ∷ 13 ∷ 14 ∷ 15 ∷ []

-- a tag of 8 bytes
abbrev guess : List ℕ
guess = 1 ∷ 2 ∷ 3 ∷ 4 ∷ 5 ∷ 6 ∷ 7 ∷ 8 ∷ []

abbrev calls : List Call
calls =
    Feed 1 (9 ∷ []) ∷ Open 7 [] 0 ∷ Open 3 [] 7 ∷ Sum ∷ Open 2 key 16
    ∷ Feed 1 (1 ∷ 2 ∷ 3 ∷ 4 ∷ 5 ∷ 6 ∷ 7 ∷ []) ∷ Draw 2 (0 ∷ []) 1 1 ∷ Feed 1 (8 ∷ 9 ∷ [])
    ∷ Draw 2 (7 ∷ 7 ∷ 7 ∷ 7 ∷ []) 1 2 ∷ Feed 2 [] ∷ Draw 2 (7 ∷ 7 ∷ []) 0 1 ∷ Close 1 ∷ Feed 1 (5 ∷ [])
    ∷ Open 2 key 17 ∷ Open 2 key 8 ∷ Check 3 (7 ∷ []) ∷ Check 3 guess ∷ Feed 3 (6 ∷ []) ∷ Check 3 guess ∷ Close 3 ∷ Sum ∷ []

abbrev list : List Event
list = events machine empty_machine calls

-- the tickets that were given
pub tickets-read : tickets list ≡ 1 ∷ 2 ∷ 3 ∷ []
unfolding tickets events machine empty_machine open_machine open_checks named admit new_entry runs_of formula runs_feeding runs_ended ceiling start open_count total feed_machine draw_machine check_machine close_machine ticket_checks feed_checks feed_own draw_checks draw_own check_checks check_own standing_of entry_of place_of find after_feed after_draw after_close after_check put sum_machine
tickets-read = refl

-- of each ticket: what its open named, the bytes fed, whether feeding lasts, the run count, the bytes drawn
pub ticket-read :
    (issue_of 0 list ≡ unissued) × (issue_of 1 list ≡ issued_by (Some Hash) []) × (issue_of 2 list ≡ issued_by (Some (Mac 16)) key)
    × (issue_of 3 list ≡ issued_by (Some (Mac 8)) key) × (issue_of 4 list ≡ unissued)
    × (bytes_fed 1 list ≡ 1 ∷ 2 ∷ 3 ∷ 4 ∷ 5 ∷ 6 ∷ 7 ∷ 8 ∷ 9 ∷ []) × (bytes_fed 2 list ≡ []) × (bytes_fed 3 list ≡ [])
    × (feeding_lasts 1 list ≡ true) × (feeding_lasts 2 list ≡ false) × (feeding_lasts 3 list ≡ false)
    × (run_count 1 list ≡ 2) × (run_count 2 list ≡ 2) × (run_count 3 list ≡ 2) × (run_count 4 list ≡ 0)
    × (bytes_drawn 1 list ≡ []) × (bytes_drawn 2 list ≡ 0xeb ∷ 0x1a ∷ 0xf6 ∷ []) × (bytes_drawn 3 list ≡ [])
unfolding issue_of bytes_fed bytes_drawn feeding_lasts last_runs run_count events machine empty_machine open_machine open_checks named admit new_entry runs_of formula runs_feeding runs_ended ceiling start open_count total feed_machine draw_machine check_machine close_machine ticket_checks feed_checks feed_own draw_checks draw_own check_checks check_own standing_of entry_of place_of find after_feed after_draw after_close after_check put sum_machine written output_of one_shot output squeeze_bytes squeeze_blocks absorb_message absorb_blocks flip_if blocks cut pad initial from_bytes to_bytes words_of zeros_to xor_from xor_at xor_word bytes_from byte_at weight permute round diffuse substitute at_every_place sbox add_constant mix rotr column number word bit
ticket-read = (refl, refl, refl, refl, refl, refl, refl, refl, refl, refl, refl, refl, refl, refl, refl, refl, refl, refl)

-- the calls that name a ticket once it is issued, refused ones included: ticket 3 is closed by its check
pub named-read : (calls_of (naming 1 (after_issue 1 list))
    ≡ Feed 1 (1 ∷ 2 ∷ 3 ∷ 4 ∷ 5 ∷ 6 ∷ 7 ∷ []) ∷ Feed 1 (8 ∷ 9 ∷ []) ∷ Close 1 ∷ Feed 1 (5 ∷ []) ∷ [])
    × (map (λ (e : Event). e.response.answer) (naming 1 (after_issue 1 list)) ≡ counted 1 ∷ counted 2 ∷ counted 2 ∷ refused 12 ∷ [])
    × (calls_of (naming 3 (after_issue 3 list)) ≡ Check 3 (7 ∷ []) ∷ Check 3 guess ∷ Feed 3 (6 ∷ []) ∷ Check 3 guess ∷ Close 3 ∷ [])
    × (map (λ (e : Event). e.response.answer.refusal) (naming 3 (after_issue 3 list)) ≡ 4 ∷ 0 ∷ 12 ∷ 12 ∷ 12 ∷ [])
unfolding naming after_issue calls_of events machine empty_machine open_machine open_checks named admit new_entry runs_of formula runs_feeding runs_ended ceiling start open_count total feed_machine draw_machine check_machine close_machine ticket_checks feed_checks feed_own draw_checks draw_own check_checks check_own standing_of entry_of place_of find after_feed after_draw after_close after_check put sum_machine
named-read = (refl, refl, refl, refl)

-- what the plain machine holds of a ticket after an accepted check: the entry is closed, feeding has ended, and nothing more is drawn
pub closed-read : (final machine empty_machine (Open 2 key 8 ∷ Feed 1 (5 ∷ []) ∷ Draw 1 (7 ∷ 7 ∷ 7 ∷ []) 0 3 ∷ Check 1 guess ∷ [])).entries
    ≡ record { number = 1; is_open = false; mode = Mac 8; key = key; fed = 5 ∷ []; feeding = false; drawn = 3 } ∷ []
unfolding final machine empty_machine open_machine open_checks named admit new_entry runs_of formula runs_feeding runs_ended ceiling start open_count total feed_machine draw_machine check_machine ticket_checks feed_checks feed_own draw_checks draw_own check_checks check_own standing_of entry_of place_of find after_feed after_draw after_close after_check put
closed-read = refl
