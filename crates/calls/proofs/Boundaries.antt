-- The checks at their boundaries, computed by the checker on the plain machine. The hub and the plain machine answer by the same lists of checks; the answers
-- here are written out from document 01's "Tickets" and "Refused" and from the requests, so that another order, number or limit changes one of them.
-- Assumes nothing.
use mathlib.Core.Bool.{Bool, true, false}
use mathlib.Core.Path.{◌≡◌, refl}
use mathlib.Core.List.{List, [], ◌∷◌, ◌++◌, map}
use Prim.Native.Nat.{ℕ, ◌+◌, ◌/◌, max}
use lib.ListN.{replicate}
use Rattle.mode.specs.declared.Mode.{Mode}
use Rattle.mode.specs.declared.Mode.TheVariants.{Mac}
use Rattle.mode.specs.Mode.{row, named}
use Rattle.sponge.specs.Sponge.{ceiling, start, one_shot, runs_feeding, runs_ended}
use Rattle.calls.specs.Answer.{Answer, refused, opened, counted, judged, summed}
use Rattle.checks.specs.Equality.{same}
use Rattle.calls.specs.Checks.{open_checks, ticket_checks, feed_own, feed_checks, draw_own, draw_checks, check_own, check_checks}
use Rattle.calls.specs.Call.{Call, Open, Feed, Draw, Check, Close, Sum, Event, events}
use Rattle.calls.specs.Keyed.{find, total}
use Rattle.calls.specs.Law.{up_from}
use Rattle.calls.specs.Machine.{empty_machine, formula, runs_of, output_of, new_entry, after_feed, after_draw, after_close, after_check, place_of, entry_of, standing_of, put}
use Rattle.calls.specs.Machine.{open_count, admit, open_machine, feed_machine, draw_machine, check_machine, close_machine, sum_machine, machine}

-- a list of calls, each with an answer
abbrev Table : Type 0
Table = List (Call × Answer)

-- these are what the plain machine answers
abbrev Answered : Table → Type 0
Answered rows =
    map (λ (e : Event). e.response.answer) (events machine empty_machine (map (λ (r : Call × Answer). r.0) rows)) ≡ map (λ (r : Call × Answer). r.1) rows

-- n bytes
abbrev zeros : ℕ → List ℕ
zeros n = replicate n 0

-- document 01's script
abbrev script : Table
script =
    (Open 3 [] 0, opened 1 1) ∷ (Feed 1 (1 ∷ 2 ∷ 3 ∷ 4 ∷ 5 ∷ 6 ∷ 7 ∷ 8 ∷ []), counted 2) ∷ (Draw 1 [] 0 0, counted 3) ∷ (Close 1, counted 3)
    ∷ (Feed 1 (9 ∷ []), refused 12) ∷ (Sum, summed 3) ∷ []

abbrev opening : Table
opening =
    -- a number that names no mode, with any key and tag length
    (Open 0 [] 16, refused 1) ∷ (Open 0 (zeros 16) 0, refused 1) ∷ (Open 7 [] 7, refused 1) ∷ (Open 7 (zeros 16) 17, refused 1)
    -- a key of 16 bytes for modes 1 and 2; no tag length is wrong in mode 1
    ∷ (Open 1 [] 16, refused 2) ∷ (Open 1 (zeros 15) 16, refused 2) ∷ (Open 1 (zeros 17) 16, refused 2) ∷ (Open 1 (zeros 16) 7, opened 1 1)
    ∷ (Open 2 [] 16, refused 2) ∷ (Open 2 (zeros 15) 16, refused 2) ∷ (Open 2 (zeros 17) 16, refused 2)
    -- 2 before 21
    ∷ (Open 2 [] 0, refused 2) ∷ (Open 2 (zeros 15) 7, refused 2) ∷ (Open 2 (zeros 17) 17, refused 2)
    -- tags of 8 to 16 bytes for mode 2. 264 is 8 in its low byte
    ∷ (Open 2 (zeros 16) 0, refused 21) ∷ (Open 2 (zeros 16) 7, refused 21) ∷ (Open 2 (zeros 16) 17, refused 21) ∷ (Open 2 (zeros 16) 128, refused 21)
    ∷ (Open 2 (zeros 16) 264, refused 21) ∷ (Open 2 (zeros 16) 4294967295, refused 21)
    ∷ (Open 2 (zeros 16) 8, opened 2 1) ∷ (Open 2 (zeros 16) 16, opened 3 1)
    -- and no key for modes 3 to 6, whatever the tag length
    ∷ (Open 3 (zeros 1) 16, refused 2) ∷ (Open 3 (zeros 16) 16, refused 2) ∷ (Open 3 [] 0, opened 4 1)
    ∷ (Open 4 (zeros 1) 16, refused 2) ∷ (Open 4 (zeros 16) 16, refused 2) ∷ (Open 4 [] 7, opened 5 1)
    ∷ (Open 5 (zeros 1) 16, refused 2) ∷ (Open 5 (zeros 16) 16, refused 2) ∷ (Open 5 [] 17, opened 6 1)
    ∷ (Open 6 (zeros 1) 16, refused 2) ∷ (Open 6 (zeros 16) 16, refused 2) ∷ (Open 6 [] 4294967295, opened 7 1)
    -- up to sixteen
    ∷ (Open 3 [] 16, opened 8 1)
    ∷ (Open 4 [] 0, opened 9 1) ∷ (Open 4 [] 0, opened 10 1) ∷ (Open 4 [] 0, opened 11 1) ∷ (Open 4 [] 0, opened 12 1)
    ∷ (Open 3 [] 0, opened 13 1) ∷ (Open 3 [] 0, opened 14 1) ∷ (Open 3 [] 0, opened 15 1) ∷ (Open 3 [] 0, opened 16 1)
    -- no seventeenth; 1, 2 and 21 before 13
    ∷ (Open 1 (zeros 16) 0, refused 13) ∷ (Open 2 (zeros 16) 16, refused 13) ∷ (Open 3 [] 0, refused 13)
    ∷ (Open 7 [] 0, refused 1) ∷ (Open 1 [] 0, refused 2) ∷ (Open 3 (zeros 16) 0, refused 2) ∷ (Open 2 (zeros 16) 7, refused 21)
    -- a place serves again, a number does not
    ∷ (Close 5, counted 1) ∷ (Close 5, refused 12) ∷ (Open 4 [] 0, opened 17 1) ∷ (Open 4 [] 0, refused 13) ∷ (Close 5, refused 12) ∷ (Close 18, refused 11)
    ∷ (Close 17, counted 1) ∷ (Open 3 [] 0, opened 18 1) ∷ (Close 18, counted 1) ∷ (Close 18, refused 12) ∷ (Sum, summed 18) ∷ []

abbrev feeding : Table
feeding =
    -- no ticket is issued: 11 before every other number
    (Feed 0 [], refused 11) ∷ (Feed 1 [], refused 11) ∷ (Draw 1 [] 0 1, refused 11) ∷ (Check 1 [], refused 11) ∷ (Close 0, refused 11) ∷ (Close 1, refused 11)
    ∷ (Open 3 [] 0, opened 1 1) ∷ (Feed 0 [], refused 11) ∷ (Feed 2 [], refused 11)
    -- zero bytes are accepted while feeding lasts; a block of 8
    ∷ (Feed 1 [], counted 1) ∷ (Feed 1 (zeros 7), counted 1) ∷ (Feed 1 (zeros 1), counted 2) ∷ (Feed 1 [], counted 2)
    -- a draw of no bytes ends feeding
    ∷ (Draw 1 [] 0 0, counted 3) ∷ (Feed 1 [], refused 15) ∷ (Feed 1 (zeros 1), refused 15)
    -- a block of 32
    ∷ (Open 1 (zeros 16) 0, opened 2 1) ∷ (Feed 2 (zeros 31), counted 1) ∷ (Feed 2 (zeros 1), counted 2) ∷ (Feed 2 (zeros 32), counted 3)
    -- a refused draw or check does not end feeding
    ∷ (Draw 2 [] 0 1, refused 3) ∷ (Check 2 (zeros 16), refused 18) ∷ (Feed 2 [], counted 3)
    -- 12 before 15
    ∷ (Close 1, counted 3) ∷ (Feed 1 [], refused 12) ∷ (Close 1, refused 12) ∷ (Feed 2 [], counted 3) ∷ (Close 2, counted 3) ∷ (Feed 2 [], refused 12)
    ∷ (Feed 3 [], refused 11)
    -- a block of 8 in the lighter modes, whose run counts as one
    ∷ (Open 5 [] 0, opened 3 1) ∷ (Feed 3 (zeros 7), counted 1) ∷ (Feed 3 (zeros 9), counted 3)
    ∷ (Open 6 [] 0, opened 4 1) ∷ (Feed 4 (zeros 7), counted 1) ∷ (Feed 4 (zeros 9), counted 3) ∷ (Sum, summed 12) ∷ []

abbrev drawing : Table
drawing =
    (Open 3 [] 0, opened 1 1) ∷ (Open 2 (zeros 16) 16, opened 2 1) ∷ (Open 1 (zeros 16) 0, opened 3 1)
    -- 11 before 3
    ∷ (Draw 0 [] 0 1, refused 11) ∷ (Draw 4 [] 0 1, refused 11)
    -- place + count is the buffer's length, and more
    ∷ (Draw 1 (zeros 4) 2 3, refused 3) ∷ (Draw 1 (zeros 4) 3 2, refused 3) ∷ (Draw 1 (zeros 4) 5 0, refused 3)
    ∷ (Draw 1 (zeros 4) 18446744073709551615 2, refused 3)
    ∷ (Feed 1 [], counted 1) ∷ (Draw 1 (zeros 4) 4 0, counted 2) ∷ (Draw 1 (zeros 4) 2 2, counted 2)
    -- of a hash 32 bytes in all; 3 before 17
    ∷ (Draw 1 (zeros 40) 0 31, refused 17) ∷ (Draw 1 (zeros 40) 0 30, counted 5) ∷ (Draw 1 (zeros 40) 0 1, refused 17) ∷ (Draw 1 [] 0 0, counted 5)
    ∷ (Draw 1 [] 0 1, refused 3) ∷ (Open 3 [] 0, opened 4 1) ∷ (Draw 4 (zeros 33) 0 33, refused 17) ∷ (Draw 4 (zeros 33) 1 32, counted 5)
    ∷ (Open 5 [] 0, opened 5 1) ∷ (Draw 5 (zeros 33) 0 33, refused 17) ∷ (Draw 5 (zeros 33) 1 32, counted 5) ∷ (Draw 5 (zeros 1) 0 1, refused 17)
    -- of a MAC as many as its tag has; 31 bytes fed to it fill no block
    ∷ (Draw 2 (zeros 17) 0 17, refused 17) ∷ (Draw 2 (zeros 16) 0 17, refused 3) ∷ (Feed 2 (zeros 31), counted 1) ∷ (Draw 2 (zeros 17) 1 16, counted 2)
    ∷ (Draw 2 (zeros 1) 0 1, refused 17)
    ∷ (Open 2 (zeros 16) 8, opened 6 1) ∷ (Draw 6 (zeros 9) 0 9, refused 17) ∷ (Draw 6 (zeros 9) 1 8, counted 2) ∷ (Draw 6 (zeros 1) 0 1, refused 17)
    -- no run is made until a byte beyond the block is drawn
    ∷ (Draw 3 (zeros 16) 0 16, counted 2) ∷ (Draw 3 (zeros 1) 0 1, counted 3)
    ∷ (Open 6 [] 0, opened 7 1) ∷ (Draw 7 (zeros 8) 0 8, counted 2) ∷ (Draw 7 (zeros 26) 0 25, counted 6)
    -- 12 before 3 and 17
    ∷ (Close 1, counted 5) ∷ (Draw 1 [] 0 1, refused 12) ∷ (Draw 1 (zeros 1) 0 1, refused 12) ∷ (Sum, summed 28) ∷ []

-- whether a tag is the MAC of n zeros under the key of zeros, with tags of so many bytes: left as it is, no run is computed, and the answers hold for either
-- verdict
abbrev verdict : ℕ → ℕ → List ℕ → Bool
verdict tagLength n tag = same tag (one_shot (row (Mac tagLength)) (zeros 16) (zeros n) tagLength)

abbrev checking : Table
checking =
    (Open 2 (zeros 16) 16, opened 1 1) ∷ (Open 1 (zeros 16) 16, opened 2 1) ∷ (Open 3 [] 16, opened 3 1) ∷ (Open 4 [] 16, opened 4 1)
    ∷ (Open 5 [] 16, opened 5 1) ∷ (Open 6 [] 16, opened 6 1) ∷ (Open 2 (zeros 16) 8, opened 7 1)
    -- 11 before 18 and 4
    ∷ (Check 0 (zeros 7), refused 11) ∷ (Check 8 (zeros 7), refused 11)
    -- only of mode 2; 18 before 4
    ∷ (Check 2 (zeros 16), refused 18) ∷ (Check 3 (zeros 16), refused 18) ∷ (Check 4 (zeros 16), refused 18) ∷ (Check 2 (zeros 7), refused 18)
    ∷ (Check 3 (zeros 17), refused 18) ∷ (Check 5 (zeros 16), refused 18) ∷ (Check 6 (zeros 16), refused 18)
    -- a tag of the ticket's own length
    ∷ (Check 1 [], refused 4) ∷ (Check 1 (zeros 8), refused 4) ∷ (Check 1 (zeros 15), refused 4) ∷ (Check 1 (zeros 17), refused 4)
    ∷ (Check 7 [], refused 4) ∷ (Check 7 (zeros 7), refused 4) ∷ (Check 7 (zeros 9), refused 4) ∷ (Check 7 (zeros 16), refused 4)
    -- a refused check closes nothing and ends no feeding, and the sum stays; 32 bytes fed are a block
    ∷ (Feed 2 [], counted 1) ∷ (Feed 3 [], counted 1) ∷ (Feed 4 [], counted 1) ∷ (Feed 5 [], counted 1) ∷ (Feed 6 [], counted 1) ∷ (Sum, summed 7) ∷ (Feed 1 (zeros 31), counted 1) ∷ (Feed 1 (zeros 1), counted 2) ∷ (Feed 7 (zeros 32), counted 2) ∷ (Check 1 (zeros 7), refused 4)
    ∷ (Sum, summed 9)
    -- an accepted check makes the run that ends feeding, and its count and the sum have that run
    ∷ (Check 1 (zeros 16), judged (verdict 16 32 (zeros 16)) 3) ∷ (Sum, summed 10)
    -- and closes the ticket: 12 before every other number, and the sum stays
    ∷ (Check 1 (zeros 16), refused 12) ∷ (Check 1 (zeros 7), refused 12) ∷ (Close 1, refused 12) ∷ (Feed 1 [], refused 12) ∷ (Draw 1 (zeros 16) 0 16, refused 12)
    ∷ (Draw 1 [] 0 17, refused 12) ∷ (Sum, summed 10)
    -- after a draw it makes no further run; a second check is refused, and so is a close
    ∷ (Draw 7 (zeros 8) 0 5, counted 3) ∷ (Sum, summed 11) ∷ (Check 7 (zeros 9), refused 4) ∷ (Draw 7 (zeros 8) 0 3, counted 3)
    ∷ (Check 7 (zeros 8), judged (verdict 8 32 (zeros 8)) 3) ∷ (Sum, summed 11) ∷ (Check 7 (zeros 8), refused 12) ∷ (Close 7, refused 12) ∷ (Sum, summed 11)
    -- 12 before 18 and 4
    ∷ (Close 2, counted 1) ∷ (Check 2 (zeros 16), refused 12) ∷ (Check 2 (zeros 7), refused 12) ∷ (Sum, summed 11) ∷ []

-- sixteen tickets of mode 2, with tags of 8 bytes
abbrev sixteen_open : Table
sixteen_open = map (λ (t : ℕ). (Open 2 (zeros 16) 8, opened t 1)) (up_from 1 16)

abbrev replacing : Table
replacing =
    sixteen_open ++
    -- no seventeenth, neither after a refused check
    ((Open 2 (zeros 16) 8, refused 13) ∷ (Check 5 (zeros 7), refused 4) ∷ (Open 2 (zeros 16) 8, refused 13) ∷ (Sum, summed 16)
    -- a check makes room for one, and that one for the next
    ∷ (Check 5 (zeros 8), judged (verdict 8 0 (zeros 8)) 2) ∷ (Sum, summed 17) ∷ (Open 2 (zeros 16) 8, opened 17 1) ∷ (Open 3 [] 0, refused 13)
    ∷ (Check 5 (zeros 8), refused 12) ∷ (Close 5, refused 12) ∷ (Sum, summed 18)
    ∷ (Feed 17 (zeros 40), counted 2) ∷ (Check 17 (zeros 8), judged (verdict 8 40 (zeros 8)) 3) ∷ (Open 3 [] 0, opened 18 1) ∷ (Open 3 [] 0, refused 13)
    ∷ (Check 16 (zeros 8), judged (verdict 8 0 (zeros 8)) 2) ∷ (Check 1 (zeros 8), judged (verdict 8 0 (zeros 8)) 2)
    ∷ (Open 3 [] 0, opened 19 1) ∷ (Open 3 [] 0, opened 20 1) ∷ (Open 3 [] 0, refused 13) ∷ (Sum, summed 25) ∷ [])

pub boundaries : Answered script × Answered opening × Answered feeding × Answered drawing × Answered checking × Answered replacing
unfolding up_from events machine empty_machine open_machine open_checks named admit new_entry runs_of formula runs_feeding runs_ended ceiling start open_count total feed_machine draw_machine check_machine close_machine ticket_checks feed_checks feed_own draw_checks draw_own check_checks check_own standing_of entry_of place_of find after_feed after_draw after_close after_check put sum_machine output_of
boundaries = (refl, refl, refl, refl, refl, refl)

-- each answer, field by field: what is not said is 0
pub answers : (refused 5 ≡ record { refusal = 5; ticket = 0; runs = 0; passed = false; sum = 0 })
    × (opened 6 7 ≡ record { refusal = 0; ticket = 6; runs = 7; passed = false; sum = 0 })
    × (counted 8 ≡ record { refusal = 0; ticket = 0; runs = 8; passed = false; sum = 0 })
    × (judged true 9 ≡ record { refusal = 0; ticket = 0; runs = 9; passed = true; sum = 0 })
    × (summed 10 ≡ record { refusal = 0; ticket = 0; runs = 0; passed = false; sum = 10 })
answers = (refl, refl, refl, refl, refl)

-- for the reader: the formula, whatever the key: 1 + floor(n / R), and floor(n / R) + 1 + max(1, ceiling(d / r)) once feeding has ended
pub formula-is : (mode : Mode) (key : List ℕ) (n d : ℕ)
    → (formula mode key true n d ≡ 1 + n / (row mode).feed_rate)
    × (formula mode key false n d ≡ n / (row mode).feed_rate + 1 + max 1 (ceiling d (row mode).draw_rate))
unfolding formula runs_feeding runs_ended start
formula-is mode key n d = (refl, refl)
