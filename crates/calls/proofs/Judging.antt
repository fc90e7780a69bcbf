-- Bytes and verdicts on the plain machine, which the checker computes: the MAC of no bytes under the key 00 01 .. 0f, drawn in parts, and checked with tags of
-- 16 and of 8 bytes; and where the output of each mode for no bytes begins, by the mode's number. They begin lines of crates/vectors/stdout.
-- Assumes nothing.
use mathlib.Core.Bool.{true, false}
use mathlib.Core.Path.{◌≡◌, refl, sym, ap, ◌∙◌}
use mathlib.Core.List.{List, [], ◌∷◌, map}
use Prim.Native.Nat.{ℕ}
use native.Mathlib.Omega.{arith}
use lib.ListN.{get_or, take}
use Rattle.word.specs.Word.{bit, word, number, column, rotr}
use Rattle.word.specs.Bytes.{weight, byte_at, bytes_from, xor_word, xor_at, xor_from, from_bytes, to_bytes, words_of, zeros_to}
use Rattle.permutation.specs.Permutation.{sbox, add_constant, at_every_place, substitute, mix, diffuse, round, permute}
use Rattle.mode.specs.declared.Mode.TheVariants.{Mac}
use Rattle.mode.specs.Mode.{row, named}
use Rattle.sponge.specs.Sponge.{ceiling, initial, start, pad, cut, blocks, flip_if, absorb_blocks, absorb_message, squeeze_blocks, squeeze_bytes, output, one_shot, runs_feeding, runs_ended}
use Rattle.calls.specs.Answer.{refused, opened, judged, summed}
use Rattle.checks.specs.Buffers.{written}
use Rattle.checks.specs.Equality.{same}
use Rattle.checks.proofs.Equality.{equal-same, other-same}
use Rattle.calls.specs.Checks.{open_checks, ticket_checks, draw_own, draw_checks, check_own, check_checks}
use Rattle.calls.specs.Call.{Open, Draw, Check, Close, Sum, Event, events}
use Rattle.calls.specs.Keyed.{find, total}
use Rattle.calls.specs.Machine.{empty_machine, formula, runs_of, output_of, new_entry, after_draw, after_close, after_check, place_of, entry_of, standing_of, put}
use Rattle.calls.specs.Machine.{open_count, admit, open_machine, draw_machine, check_machine, close_machine, sum_machine, machine}

abbrev key : List ℕ
key = 0 ∷ 1 ∷ 2 ∷ 3 ∷ 4 ∷ 5 ∷ 6 ∷ 7 ∷ 8 ∷ 9 ∷ 10 ∷ 11 ∷ 12 ∷ 13 ∷ 14 ∷ 15 ∷ []

abbrev tag : List ℕ
tag = 0xeb ∷ 0x1a ∷ 0xf6 ∷ 0x88 ∷ 0x82 ∷ 0x5d ∷ 0x66 ∷ 0xbf ∷ 0x2d ∷ 0x53 ∷ 0xe1 ∷ 0x35 ∷ 0xf9 ∷ 0x32 ∷ 0x33 ∷ 0x15 ∷ []

-- the tag with another last byte
abbrev other : List ℕ
other = 0xeb ∷ 0x1a ∷ 0xf6 ∷ 0x88 ∷ 0x82 ∷ 0x5d ∷ 0x66 ∷ 0xbf ∷ 0x2d ∷ 0x53 ∷ 0xe1 ∷ 0x35 ∷ 0xf9 ∷ 0x32 ∷ 0x33 ∷ 0x14 ∷ []

-- the tag of 8 bytes, which is not the first 8 of the other
abbrev shorter : List ℕ
shorter = 0x3d ∷ 0xc0 ∷ 0x64 ∷ 0x87 ∷ 0x1d ∷ 0x40 ∷ 0x64 ∷ 0xa2 ∷ []

macs : (one_shot (row (Mac 16)) key [] 16 ≡ tag) × (one_shot (row (Mac 8)) key [] 8 ≡ shorter)
unfolding one_shot output squeeze_bytes squeeze_blocks absorb_message absorb_blocks flip_if blocks cut pad start initial from_bytes to_bytes words_of zeros_to ceiling xor_from xor_at xor_word bytes_from byte_at weight permute round diffuse substitute at_every_place sbox add_constant mix rotr column number word bit
macs = (refl, refl)

-- under tags of 16 bytes a check passes for the tag, and its first 8 bytes are none; under tags of 8 bytes it passes for the shorter tag, and not for those 8.
-- One that fails closes its ticket as one that passes does, and a ticket that is opened then is judged anew
pub judging : map (λ (e : Event). e.response.answer)
    (events machine empty_machine
    (Open 2 key 16 ∷ Open 2 key 16 ∷ Open 2 key 8 ∷ Open 2 key 8
    ∷ Check 1 (take 8 tag) ∷ Check 1 tag ∷ Check 1 tag ∷ Check 2 other ∷ Check 2 tag ∷ Close 2
    ∷ Check 3 tag ∷ Check 3 shorter ∷ Check 3 shorter ∷ Check 4 (take 8 tag) ∷ Check 4 shorter ∷ Open 2 key 16 ∷ Check 5 tag ∷ Sum ∷ []))
    ≡ opened 1 1 ∷ opened 2 1 ∷ opened 3 1 ∷ opened 4 1
    ∷ refused 4 ∷ judged true 2 ∷ refused 12 ∷ judged false 2 ∷ refused 12 ∷ refused 12
    ∷ refused 4 ∷ judged true 2 ∷ refused 12 ∷ judged false 2 ∷ refused 12 ∷ opened 5 1 ∷ judged true 2 ∷ summed 10 ∷ []
unfolding events machine empty_machine open_machine open_checks named admit new_entry runs_of formula runs_feeding runs_ended ceiling start open_count total check_machine close_machine sum_machine ticket_checks check_checks check_own standing_of entry_of place_of find after_draw after_close after_check put output_of
judging =
    λ i. opened 1 1 ∷ opened 2 1 ∷ opened 3 1 ∷ opened 4 1
    ∷ refused 4 ∷ judged (right i) 2 ∷ refused 12 ∷ judged (wrong i) 2 ∷ refused 12 ∷ refused 12
    ∷ refused 4 ∷ judged (short i) 2 ∷ refused 12 ∷ judged (beginning i) 2 ∷ refused 12 ∷ opened 5 1 ∷ judged (right i) 2 ∷ summed 10 ∷ []
  where
    right : same tag (one_shot (row (Mac 16)) key [] 16) ≡ true
    right = equal-same tag _ (sym macs.0)

    wrong : same other (one_shot (row (Mac 16)) key [] 16) ≡ false
    wrong = other-same other _ (λ e. absurd (omega (arith, ap (λ (l : List ℕ). get_or l 15 0) (e ∙ macs.0))))

    short : same shorter (one_shot (row (Mac 8)) key [] 8) ≡ true
    short = equal-same shorter _ (sym macs.1)

    beginning : same (take 8 tag) (one_shot (row (Mac 8)) key [] 8) ≡ false
    beginning = other-same (take 8 tag) _ (λ e. absurd (omega (arith, ap (λ (l : List ℕ). get_or l 0 0) (e ∙ macs.1))))

-- a draw writes from place on the bytes that come next, and keeps the buffer's others; a refused one writes nothing
pub drawn-bytes : map (λ (e : Event). e.response.buffer)
    (events machine empty_machine (Open 2 key 16 ∷ Draw 1 (1 ∷ 2 ∷ 3 ∷ 4 ∷ 5 ∷ []) 1 3 ∷ Draw 1 (1 ∷ 2 ∷ 3 ∷ []) 2 2 ∷ Draw 1 (1 ∷ 2 ∷ 3 ∷ []) 0 2 ∷ []))
    ≡ [] ∷ (1 ∷ 0xeb ∷ 0x1a ∷ 0xf6 ∷ 5 ∷ []) ∷ (1 ∷ 2 ∷ 3 ∷ []) ∷ (0x88 ∷ 0x82 ∷ 3 ∷ []) ∷ []
unfolding events machine empty_machine open_machine open_checks named admit new_entry open_count total draw_machine ticket_checks draw_checks draw_own standing_of entry_of place_of find after_draw put written output_of one_shot output squeeze_bytes squeeze_blocks absorb_message absorb_blocks flip_if blocks cut pad start initial from_bytes to_bytes words_of zeros_to ceiling xor_from xor_at xor_word bytes_from byte_at weight permute round diffuse substitute at_every_place sbox add_constant mix rotr column number word bit
drawn-bytes = refl

-- each number opens its mode
pub numbered_outputs : map (λ (e : Event). e.response.buffer)
    (events machine empty_machine
    (Open 1 key 16 ∷ Open 2 key 16 ∷ Open 3 [] 16 ∷ Open 4 [] 16 ∷ Open 5 [] 16 ∷ Open 6 [] 16
    ∷ Draw 1 (0 ∷ 0 ∷ []) 0 2 ∷ Draw 2 (0 ∷ 0 ∷ []) 0 2 ∷ Draw 3 (0 ∷ 0 ∷ []) 0 2 ∷ Draw 4 (0 ∷ 0 ∷ []) 0 2 ∷ Draw 5 (0 ∷ 0 ∷ []) 0 2 ∷ Draw 6 (0 ∷ 0 ∷ []) 0 2 ∷ []))
    ≡ [] ∷ [] ∷ [] ∷ [] ∷ [] ∷ []
    ∷ (0x2a ∷ 0x76 ∷ []) ∷ (0xeb ∷ 0x1a ∷ []) ∷ (0x73 ∷ 0x46 ∷ []) ∷ (0x5d ∷ 0x4c ∷ []) ∷ (0xae ∷ 0xcd ∷ []) ∷ (0x7c ∷ 0x10 ∷ []) ∷ []
unfolding events machine empty_machine open_machine open_checks named admit new_entry open_count total draw_machine ticket_checks draw_checks draw_own standing_of entry_of place_of find after_draw put written output_of one_shot output squeeze_bytes squeeze_blocks absorb_message absorb_blocks flip_if blocks cut pad start initial from_bytes to_bytes words_of zeros_to ceiling xor_from xor_at xor_word bytes_from byte_at weight permute round diffuse substitute at_every_place sbox add_constant mix rotr column number word bit
numbered_outputs = refl
