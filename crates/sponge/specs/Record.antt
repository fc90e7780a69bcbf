-- What is done to a record, byte by byte: document 01's record of a ticket, a sponge that is not done yet. The row of its mode is a parameter of each step.
-- Counts and lengths are 64-bit numbers and wrap where `sum64` says so: nothing here limits how much is fed or drawn. A record from
-- which 2 ^ 64 bytes were drawn has the count of one from which none was, so that no run is made before its next byte.
-- Assumes nothing.
use Rattle.std.specs.Prelude.{ℕ, zero, suc, ◌+◌, ◌%◌, ◌^◌, Bool, true, false, cond, not, ◌&&◌, List, [], ◌∷◌, length, take, replicate, ◌==◌}
use Rattle.checks.specs.Equality.{same}
use Rattle.word.specs.Bytes.{byte_at, bytes_from, xor_at}
use Rattle.permutation.specs.Permutation.{permute}
use Rattle.mode.specs.declared.Mode.{Mode}
use Rattle.mode.specs.declared.Mode.TheVariants.{Prf}
use Rattle.sponge.specs.declared.record.Record.{Record}
use Rattle.mode.specs.Mode.{outer_rounds, Row, row}
use Rattle.sponge.specs.Sponge.{initial, flip_if}

-- a sum of 64 bits
unfoldable pub sum64 : ℕ → ℕ → ℕ
sum64 a b = (a + b) % 2 ^ 64

-- ---- a record with other fields

abbrev pub with_core : List ℕ → ℕ → Record → Record
with_core words runs r = record r { words = words; runs = runs }

abbrev pub with_fed : ℕ → Record → Record
with_fed fed r = record r { fed = fed }

abbrev pub with_drawn : ℕ → Record → Record
with_drawn drawn r = record r { drawn = drawn }

abbrev pub with_feeding : Bool → Record → Record
with_feeding feeding r = record r { feeding = feeding }

-- f of the words
unfoldable pub in_words : (List ℕ → List ℕ) → Record → Record
in_words f r = with_core (f r.words) r.runs r

-- a run of n rounds: the words after it, and the count one higher, whatever n is. Nothing else raises the count
unfoldable pub after_run : ℕ → Record → Record
after_run n r = with_core (permute n r.words) (sum64 r.runs 1) r

-- a run between two blocks, by the row's inner rounds, where one is due
unfoldable pub run_if : Row → Bool → Record → Record
run_if w due r = cond due (after_run w.inner_rounds r) r

-- ---- steps, over any row

-- byte number n of the message is fed: it goes to its place in the block, and a run follows where that fills the block
unfoldable pub feed_byte : Row → ℕ → ℕ → Record → Record
feed_byte w n b r = run_if w (suc (n % w.feed_rate) == w.feed_rate) (in_words (xor_at (n % w.feed_rate) b) r)

-- bytes number n, n + 1, .. are fed
unfoldable pub feed_bytes : Row → ℕ → List ℕ → Record → Record
feed_bytes w n [] r = r
feed_bytes w n (b ∷ bs) r = feed_bytes w (suc n) bs (feed_byte w n b r)

-- feeding ends after n bytes: hex 80 goes to the next place, the lowest bit of x4 is flipped where the mode does so, and a run of the outer rounds follows
unfoldable pub end_feeding : Row → ℕ → Record → Record
end_feeding w n r = with_feeding false (after_run outer_rounds (in_words (flip_if w.flips) (in_words (xor_at (n % w.feed_rate) 0x80) r)))

-- before output byte number d is drawn: a run where it is the first byte beyond a block
unfoldable pub ready : Row → ℕ → Record → Record
ready w d r = run_if w (not (d == 0) && d % w.draw_rate == 0) r

-- k output bytes from number d on, and the record after them
unfoldable pub drawn_bytes : Row → ℕ → ℕ → Record → List ℕ
drawn_bytes w d zero r = []
drawn_bytes w d (suc k) r = byte_at (ready w d r).words (d % w.draw_rate) ∷ drawn_bytes w (suc d) k (ready w d r)

unfoldable pub after_drawing : Row → ℕ → ℕ → Record → Record
after_drawing w d zero r = r
after_drawing w d (suc k) r = after_drawing w (suc d) k (ready w d r)

-- ---- what the calls make of a record, by the row of its mode

-- a place that no ticket has
unfoldable pub vacant : Record
vacant = record { words = replicate 5 0; runs = 0; ticket = 0; mode = Prf; fed = 0; drawn = 0; feeding = false }

-- a ticket's record as it is opened: the initial state, no run made; then one run of the outer rounds
unfoldable pub fresh : ℕ → Mode → List ℕ → Record
fresh ticket mode key =
    after_run outer_rounds (record { words = initial (row mode) key; runs = 0; ticket = ticket; mode = mode; fed = 0; drawn = 0; feeding = true })

-- bytes are fed
unfoldable pub absorbed : List ℕ → Record → Record
absorbed bs r = with_fed (sum64 r.fed (length bs)) (feed_bytes (row r.mode) r.fed bs r)

-- feeding ends, if it lasts
unfoldable pub finished : Record → Record
finished r = cond r.feeding (end_feeding (row r.mode) r.fed r) r

-- the next k output bytes, and the record after them
unfoldable pub next_bytes : ℕ → Record → List ℕ
next_bytes k r = drawn_bytes (row r.mode) r.drawn k r

unfoldable pub squeezed : ℕ → Record → Record
squeezed k r = with_drawn (sum64 r.drawn k) (after_drawing (row r.mode) r.drawn k r)

-- the block that is drawn from
unfoldable pub block : Record → List ℕ
block r = bytes_from 0 (row r.mode).draw_rate r.words

-- whether a tag is the whole tag of the mode: as many first bytes of the block as are drawn at most
unfoldable pub tag_matches : List ℕ → Record → Bool
tag_matches tag r = same tag (take (row r.mode).most_drawn (block r))
