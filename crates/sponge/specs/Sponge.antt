-- The sponge as the papers have it: Algorithm 1 of "Ascon PRF, MAC, and Short-Input MAC" (source document 003) and, for hashing, Algorithm 1 of "Additional Modes
-- for Ascon" (source document 004) with no name and no customisation, of which the hashing steps of the slides "ASCON" (source document 001) are the case b = a. One
-- definition for every mode, over the row of its table. Their symbols stand in brackets: [p^a] has the outer rounds, twelve, as every run of 003 has; 004's [p^b] has
-- the row's inner rounds. A state is a list of five words, and read as bytes begins with the top byte of x0.
-- Assumes nothing.
use Rattle.std.specs.Prelude.{ℕ, zero, suc, ◌+◌, ◌-◌, ◌/◌, ◌%◌, max, Bool, cond, List, [], ◌∷◌, ◌++◌, length, take, drop, replicate}
use Rattle.word.specs.Bytes.{bytes_from, xor_word, xor_from, to_bytes, words_of, zeros_to}
use Rattle.permutation.specs.Permutation.{permute}
use Rattle.mode.specs.Mode.{outer_rounds, Row}

-- the quotient rounded up
unfoldable pub ceiling : ℕ → ℕ → ℕ
ceiling d r = (d + (r - 1)) / r

-- ---- initialization

-- the start word, the key, and zeros up to forty bytes [IV ∥ K ∥ 0*]. Of a key that is longer than the mode's the first
-- bytes count, and zeros follow a shorter one
unfoldable pub initial : Row → List ℕ → List ℕ
initial w key = words_of 5 (zeros_to 40 (to_bytes 8 w.start_word ++ take w.key_length key))

-- where feeding starts: a state, and the runs made by then
pub record Start : Type 0 where
  pub state : List ℕ
  pub runs : ℕ

-- one run of the initial state [p^a]
unfoldable pub start : Row → List ℕ → Start
start w key = record { state = permute outer_rounds (initial w key); runs = 1 }

-- ---- absorbing

-- the message, one byte hex 80, and the fewest zero bytes that fill a multiple of R [M ∥ 1 ∥ 0*]
unfoldable pub pad : ℕ → List ℕ → List ℕ
pad R m = m ++ 0x80 ∷ replicate (R - 1 - length m % R) 0

-- the first k blocks of R bytes
unfoldable pub cut : ℕ → ℕ → List ℕ → List (List ℕ)
cut zero R bs = []
cut (suc k) R bs = take R bs ∷ cut k R (drop R bs)

-- bytes cut into blocks of R [M_1 .. M_s]. Padded, a message fills the last one, so that nothing is left over
unfoldable pub blocks : ℕ → List ℕ → List (List ℕ)
blocks R bs = cut (length bs / R) R bs

-- the lowest bit of x4 flipped, where the mode does so
unfoldable pub flip_if : Bool → List ℕ → List ℕ
flip_if flips s = cond flips (xor_word 4 1 s) s

-- each block is xored into the first R state bytes and a run follows [p^b], after the last block one of the outer rounds [p^a]; the flip comes before that run, and
-- before no other. A padded message has a block at least, so that the first clause is never used
unfoldable pub absorb_blocks : Row → List (List ℕ) → List ℕ → List ℕ
absorb_blocks w [] s = s
absorb_blocks w (b ∷ []) s = permute outer_rounds (flip_if w.flips (xor_from 0 b s))
absorb_blocks w (b ∷ c ∷ bs) s = absorb_blocks w (c ∷ bs) (permute w.inner_rounds (xor_from 0 b s))

-- the state after a message
unfoldable pub absorb_message : Row → List ℕ → List ℕ → List ℕ
absorb_message w m s = absorb_blocks w (blocks w.feed_rate (pad w.feed_rate m)) s

-- ---- squeezing

-- the first r state bytes, a run [p^b], the next r, and so on: k blocks [T_1 ∥ .. ∥ T_k, H_1 ∥ .. ∥ H_k]
unfoldable pub squeeze_blocks : Row → ℕ → List ℕ → List ℕ
squeeze_blocks w zero s = []
squeeze_blocks w (suc k) s = bytes_from 0 w.draw_rate s ++ squeeze_blocks w k (permute w.inner_rounds s)

-- the first d bytes of ⌈d / r⌉ blocks
unfoldable pub squeeze_bytes : Row → ℕ → List ℕ → List ℕ
squeeze_bytes w d s = take d (squeeze_blocks w (ceiling d w.draw_rate) s)

-- ---- the function

-- d bytes of output for a message, feeding having started in s
unfoldable pub output : Row → List ℕ → List ℕ → ℕ → List ℕ
output w s m d = squeeze_bytes w d (absorb_message w m s)

-- document 01's one-shot output: d bytes of the mode's function of a message
unfoldable pub one_shot : Row → List ℕ → List ℕ → ℕ → List ℕ
one_shot w key m d = output w (start w key).state m d

-- ---- document 01's run counts, for n bytes fed and d drawn, with `before` runs made where feeding starts

-- while feeding lasts
unfoldable pub runs_feeding : Row → ℕ → ℕ → ℕ
runs_feeding w before n = before + n / w.feed_rate

-- once feeding has ended
unfoldable pub runs_ended : Row → ℕ → ℕ → ℕ → ℕ
runs_ended w before n d = n / w.feed_rate + before + max 1 (ceiling d w.draw_rate)
