-- What holds of every row of the table of modes, and the modes that numbers name. Proofs of the crates above cite these laws and do not go mode by mode;
-- calls/proofs/Refusals.antt alone does, to have the limits once more as literals.
-- Assumes nothing.
use Rattle.std.specs.Prelude.{Option, Some, None}
use mathlib.Core.Bool.{Bool, true, false, cond}
use mathlib.Core.Logic.{◌≢◌}
use mathlib.Core.Path.{◌≡◌, refl, sym, ap, ◌∙◌}
use Prim.Native.Nat.{ℕ, zero, suc, ◌%◌, ◌^◌, ◌≤◌, ◌<◌}
use native.Mathlib.Omega.{arith}
use native.Mathlib.Decide.{dec_lt, ℕ_discrete}
use borrow.Author.Tests.{ne_eqb, lt-leb}
use lib.Dec.{leb}
use Rattle.mode.specs.declared.Mode.{Mode}
use Rattle.mode.specs.declared.Mode.TheVariants.{Prf, Mac, Hash, Xof, HashA, XofA}
use Rattle.mode.specs.Mode.{outer_rounds, Row, row, number_of, named, number_named, mode_number}

-- ---- rows

pub record Rates (w : Row) : Type 0 where
  -- no rate is 0
  pub feeds : 0 < w.feed_rate
  pub draws : 0 < w.draw_rate
  -- a block has a word at least, so that no count of blocks passes 64 bits
  pub feeds-word : 8 ≤ w.feed_rate
  pub draws-word : 8 ≤ w.draw_rate
  -- a block lies in the forty bytes of the state
  pub feeds-inside : w.feed_rate ≤ 40
  pub draws-inside : w.draw_rate ≤ 40
  -- the feed rate divides 2 ^ 64, so that a length that wraps leaves each place in a block right
  pub wraps : (n : ℕ) → n % 2 ^ 64 % w.feed_rate ≡ n % w.feed_rate

pub rates : (mode : Mode) → Rates (row mode)
rates Prf = omega arith
rates (Mac length) = omega arith
rates Hash = omega arith
rates Xof = omega arith
rates HashA = omega arith
rates XofA = omega arith

pub record Limits (mode : Mode) : Type 0 where
  -- a key fits into the two words behind the start word
  pub key : (row mode).key_length ≤ 16
  -- the most that any mode draws, where mode 2 has a tag of at most 16 bytes
  pub drawn : (number_of mode ≡ 2 → (row mode).most_drawn ≤ 16) → (row mode).most_drawn ≤ 1048576
  -- no run has more rounds than the first: a row says how many are made, and 13 would be 12
  pub rounds : (row mode).inner_rounds ≤ outer_rounds

pub limits : (mode : Mode) → Limits mode
limits Prf = record { key = omega arith; drawn = λ _. omega arith; rounds = omega arith }
limits (Mac length) = record { key = omega arith; drawn = λ short. omega (arith, short refl); rounds = omega arith }
limits Hash = record { key = omega arith; drawn = λ _. omega arith; rounds = omega arith }
limits Xof = record { key = omega arith; drawn = λ _. omega arith; rounds = omega arith }
limits HashA = record { key = omega arith; drawn = λ _. omega arith; rounds = omega arith }
limits XofA = record { key = omega arith; drawn = λ _. omega arith; rounds = omega arith }

-- ---- numbers of modes

-- the number of a mode, with its tag length, names it
pub named-number : (mode : Mode) → named (number_of mode) (row mode).most_drawn ≡ Some mode
unfolding named
named-number Prf = refl
named-number (Mac length) = refl
named-number Hash = refl
named-number Xof = refl
named-number HashA = refl
named-number XofA = refl

-- what an answer names, if it names a mode
abbrev mode_or : Mode → Option Mode → Mode
mode_or other (Some mode) = mode
mode_or other None = other

-- a mode of number 2 is the MAC, with tags as long as all that it draws
pub is-mac : (mode : Mode) → number_of mode ≡ 2 → mode ≡ Mac (row mode).most_drawn
unfolding named
is-mac mode h = ap (mode_or mode) (sym (named-number mode) ∙ ap (λ (n : ℕ). named n (row mode).most_drawn) h)

-- a fact of the numbers up to 6, one after the other
up_to_six : (P : ℕ → Type 0) → P 0 → P 1 → P 2 → P 3 → P 4 → P 5 → P 6 → (n : ℕ) → n ≤ 6 → P n
up_to_six P a b c d e f g zero h = a
up_to_six P a b c d e f g (suc zero) h = b
up_to_six P a b c d e f g (suc (suc zero)) h = c
up_to_six P a b c d e f g (suc (suc (suc zero))) h = d
up_to_six P a b c d e f g (suc (suc (suc (suc zero)))) h = e
up_to_six P a b c d e f g (suc (suc (suc (suc (suc zero))))) h = f
up_to_six P a b c d e f g (suc (suc (suc (suc (suc (suc zero)))))) h = g
up_to_six P a b c d e f g (suc (suc (suc (suc (suc (suc (suc n))))))) h = absurd (omega arith)

-- any other number names none
pub named_none : (n length : ℕ) → n ≢ 1 → n ≢ 2 → n ≢ 3 → n ≢ 4 → n ≢ 5 → n ≢ 6 → named n length ≡ None
unfolding named
named_none n length a b c d e f = simp (ne_eqb n 1 a, ne_eqb n 2 b, ne_eqb n 3 c, ne_eqb n 4 d, ne_eqb n 5 e, ne_eqb n 6 f)

pub named-above : (n length : ℕ) → 6 < n → named n length ≡ None
named-above n length h =
    named_none n length (λ e. omega arith) (λ e. omega arith) (λ e. omega arith) (λ e. omega arith) (λ e. omega arith) (λ e. omega arith)

-- what a number names has that number, or it is none of 1 to 6
pub number_by_name : (n length : ℕ) → number_named (named n length) ≡ mode_number n
unfolding named mode_number
number_by_name n length = go (dec_lt 6 n)
  where
    go : Dec (6 < n) → number_named (named n length) ≡ cond (leb n 6) n 0
    go (yes l) = rw (named-above n length l, lt-leb n 6 l)
    go (no l) = up_to_six (λ (n : ℕ). number_named (named n length) ≡ cond (leb n 6) n 0) refl refl refl refl refl refl refl n (omega arith)

-- no mode has number 0
positive : (mode : Mode) → 0 < number_of mode
positive Prf = omega arith
positive (Mac length) = omega arith
positive Hash = omega arith
positive Xof = omega arith
positive HashA = omega arith
positive XofA = omega arith

-- the mode that a number names has that number
pub number_is : (n length : ℕ) (mode : Mode) → named n length ≡ Some mode → number_of mode ≡ n
unfolding mode_number
number_is n length mode h = go (leb n 6) (ap number_named (sym h) ∙ number_by_name n length)
  where
    go : (b : Bool) → number_of mode ≡ cond b n 0 → number_of mode ≡ n
    go true e = e
    go false e = absurd (omega (arith, positive mode))

-- ---- tag lengths

-- only mode 2 has one: every other number names the same with any
pub length_ignored : (n a b : ℕ) → n ≢ 2 → named n a ≡ named n b
unfolding named
length_ignored n a b other = rw (ne_eqb n 2 other)

-- mode 2 has the one that it is named with
pub length-kept : (n length : ℕ) (mode : Mode) → named n length ≡ Some mode → number_of mode ≡ 2 → mode ≡ Mac length
unfolding named
length-kept n length mode h two = ap (mode_or mode) (sym h ∙ ap (λ (k : ℕ). named k length) (sym (number_is n length mode h) ∙ two))

-- with another length a number names no mode still, or a mode of the same number and key length
pub none-renamed : (n a b : ℕ) → named n a ≡ None → named n b ≡ None
unfolding named
none-renamed n a b h = go (ℕ_discrete n 2)
  where
    go : Dec (n ≡ 2) → named n b ≡ None
    go (yes two) = absurd (omega (arith, ap number_named (ap (λ (k : ℕ). named k a) (sym two) ∙ h)))
    go (no other) = length_ignored n b a other ∙ h

pub record Renamed (n length : ℕ) (mode : Mode) : Type 0 where
  pub other : Mode
  pub is : named n length ≡ Some other
  pub number : number_of other ≡ number_of mode
  pub key : (row other).key_length ≡ (row mode).key_length

pub renamed : (n a b : ℕ) (mode : Mode) → named n a ≡ Some mode → Renamed n b mode
unfolding named
renamed n a b mode h = go (ℕ_discrete n 2)
  where
    go : Dec (n ≡ 2) → Renamed n b mode
    go (yes two) =
        let mac : mode ≡ Mac a = length-kept n a mode h (number_is n a mode h ∙ two) in
        record {
          other = Mac b;
          is = ap (λ (k : ℕ). named k b) two;
          number = ap number_of (sym mac);
          key = ap (λ (m : Mode). (row m).key_length) (sym mac);
        }
    go (no other) = record { other = mode; is = length_ignored n b a other ∙ h; number = refl; key = refl }
