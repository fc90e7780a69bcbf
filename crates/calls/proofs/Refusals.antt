-- Which check answers: the orders of document 01's "Tickets" with request K2's 21, and the numbers and limits of "Refused", for any values, lists of calls being too
-- short for some.
-- For each list of checks the laws take all cases, one after the other in the list's order. What is answered is any function of the number.
-- Assumes nothing.
use Rattle.std.specs.Prelude.{Some, None}
use mathlib.Core.Bool.{Bool, true, false, cond, or-true, and-false}
use mathlib.Core.Path.{◌≡◌, refl}
use mathlib.Core.Logic.{◌≢◌}
use mathlib.Core.List.{List, []}
use Prim.Native.Nat.{ℕ, ◌+◌, ◌≤◌, ◌<◌}
use native.Mathlib.Omega.{arith}
use borrow.Author.Tests.{lt-ltb, le-ltb, le-leb, lt-leb, eq-eqb, ne_eqb}
use lib.Dec.{leb}
use lib.ListN.{length}
use Rattle.mode.specs.declared.Mode.{Mode}
use Rattle.mode.specs.declared.Mode.TheVariants.{Prf, Mac, Hash, Xof, HashA, XofA}
use Rattle.mode.specs.Mode.{row, number_of, named}
use Rattle.calls.specs.Call.{refuse}
use Rattle.checks.specs.Checks.{OneCheck, checked}
use Rattle.calls.specs.Checks.{most_open, wrong_tag_length, Standing, open_checks, ticket_checks, feed_own, feed_checks, draw_own, draw_checks, check_own, check_checks}
use Rattle.calls.specs.Machine.{Machine, open_count, admit, open_machine}
use Rattle.calls.proofs.Checks.{never-issued, is-closed}

-- at most so many bytes are drawn
abbrev pub most : Mode → ℕ
most Prf = 1048576
most (Mac length) = length
most Hash = 32
most Xof = 1048576
most HashA = 32
most XofA = 1048576

most-drawn : (mode : Mode) → (row mode).most_drawn ≡ most mode
most-drawn Prf = refl
most-drawn (Mac length) = refl
most-drawn Hash = refl
most-drawn Xof = refl
most-drawn HashA = refl
most-drawn XofA = refl

-- for the reader: the tag lengths that are not wrong: 8 to 16 in mode 2, and any in another mode
pub right-length : (mode : Mode) (tagLength : ℕ) → 8 ≤ tagLength → tagLength ≤ 16 → wrong_tag_length (Some mode) tagLength ≡ false
right-length mode tagLength low high = rw (le-ltb tagLength 8 low, le-ltb 16 tagLength high, and-false)

pub any-length : (mode : Mode) (tagLength : ℕ) → number_of mode ≢ 2 → wrong_tag_length (Some mode) tagLength ≡ false
any-length mode tagLength other = rw (ne_eqb (number_of mode) 2 other)

-- the standing of an open ticket
abbrev pub open_standing : Mode → Bool → ℕ → ℕ → Standing
open_standing mode feeding fed drawn = record { issued = true; is_open = true; mode = mode; feeding = feeding; fed = fed; drawn = drawn }

module _ {A : Type 0} (answer : ℕ → A) (done : A) where
  -- what a list of checks comes to
  abbrev pub outcome : List OneCheck → A
  outcome cs = checked answer cs done

  -- ---- open: 1, 2, 21, 14, 13

  module _ (key : List ℕ) (tagLength issued : ℕ) (full : Bool) where
    -- whatever the key and the tag length
    pub open_1 : outcome (open_checks None key tagLength issued full) ≡ answer 1
    unfolding open_checks
    open_1 = refl

    -- whatever the tag length, however many are issued and open
    pub open_2 : (mode : Mode) → length key ≢ (row mode).key_length → outcome (open_checks (Some mode) key tagLength issued full) ≡ answer 2
    unfolding open_checks
    open_2 mode wrong = rw (ne_eqb (length key) (row mode).key_length wrong)

    -- however many are issued and open
    pub open_21_short : length key ≡ 16 → tagLength < 8 → outcome (open_checks (Some (Mac tagLength)) key tagLength issued full) ≡ answer 21
    unfolding open_checks
    open_21_short right short = rw (eq-eqb (length key) 16 right, lt-ltb tagLength 8 short)

    pub open_21_long : length key ≡ 16 → 16 < tagLength → outcome (open_checks (Some (Mac tagLength)) key tagLength issued full) ≡ answer 21
    unfolding open_checks
    open_21_long right long = rw (eq-eqb (length key) 16 right, lt-ltb 16 tagLength long, or-true)

    -- where there is no wrong tag length: whether there is a place or not
    pub open_14 : (mode : Mode) → length key ≡ (row mode).key_length → wrong_tag_length (Some mode) tagLength ≡ false → 4294967295 ≤ issued
        → outcome (open_checks (Some mode) key tagLength issued full) ≡ answer 14
    unfolding open_checks
    open_14 mode right tags all = rw (eq-eqb (length key) (row mode).key_length right, tags, le-leb 4294967295 issued all)

    -- as long as a number is left
    pub open_13 : (mode : Mode) → length key ≡ (row mode).key_length → wrong_tag_length (Some mode) tagLength ≡ false → issued < 4294967295
        → outcome (open_checks (Some mode) key tagLength issued full) ≡ cond full (answer 13) done
    unfolding open_checks
    open_13 mode right tags room = rw (eq-eqb (length key) (row mode).key_length right, tags, lt-leb 4294967295 issued room)

  -- ---- a call on a ticket: 11, 12

  -- for the reader: a list of checks begins with these
  abbrev pub Begins : (Standing → List OneCheck) → Type 0
  Begins cs =
      (s : Standing)
      → (s.issued ≡ false → outcome (cs s) ≡ answer 11)
      × (s.issued ≡ true → s.is_open ≡ false → outcome (cs s) ≡ answer 12)

  pub feed-begins : (bytes : List ℕ) → Begins (λ (s : Standing). feed_checks s bytes)
  unfolding feed_checks feed_own
  feed-begins bytes s = (never-issued answer s _ done, is-closed answer s _ done)

  pub draw-begins : (buffer : List ℕ) (place count : ℕ) → Begins (λ (s : Standing). draw_checks s buffer place count)
  unfolding draw_checks draw_own
  draw-begins buffer place count s = (never-issued answer s _ done, is-closed answer s _ done)

  pub check-begins : (tag : List ℕ) → Begins (λ (s : Standing). check_checks s tag)
  unfolding check_checks check_own
  check-begins tag s = (never-issued answer s _ done, is-closed answer s _ done)

  pub close-begins : Begins ticket_checks
  unfolding ticket_checks
  close-begins s = (never-issued answer s [] done, is-closed answer s [] done)

  -- ---- a call on an open ticket

  module _ (mode : Mode) (fed drawn : ℕ) where
    -- feed: 15, 16. However many bytes, where feeding has ended
    pub feed_15 : (bytes : List ℕ) → outcome (feed_checks (open_standing mode false fed drawn) bytes) ≡ answer 15
    unfolding feed_checks feed_own ticket_checks
    feed_15 bytes = refl

    pub feed_16 : (bytes : List ℕ) → 16777216 < fed + length bytes → outcome (feed_checks (open_standing mode true fed drawn) bytes) ≡ answer 16
    unfolding feed_checks feed_own ticket_checks
    feed_16 bytes more = rw (lt-ltb 16777216 (fed + length bytes) more)

    pub feed-done : (bytes : List ℕ) → fed + length bytes ≤ 16777216 → outcome (feed_checks (open_standing mode true fed drawn) bytes) ≡ done
    unfolding feed_checks feed_own ticket_checks
    feed-done bytes room = rw (le-ltb 16777216 (fed + length bytes) room)

    -- draw: 3, 17, whether feeding lasts or not. 3 for any mode, however many bytes are drawn
    module _ (feeding : Bool) (buffer : List ℕ) (place count : ℕ) where
      pub draw_3 : length buffer < place + count → outcome (draw_checks (open_standing mode feeding fed drawn) buffer place count) ≡ answer 3
      unfolding draw_checks draw_own ticket_checks
      draw_3 past = rw (lt-ltb (length buffer) (place + count) past)

      pub draw_17 : place + count ≤ length buffer → most mode < drawn + count
          → outcome (draw_checks (open_standing mode feeding fed drawn) buffer place count) ≡ answer 17
      unfolding draw_checks draw_own ticket_checks
      draw_17 fits more = rw (le-ltb (length buffer) (place + count) fits, most-drawn mode, lt-ltb (most mode) (drawn + count) more)

      pub draw-done : place + count ≤ length buffer → drawn + count ≤ most mode
          → outcome (draw_checks (open_standing mode feeding fed drawn) buffer place count) ≡ done
      unfolding draw_checks draw_own ticket_checks
      draw-done fits room = rw (le-ltb (length buffer) (place + count) fits, most-drawn mode, le-ltb (most mode) (drawn + count) room)

  -- check: 18, 4, whether feeding lasts or not. 18 for any tag
  module _ (feeding : Bool) (fed drawn : ℕ) (tag : List ℕ) where
    pub check_18 : (mode : Mode) → number_of mode ≢ 2 → outcome (check_checks (open_standing mode feeding fed drawn) tag) ≡ answer 18
    unfolding check_checks check_own ticket_checks
    check_18 mode other = rw (ne_eqb (number_of mode) 2 other)

    -- a tag of another length than the ticket's, shorter or longer
    module _ (own : ℕ) where
      pub check_4 : length tag ≢ own → outcome (check_checks (open_standing (Mac own) feeding fed drawn) tag) ≡ answer 4
      unfolding check_checks check_own ticket_checks
      check_4 other = rw (ne_eqb (length tag) own other)

      pub check_done : length tag ≡ own → outcome (check_checks (open_standing (Mac own) feeding fed drawn) tag) ≡ done
      unfolding check_checks check_own ticket_checks
      check_done same = rw (eq-eqb (length tag) own same)

    -- close
    pub close-done : (mode : Mode) → outcome (ticket_checks (open_standing mode feeding fed drawn)) ≡ done
    unfolding ticket_checks
    close-done mode = refl

-- ---- for the reader: the last ticket, on the plain machine

-- an open that names a mode with a right key and tag length
module _ (n : ℕ) (key : List ℕ) (tagLength : ℕ) (m : Machine) (mode : Mode) (meant : named n tagLength ≡ Some mode) (right : length key ≡ (row mode).key_length)
    (tags : wrong_tag_length (Some mode) tagLength ≡ false) where
  -- all are issued, whether there is a place or not
  pub all-issued : length m.entries ≡ 4294967295 → open_machine n key tagLength m ≡ refuse m [] 14
  unfolding open_machine
  all-issued all =
      rw meant
      (open_14 (refuse m []) (admit (Some mode) key m) key tagLength (length m.entries) (leb most_open (open_count m)) mode right tags (omega arith))

  -- one is left: it is issued unless 16 are open
  pub one_left : length m.entries ≡ 4294967294
      → open_machine n key tagLength m ≡ cond (leb 16 (open_count m)) (refuse m [] 13) (admit (Some mode) key m)
  unfolding open_machine
  one_left one =
      rw meant
      (open_13 (refuse m []) (admit (Some mode) key m) key tagLength (length m.entries) (leb most_open (open_count m)) mode right tags (omega arith))
