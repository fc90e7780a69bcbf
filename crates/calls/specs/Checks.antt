-- The checks of document 01's "Tickets" and request K2's 21, each call's in its order, with the numbers of "Refused". The hub and the plain machine answer by
-- these same lists: what the checks ask about a ticket is its standing, which each of the two works out in its own way.
-- Assumes nothing.
use Rattle.std.specs.Prelude.{Bool, true, false, not, ◌&&◌, ◌||◌, List, [], ◌∷◌, ◌++◌, ℕ, ◌+◌, eqb, leb, ltb, length, Option, Some, None}
use Rattle.mode.specs.declared.Mode.{Mode}
use Rattle.mode.specs.Mode.{row, number_of}
use Rattle.checks.specs.Checks.{OneCheck, refusal}

-- ---- limits

-- so many tickets are open at once
abbrev pub most_open : ℕ
most_open = 16

-- so many are issued in all
abbrev pub most_issued : ℕ
most_issued = 4294967295

-- so many bytes are fed to one
abbrev pub most_fed : ℕ
most_fed = 16777216

-- a tag has at least and at most so many bytes (request K2)
abbrev pub shortest_tag : ℕ
shortest_tag = 8

abbrev pub longest_tag : ℕ
longest_tag = 16

-- ---- open: 1, 2, 21, 14, 13

-- a number that is not 1 to 6 names no mode
abbrev pub names_none : Option Mode → Bool
names_none (Some mode) = false
names_none None = true

-- a key has not the length of its mode. No key is right for no mode
abbrev pub wrong_key : Option Mode → List ℕ → Bool
wrong_key (Some mode) key = not (eqb (length key) (row mode).key_length)
wrong_key None key = true

-- a tag length of mode 2 is not 8 to 16. In every other mode any is right, for no mode none is
abbrev pub wrong_tag_length : Option Mode → ℕ → Bool
wrong_tag_length (Some mode) tagLength = eqb (number_of mode) 2 && (ltb tagLength shortest_tag || ltb longest_tag tagLength)
wrong_tag_length None tagLength = true

-- how many tickets were issued; whether as many are open as there are places
unfoldable pub open_checks : Option Mode → List ℕ → ℕ → ℕ → Bool → List OneCheck
open_checks mode key tagLength issued full =
    refusal 1 (names_none mode) ∷ refusal 2 (wrong_key mode key) ∷ refusal 21 (wrong_tag_length mode tagLength) ∷ refusal 14 (leb most_issued issued) ∷ refusal 13 full ∷ []

-- ---- calls on a ticket

-- what is asked about a ticket: whether it was ever issued and whether it is open; of an open one its mode, whether feeding lasts, and how many bytes are fed
-- and drawn
pub record Standing : Type 0 where
  pub issued : Bool
  pub is_open : Bool
  pub mode : Mode
  pub feeding : Bool
  pub fed : ℕ
  pub drawn : ℕ

-- close, and what every other call on a ticket begins with: 11, 12
unfoldable pub ticket_checks : Standing → List OneCheck
ticket_checks s = refusal 11 (not s.issued) ∷ refusal 12 (not s.is_open) ∷ []

-- feed: 11, 12, and its own, 15, 16
unfoldable pub feed_own : Standing → List ℕ → List OneCheck
feed_own s bytes = refusal 15 (not s.feeding) ∷ refusal 16 (ltb most_fed (s.fed + length bytes)) ∷ []

unfoldable pub feed_checks : Standing → List ℕ → List OneCheck
feed_checks s bytes = ticket_checks s ++ feed_own s bytes

-- draw: 11, 12, and its own, 3, 17
unfoldable pub draw_own : Standing → List ℕ → ℕ → ℕ → List OneCheck
draw_own s buffer place count = refusal 3 (ltb (length buffer) (place + count)) ∷ refusal 17 (ltb (row s.mode).most_drawn (s.drawn + count)) ∷ []

unfoldable pub draw_checks : Standing → List ℕ → ℕ → ℕ → List OneCheck
draw_checks s buffer place count = ticket_checks s ++ draw_own s buffer place count

-- check: 11, 12, and its own, 18, 4: a tag has the length that the ticket's open named, as much as may be drawn
unfoldable pub check_own : Standing → List ℕ → List OneCheck
check_own s tag = refusal 18 (not (eqb (number_of s.mode) 2)) ∷ refusal 4 (not (eqb (length tag) (row s.mode).most_drawn)) ∷ []

unfoldable pub check_checks : Standing → List ℕ → List OneCheck
check_checks s tag = ticket_checks s ++ check_own s tag
