-- The table of the modes: a mode is its row, and has a number. Rows 1 to 4 are document 01's "Four modes", rows 5 and 6 request K1's
-- ASCON-HASHA and ASCON-XOFA. Row 2, the MAC's, is computed from the length of its tags in bytes (request K2); document 01's is the one for 16.
-- In the table of start words of "Additional Modes for Ascon" (source document 004) a digit of XOFA's is missing.
-- Assumes nothing.
use Rattle.std.specs.Prelude.{Bool, true, false, cond, Option, Some, None, ℕ, ◌+◌, ◌*◌, eqb, leb}
use Rattle.mode.specs.declared.Mode.{Mode}
use Rattle.mode.specs.declared.Mode.TheVariants.{Prf, Mac, Hash, Xof, HashA, XofA}

-- the rounds of the first run and of the one after the last message block, in every mode
abbrev pub outer_rounds : ℕ
outer_rounds = 12

pub record Row : Type 0 where
  -- R, in bytes
  pub feed_rate : ℕ
  -- r, in bytes
  pub draw_rate : ℕ
  pub start_word : ℕ
  -- the length of the key in bytes
  pub key_length : ℕ
  -- at most so many bytes are drawn
  pub most_drawn : ℕ
  -- whether the lowest bit of x4 is flipped before the run of the last block
  pub flips : Bool
  -- the rounds of every run that is neither the first nor the one after the last message block
  pub inner_rounds : ℕ

abbrev pub row : Mode → Row
row Prf = record { feed_rate = 32; draw_rate = 16; start_word = 0x8080_8c00_0000_0000; key_length = 16; most_drawn = 1048576; flips = true; inner_rounds = 12 }
row (Mac length) = record { feed_rate = 32; draw_rate = 16; start_word = 0x8080_8c00_0000_0000 + 8 * length; key_length = 16; most_drawn = length; flips = true; inner_rounds = 12 }
row Hash = record { feed_rate = 8; draw_rate = 8; start_word = 0x0040_0c00_0000_0100; key_length = 0; most_drawn = 32; flips = false; inner_rounds = 12 }
row Xof = record { feed_rate = 8; draw_rate = 8; start_word = 0x0040_0c00_0000_0000; key_length = 0; most_drawn = 1048576; flips = false; inner_rounds = 12 }
row HashA = record { feed_rate = 8; draw_rate = 8; start_word = 0x0040_0c04_0000_0100; key_length = 0; most_drawn = 32; flips = false; inner_rounds = 8 }
row XofA = record { feed_rate = 8; draw_rate = 8; start_word = 0x0040_0c04_0000_0000; key_length = 0; most_drawn = 1048576; flips = false; inner_rounds = 8 }

-- the number of a mode
abbrev pub number_of : Mode → ℕ
number_of Prf = 1
number_of (Mac length) = 2
number_of Hash = 3
number_of Xof = 4
number_of HashA = 5
number_of XofA = 6

-- the mode that a number and a tag length name: a number that is not 1 to 6 names none, and only mode 2 has a tag length
unfoldable pub named : ℕ → ℕ → Option Mode
named n length =
    cond (eqb n 1) (Some Prf)
    (cond (eqb n 2) (Some (Mac length))
    (cond (eqb n 3) (Some Hash)
    (cond (eqb n 4) (Some Xof)
    (cond (eqb n 5) (Some HashA)
    (cond (eqb n 6) (Some XofA) None)))))

-- a number that is a mode's; 0 for any other
unfoldable pub mode_number : ℕ → ℕ
mode_number n = cond (leb n 6) n 0

-- the number that such an answer stands for: the mode's, or 0
abbrev pub number_named : Option Mode → ℕ
number_named (Some mode) = number_of mode
number_named None = 0
