-- The messages of the vectors, and their lengths.
-- Assumes nothing.
use Rattle.std.specs.Prelude.{List, [], ◌∷◌, ◌++◌, ℕ, ◌%◌, map}
use Rattle.std.specs.List.{range_with_len}

-- n bytes that count up from k, and after 255 again from 0
unfoldable pub counting_from : ℕ → ℕ → List ℕ
counting_from k n = map (λ (i : ℕ). i % 256) (range_with_len k n)

-- the lengths of the messages: 0 to 129, and those after it
abbrev pub longer : List ℕ
longer = 255 ∷ 256 ∷ 257 ∷ 511 ∷ 512 ∷ 513 ∷ 1000 ∷ 1023 ∷ 1024 ∷ []

unfoldable pub lengths : List ℕ
lengths = range_with_len 0 130 ++ longer

-- those of the messages that tags of every length are given for
unfoldable pub tagged : List ℕ
tagged = 0 ∷ 1 ∷ 7 ∷ 8 ∷ 15 ∷ 16 ∷ 17 ∷ 31 ∷ 32 ∷ 33 ∷ 63 ∷ 64 ∷ 65 ∷ 100 ∷ 1024 ∷ []
