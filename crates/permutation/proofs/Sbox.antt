-- S takes five bits to five bits. `substitute`'s proof compares the bits that are read of each entry with the code's circuits; with this, nothing else stands
-- in an entry.
-- Assumes nothing.
use mathlib.Core.Path.{◌≡◌, refl}
use lib.Dec.{T, ltb}
use lib.ListN.{length}
use Rattle.word.specs.Word.{number}
use Rattle.word.proofs.Circuit.{on_rows}
use Rattle.permutation.specs.Permutation.{table, sbox}

pub five-bits : (length table ≡ 32) × T (on_rows 5 (λ l. ltb (sbox (number l)) 32))
unfolding sbox number
five-bits = (refl, tt)
