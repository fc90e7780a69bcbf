-- `permutation::substitute` meets its contract: each word that it returns is a circuit over the state's words, and its truth table is one bit of S.
-- Assumes nothing.
use mathlib.Core.List.{[], ◌∷◌}
use mir.Syntax.{w64}
use Rattle.word.specs.Word.{bit, number}
use Rattle.word.proofs.Circuit.{gates, by-table}
use Rattle.word.proofs.Arrays.{array_length, array_below}
use Rattle.permutation.specs.Permutation.{sbox, at_every_place, substitute}
use Rattle.permutation.proofs.substitute.Goals as goal

pub returns : goal.returns
unfolding substitute at_every_place sbox bit number
returns c =
    let s = c.args.s in
    by-table 5 sbox (4 ∷ 3 ∷ 2 ∷ 1 ∷ 0 ∷ []) (search gates depth 16) tt (array_length w64 5 s _ c.well_formed.0) (array_below w64 5 s _ c.well_formed.0)
