-- The twelve examples hold: the checker computes each side.
-- Assumes nothing.
use mathlib.Core.Path.{refl}
use Rattle.word.specs.Word.{bit, word, number, column, rotr}
use Rattle.word.specs.Bytes.{from_bytes, to_bytes, words_of, zeros_to}
use Rattle.permutation.specs.Permutation.{add_constant, sbox, at_every_place, substitute, mix, diffuse, round, permute}
use Rattle.sponge.specs.Sponge.{ceiling, initial, start, pad, cut, blocks, runs_ended}
use Rattle.prf_short.specs.Short.{start_value}
use Rattle.calls.specs.Machine.{formula}
use Rattle.checked_examples.specs.Examples.{TwelveExamples}

pub examples : TwelveExamples
unfolding bit word number column rotr from_bytes add_constant sbox at_every_place substitute mix diffuse round permute ceiling initial to_bytes words_of zeros_to start pad cut blocks runs_ended start_value formula
examples =
    record {
      sbox-first = refl;
      sbox-last = refl;
      rotated_x0 = refl;
      rotated_x2 = refl;
      short_0_16 = refl;
      short_1_8 = refl;
      blocks_of_7 = refl;
      blocks_of_8 = refl;
      prf_runs_31_16 = λ key. refl;
      prf_runs_32_17 = λ key. refl;
      hash_runs_8_32 = refl;
      hash_start = refl;
    }
