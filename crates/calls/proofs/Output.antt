-- The one-shot output: as many bytes as are asked for, and a longer one begins with a shorter one.
-- Assumes nothing.
use mathlib.Core.Path.{◌≡◌, sym, ap, ◌∙◌}
use mathlib.Core.List.{List, ◌++◌}
use Prim.Native.Nat.{ℕ, ◌+◌, ◌≤◌}
use native.Mathlib.Omega.{arith}
use lib.ListN.{length, take, drop, length-drop, take-append-drop}
use Rattle.mode.specs.declared.Mode.{Mode}
use Rattle.mode.specs.Mode.{row}
use Rattle.sponge.specs.Sponge.{start, absorb_message, output, one_shot}
use Rattle.mode.proofs.Modes.{rates}
use Rattle.sponge.proofs.Drawing.{values_from, length_values, take_values, output_byte, squeeze_bytes_values}

module _ (mode : Mode) (key message : List ℕ) where
  -- byte number i, for each i below d
  output_values : (d : ℕ)
      → one_shot (row mode) key message d ≡ values_from (output_byte (row mode) (absorb_message (row mode) message (start (row mode) key).state)) 0 d
  unfolding one_shot output
  output_values d = squeeze_bytes_values (row mode) (rates mode).draws d _

  -- d bytes are asked for, d are given
  pub length-output : (d : ℕ) → length (one_shot (row mode) key message d) ≡ d
  length-output d = rw output_values (length_values _ 0 d)

  -- more bytes begin with the fewer
  pub take-output : (d n : ℕ) → d ≤ n → take d (one_shot (row mode) key message n) ≡ one_shot (row mode) key message d
  take-output d n h = rw (output_values n, output_values d) (take_values _ 0 d n h)

  -- d bytes, and the k that follow
  pub length-later : (d k : ℕ) → length (drop d (one_shot (row mode) key message (d + k))) ≡ k
  length-later d k = length-drop d (one_shot (row mode) key message (d + k)) ∙ rw (length-output (d + k)) (omega arith)

  pub output-add : (d k : ℕ)
      → one_shot (row mode) key message (d + k) ≡ one_shot (row mode) key message d ++ drop d (one_shot (row mode) key message (d + k))
  output-add d k =
      sym (take-append-drop d (one_shot (row mode) key message (d + k)))
      ∙ ap (λ (l : List ℕ). l ++ drop d (one_shot (row mode) key message (d + k))) (take-output d (d + k) (omega arith))
