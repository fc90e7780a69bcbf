-- `script::hex::hex_pairs` meets its contract. The loop's invariant: what is known of the bytes before this one decides together with the others.
-- Assumes nothing.
use mathlib.Core.Path.{◌≡◌}
use mathlib.Core.Bool.{◌&&◌}
use lib.ListN.{drop}
use Rattle.script.specs.Hex.{hex_pairs}
use Rattle.script.proofs.HexTexts.{all_hex}
use Rattle.script.proofs.hex.hex_pairs.Given as goal

abbrev pub invariant-loop-b : goal.invariant-loop-b
invariant-loop-b l = l.all && all_hex (drop l.b-index l.s) ≡ hex_pairs l.s
