-- `script::hex::decode` meets its contract. The loop's invariant: what is left of the text, decoded, goes behind the bytes that are stored.
-- Assumes nothing.
use Rattle.script.proofs.HexTexts.{Decoding}
use Rattle.script.proofs.hex.decode.Given as goal

abbrev pub invariant-loop-i : goal.invariant-loop-i
invariant-loop-i l = Decoding l.s l.initial.buffer l.buffer l.i
