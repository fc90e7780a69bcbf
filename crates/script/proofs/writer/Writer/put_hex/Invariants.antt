-- `script::writer::Writer::put_hex` meets its contract. The loop's invariant: the bytes before this one are written.
-- Assumes nothing.
use lib.ListN.{take}
use Rattle.script.specs.Hex.{hex_of}
use Rattle.script.specs.Writing.{Puts}
use Rattle.script.proofs.writer.Writer.put_hex.Given as goal

abbrev pub invariant-loop-b : goal.invariant-loop-b
invariant-loop-b l = Puts (hex_of (take l.b-index l.bytes)) l.fn.self l.self
