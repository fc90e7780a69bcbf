-- `script::writer::Writer::put_decimal` ends. The measure is the number itself: the number without its last digit is less.
-- Assumes nothing.
use Rattle.script.proofs.writer.Writer.+put_decimal.Given as goal

abbrev pub decreases-put_decimal : goal.decreases-put_decimal
decreases-put_decimal l = l.n
