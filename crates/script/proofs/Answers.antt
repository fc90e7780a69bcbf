-- How long an answer line can be.
-- Assumes nothing.
use mathlib.Core.List.{List}
use Prim.Native.Nat.{ℕ, ◌≤◌}
use native.Mathlib.Omega.{arith}
use lib.ListN.{length, length-append}
use Rattle.script.specs.declared.answer.Word.{Word}
use Rattle.script.specs.declared.answer.Word.TheVariants.{Ok, Pass, Fail, No, Stop}
use Rattle.script.specs.Line.{most_bytes}
use Rattle.script.specs.Answer.{word_text, answer_line}
use Rattle.script.proofs.Decimals.{decimal-long}
use Rattle.script.proofs.HexDigits.{bytes-text-long}

word-long : (w : Word) → length (word_text w) ≤ 4
word-long Ok = omega arith
word-long Pass = omega arith
word-long Fail = omega arith
word-long No = omega arith
word-long Stop = omega arith

-- 4 of the word, 20 of the number, 2,048 of the bytes, two spaces and a newline
pub answer-long : (w : Word) (n : ℕ) (bs : List ℕ) → length bs ≤ most_bytes → length (answer_line w n bs) ≤ 2075
unfolding answer_line
answer-long w n bs h = simp length-append (omega (arith, word-long w, decimal-long n, bytes-text-long bs h))
