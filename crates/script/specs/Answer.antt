-- An answer line: a word, a number, and bytes or `-`.
-- Assumes nothing.
use Rattle.std.specs.Prelude.{List, [], ◌∷◌, ◌++◌, ℕ}
use Rattle.script.specs.declared.answer.Word.{Word}
use Rattle.script.specs.declared.answer.Word.TheVariants.{Ok, Pass, Fail, No, Stop}
use Rattle.script.specs.Text.{text, space, newline}
use Rattle.script.specs.Number.{decimal}
use Rattle.script.specs.Hex.{bytes_text}

abbrev pub word_text : Word → List ℕ
word_text Ok = text "ok"
word_text Pass = text "pass"
word_text Fail = text "fail"
word_text No = text "no"
word_text Stop = text "stop"

-- with its newline
unfoldable pub answer_line : Word → ℕ → List ℕ → List ℕ
answer_line word n bs = word_text word ++ (space ∷ []) ++ decimal n ++ (space ∷ []) ++ bytes_text bs ++ (newline ∷ [])
