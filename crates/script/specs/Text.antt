-- Texts: lists of bytes. How they are written in these files, cut at a byte, and put into a lent buffer.
-- Assumes nothing.
use Rattle.std.specs.Prelude.{◌≡◌, cond, List, [], ◌∷◌, ℕ, ◌+◌, min, eqb, length, take, drop}
use Prim.Native.Char.{code}
use Prim.Native.String.{String, [] as «end», ◌∷◌ as ◌then◌}
use Rattle.std.proofs.lemmas.List.Edits.{sets}

-- the bytes of a quoted text; all that are quoted here are ASCII, where a character's code is its byte
abbrev pub text : String → List ℕ
text «end» = []
text (c then s) = code c ∷ text s

abbrev pub space : ℕ
space = code " "

abbrev pub newline : ℕ
newline = code "\n"

abbrev pub dash : ℕ
dash = code "-"

-- what stands before the first b; all of it where there is no b
unfoldable pub before : ℕ → List ℕ → List ℕ
before b [] = []
before b (a ∷ s) = cond (eqb a b) [] (a ∷ before b s)

-- what stands after the first b; nothing where there is no b
unfoldable pub after : ℕ → List ℕ → List ℕ
after b [] = []
after b (a ∷ s) = cond (eqb a b) s (after b s)

-- what stands from place `at` on, and at most so many bytes of it
abbrev pub part : ℕ → ℕ → List ℕ → List ℕ
part at most s = take most (drop at s)

-- a buffer with a text from place `at` on. What does not fit is left out. (`sets` stores one byte after the other, and a store past the end does nothing.)
unfoldable pub put : List ℕ → List ℕ → ℕ → List ℕ
put written buffer at = sets buffer at written

-- the place behind the text: the buffer's end where the text does not fit
unfoldable pub past : List ℕ → List ℕ → ℕ → ℕ
past written buffer at = min (at + length written) (length buffer)

-- A text was written into a buffer: `last` is the buffer `first` with the text from place `at` on, and `next` the place after it.
pub record Wrote (first : List ℕ) (at : ℕ) (written last : List ℕ) (next : ℕ) : Type 0 where
  pub bytes : last ≡ put written first at
  pub place : next ≡ past written first at
