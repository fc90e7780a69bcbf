-- What a script prints, however its input comes, and what the bytes of an open are. proofs/Theorems.antt proves it.
-- Assumes nothing.
use Rattle.std.specs.Prelude.{◌≡◌, true, ◌≢◌, List, [], ◌∷◌, ◌++◌, ℕ, zero, suc, ◌≤◌, length}
use Rattle.checks.specs.Joined.{joined}
use Rattle.calls.specs.Call.{Open as openCall}
use Rattle.calls.specs.Machine.{machine, empty_machine}
use Rattle.hub.specs.Hub.{empty_hub, on_hub}
use Rattle.script.specs.Line.{longest_line}
use Rattle.interpreter.specs.Script.{open_of, answer_names, output}
use Rattle.interpreter.specs.declared.Reader.{Reader}
use Rattle.interpreter.specs.Session.{begun, reader_of, Consumed, silent, and_then, consumed, finished, Filled, filled, output_size}

unfoldable pub consumed_all : Reader → List (List ℕ) → Consumed
consumed_all r [] = silent r
consumed_all r (c ∷ cs) = and_then (consumed r c).text (consumed_all (consumed r c).reader cs)

-- a script begins with any line buffer
abbrev pub at_first : List ℕ → Reader
at_first line = reader_of begun line

-- what is printed of input in chunks: the names first, each chunk's answers, and what the end of the input adds
unfoldable pub printed : List ℕ → List (List ℕ) → List ℕ
printed line chunks =
    answer_names ++ ((consumed_all (at_first line) chunks).text ++ (finished (consumed_all (at_first line) chunks).reader).text)

-- no more bytes than these leave a script going: a million lines of the longest length with their newlines, and one such line without
abbrev pub most_input : ℕ
most_input = 2101002100

abbrev pub NotEmpty : List (List ℕ) → Type 0
NotEmpty [] = Unit {0}
NotEmpty (c ∷ cs) = (1 ≤ length c) × NotEmpty cs

-- filling a buffer, with some text in it, from a chunk takes the chunk's first bytes: it leaves what consuming them leaves, and prints what they print
pub record Taking (r : Reader) (text chunk : List ℕ) (f : Filled) : Type 0 where
  pub taken : List ℕ
  pub split : chunk ≡ taken ++ f.left
  pub reader : f.reader ≡ (consumed r taken).reader
  pub printed : f.text ≡ text ++ (consumed r taken).text

-- what is printed of a chunk, one output buffer after the other: each is filled from what the one before it left, and there are no more of them than bytes
unfoldable pub part_texts : ℕ → Reader → List ℕ → List (List ℕ)
part_texts zero r chunk = []
part_texts (suc n) r chunk =
    let f : Filled = filled output_size r [] chunk in
    f.text ∷ part_texts n f.reader f.left

-- The bytes of an open (request K2). In mode 2 they are a key of any length and one byte more, the tag length; without that byte there is neither. In every other
-- mode they are the key, and no tag length stands there.
pub record OpenBytes : Type 0 where
  pub tagged : (key : List ℕ) (tagLength : ℕ) → open_of 2 (key ++ (tagLength ∷ [])) ≡ openCall 2 key tagLength
  pub bare : open_of 2 [] ≡ openCall 2 [] 0
  pub plain : (mode : ℕ) (key : List ℕ) → mode ≢ 2 → open_of mode key ≡ openCall mode key 0

pub record Scripts : Type 0 where
  -- input cut into chunks anywhere prints what the whole script prints
  pub cut : (line : List ℕ) (chunks : List (List ℕ)) → length line ≡ longest_line → printed line chunks ≡ output on_hub empty_hub (joined chunks)
  -- and that is what it prints on the plain machine
  pub plain : (input : List ℕ) → output on_hub empty_hub input ≡ output machine empty_machine input
  -- a chunk whose answers do not fit into a buffer is taken in parts
  pub parts : (size : ℕ) (r : Reader) (text chunk : List ℕ) → Taking r text chunk (filled size r text chunk)
  -- and all its parts together print what the chunk prints
  pub whole : (r : Reader) (chunk : List ℕ) → joined (part_texts (length chunk) r chunk) ≡ (consumed r chunk).text
  -- a program that reads a byte at least in each turn makes no more than so many turns before the script has stopped or its input has ended
  pub turns : (line : List ℕ) (chunks : List (List ℕ)) → NotEmpty chunks
      → (consumed_all (at_first line) chunks).reader.session.going ≡ true → length chunks ≤ most_input
