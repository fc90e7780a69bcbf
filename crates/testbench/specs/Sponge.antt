-- What the sponge answers to C.
-- Assumes nothing.
use Rattle.std.specs.Prelude.{cond, Option, Some, None, List, [], ◌∷◌, ℕ, ◌-◌, min, length, take, drop}
use Rattle.checks.specs.Equality.{same}
use Rattle.mode.specs.declared.Mode.{Mode}
use Rattle.mode.specs.declared.Mode.TheVariants.{Mac}
use Rattle.mode.specs.Mode.{row}
use Rattle.sponge.specs.Sponge.{one_shot, runs_ended}

-- a message cut in two; a cut past the end is one at the end
abbrev pub parts_at : ℕ → List ℕ → List (List ℕ)
parts_at cut message = take (min cut (length message)) message ∷ drop (min cut (length message)) message ∷ []

-- n bytes counted in two, the first of so many, or of all
abbrev pub counts_at : ℕ → ℕ → List ℕ
counts_at first n = min first n ∷ (n - min first n) ∷ []

-- the runs for n bytes fed and d drawn: document 01's formula
abbrev pub sponge_runs : Option Mode → ℕ → ℕ → ℕ
sponge_runs (Some mode) n d = runs_ended (row mode) 1 n d
sponge_runs None n d = 0

-- what is written: the one-shot output, as much as is lent
abbrev pub sponge_out : Option Mode → List ℕ → List ℕ → List ℕ → List ℕ
sponge_out (Some mode) key message out = one_shot (row mode) key message (length out)
sponge_out None key message out = out

-- 1 for a tag that is the MAC with tags of so many bytes, or, where they are more than sixteen, its first sixteen
abbrev pub tag_answer : List ℕ → List ℕ → ℕ → List ℕ → ℕ
tag_answer key message tagLength tag = cond (same tag (take tagLength (one_shot (row (Mac tagLength)) key message 16))) 1 0
