-- The numbers that C gets: 0 where a call is done or a verdict passes, 255 where a verdict fails, and else the refusal's. No refusal has the number 0 or 255.
-- Assumes nothing.
use Rattle.std.specs.Prelude.{Bool, cond, ℕ, eqb}
use Rattle.frame.specs.Frame.{Judged}

-- the number of a verdict
abbrev pub verdict_number : Bool → ℕ
verdict_number passed = cond passed 0 255

-- the number of what judging answers
abbrev pub judged_number : Judged → ℕ
judged_number j = cond (eqb j.refusal 0) (verdict_number j.passed) j.refusal
