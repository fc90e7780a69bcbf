-- Frames: document 01's sealing and judging. A frame begins with a body, of which the call says how many bytes it has; the tag stands in the sixteen bytes after
-- the body, and more bytes may follow.
-- Assumes nothing.
use Rattle.std.specs.Prelude.{Bool, false, not, List, [], ◌∷◌, ℕ, ◌+◌, ◌/◌, eqb, ltb, length, take, drop, Result, Ok, Err}
use Rattle.checks.specs.declared.refusal.Refusal.{Refusal}
use Rattle.checks.specs.Refusals.{refusal_number}
use Rattle.checks.specs.Checks.{OneCheck, refusal, checked}
use Rattle.checks.specs.Buffers.{written}
use Rattle.checks.specs.Equality.{same}
use Rattle.mode.specs.declared.Mode.TheVariants.{Mac}
use Rattle.mode.specs.Mode.{row}
use Rattle.sponge.specs.declared.record.Record.{Record}
use Rattle.sponge.specs.Sponge.{one_shot}
use Rattle.sponge.specs.Record.{fresh, absorbed, finished}
use Rattle.frame.specs.declared.Verdict.{Verdict}

-- the tag that a frame should have: the MAC of its body, with tags of sixteen bytes
unfoldable pub tag_for : List ℕ → List ℕ → ℕ → List ℕ
tag_for key frame body = one_shot (row (Mac 16)) key (take body frame) 16

-- the tag that it has
unfoldable pub tag_in : List ℕ → ℕ → List ℕ
tag_in frame body = take 16 (drop body frame)

-- the checks of both calls: 2, 3
unfoldable pub frame_checks : List ℕ → List ℕ → ℕ → List OneCheck
frame_checks key frame body = refusal 2 (not (eqb (length key) 16)) ∷ refusal 3 (ltb (length frame) (body + 16)) ∷ []

-- the number of the first that fails, or 0
unfoldable pub frame_refusal : List ℕ → List ℕ → ℕ → ℕ
frame_refusal key frame body = checked (λ (n : ℕ). n) (frame_checks key frame body) 0

-- the runs that both report
unfoldable pub frame_runs : ℕ → ℕ
frame_runs body = body / 32 + 2

-- the sponge that the code of both draws the tag from: a MAC's that has been fed the body, under no ticket
abbrev pub fed_body : List ℕ → List ℕ → ℕ → Record
fed_body key frame body = finished (absorbed (take body frame) (fresh 0 (Mac 16) key))

-- ---- sealing

-- what is answered: the number of the refusal, or 0 and the runs that were made
pub record Sealed : Type 0 where
  pub refusal : ℕ
  pub runs : ℕ

abbrev pub seal_refused : ℕ → Sealed
seal_refused n = record { refusal = n; runs = 0 }

unfoldable pub seal_answer : List ℕ → List ℕ → ℕ → Sealed
seal_answer key frame body = checked seal_refused (frame_checks key frame body) (record { refusal = 0; runs = frame_runs body })

-- what the frame holds afterwards: the tag after the body and its other bytes as they were, or, refused, what it held before
unfoldable pub seal_after : List ℕ → List ℕ → ℕ → List ℕ
seal_after key frame body = checked (λ (n : ℕ). frame) (frame_checks key frame body) (written frame body (tag_for key frame body))

-- the answer that a result of the code stands for
abbrev pub sealed_of : Result ℕ Refusal → Sealed
sealed_of (Ok runs) = record { refusal = 0; runs = runs }
sealed_of (Err e) = seal_refused (refusal_number e)

-- ---- judging

-- what is answered: the number of the refusal, or 0, the verdict and the runs that were made
pub record Judged : Type 0 where
  pub refusal : ℕ
  pub passed : Bool
  pub runs : ℕ

abbrev pub verify_refused : ℕ → Judged
verify_refused n = record { refusal = n; passed = false; runs = 0 }

-- it passes where the tag that the frame has is the one that it should have
unfoldable pub verify_answer : List ℕ → List ℕ → ℕ → Judged
verify_answer key frame body =
    checked verify_refused (frame_checks key frame body)
    (record { refusal = 0; passed = same (tag_in frame body) (tag_for key frame body); runs = frame_runs body })

-- the answer that a result of the code stands for
abbrev pub judged_of : Result Verdict Refusal → Judged
judged_of (Ok verdict) = record { refusal = 0; passed = verdict.passed; runs = verdict.runs }
judged_of (Err e) = verify_refused (refusal_number e)
