-- The numbers that C gets: four computed, and what judging answers for every key, frame and body.
-- Assumes nothing.
use mathlib.Core.Bool.{true, false, cond}
use mathlib.Core.Logic.{◌≢◌}
use mathlib.Core.Path.{◌≡◌, refl, ap, ◌∙◌}
use mathlib.Core.List.{List}
use Prim.Native.Nat.{ℕ, ◌+◌, ◌≤◌, ◌<◌}
use borrow.Author.Tests.{le-ltb}
use lib.ListN.{length}
use Rattle.checks.specs.Equality.{same}
use Rattle.checks.proofs.Equality.{equal-same, other-same}
use Rattle.frame.specs.Frame.{tag_for, tag_in, verify_answer}
use Rattle.frame.proofs.Laws.{refused_none, verify-done}
use Rattle.frame.proofs.Sealing.{refusals}
use Rattle.firmware.specs.Firmware.{judged_number}

pub numbers : (judged_number (record { refusal = 0; passed = true; runs = 2 }) ≡ 0)
    × (judged_number (record { refusal = 0; passed = false; runs = 2 }) ≡ 255)
    × (judged_number (record { refusal = 2; passed = false; runs = 0 }) ≡ 2)
    × (judged_number (record { refusal = 3; passed = false; runs = 0 }) ≡ 3)
numbers = (refl, refl, refl, refl)

-- 0 stands for a frame that has its tag, and for nothing else; 255 for one that has another
module _ (key frame : List ℕ) (body : ℕ) where
  pub wrong-key : length key ≢ 16 → judged_number (verify_answer key frame body) ≡ 2
  wrong-key h = rw ((refusals key frame body).0 h).judging

  pub no_room : length key ≡ 16 → length frame < body + 16 → judged_number (verify_answer key frame body) ≡ 3
  no_room h l = rw ((refusals key frame body).1 h l).judging

  module _ (sixteen : length key ≡ 16) (room : body + 16 ≤ length frame) where
    verdict : judged_number (verify_answer key frame body) ≡ cond (same (tag_in frame body) (tag_for key frame body)) 0 255
    verdict = ap judged_number (verify-done key frame body (refused_none key frame body sixteen (le-ltb _ _ room)))

    pub passes : tag_in frame body ≡ tag_for key frame body → judged_number (verify_answer key frame body) ≡ 0
    passes e = verdict ∙ rw (equal-same _ _ e)

    pub fails : tag_in frame body ≢ tag_for key frame body → judged_number (verify_answer key frame body) ≡ 255
    fails n = verdict ∙ rw (other-same _ _ n)
