-- What both calls give where they are refused and where they are done, and what the sponge of a frame gives: its tag, its verdict and its runs.
-- Assumes nothing.
use mathlib.Core.Bool.{true, false, cond, not}
use mathlib.Core.Path.{◌≡◌, refl, sym, ap, ◌∙◌}
use mathlib.Core.Logic.{◌≢◌}
use mathlib.Core.List.{List}
use Prim.Native.Nat.{ℕ, ◌+◌, ◌^◌, ◌≤◌, ◌<◌}
use native.Mathlib.Omega.{arith}
use borrow.Author.Tests.{ltb-false, eq-eqb, ne_eqb}
use lib.Dec.{eqb, ltb}
use lib.ListN.{length, take}
use lib.Seq.{length-take-le, take_all}
use Rattle.checks.specs.Buffers.{written}
use Rattle.checks.specs.Equality.{same}
use Rattle.checks.proofs.Checks.{Pass, Nonzero, refused-by-number, zero-passes, passed-done}
use Rattle.mode.specs.declared.Mode.TheVariants.{Mac}
use Rattle.sponge.specs.Sponge.{ceiling, start, runs_ended}
use Rattle.sponge.specs.Record.{after_drawing, next_bytes, squeezed, tag_matches}
use Rattle.sponge.proofs.Calls.{length-next_bytes}
use Rattle.sponge.proofs.Streaming.{calls-all-bytes, calls-tag, calls-ended-runs, runs_fit}
use Rattle.frame.specs.Frame.{tag_for, tag_in, frame_checks, frame_refusal, frame_runs, fed_body, seal_refused, seal_answer, seal_after, verify_refused, verify_answer}

module _ (key frame : List ℕ) (body : ℕ) where
  -- ---- the number of the refusal

  number : frame_refusal key frame body ≡ cond (not (eqb (length key) 16)) 2 (cond (ltb (length frame) (body + 16)) 3 0)
  unfolding frame_refusal frame_checks
  number = refl

  pub refused_2 : length key ≢ 16 → frame_refusal key frame body ≡ 2
  refused_2 h = number ∙ rw (ne_eqb (length key) 16 h)

  pub refused_3 : length key ≡ 16 → ltb (length frame) (body + 16) ≡ true → frame_refusal key frame body ≡ 3
  refused_3 h e = number ∙ rw (eq-eqb (length key) 16 h, e)

  pub refused_none : length key ≡ 16 → ltb (length frame) (body + 16) ≡ false → frame_refusal key frame body ≡ 0
  refused_none h e = number ∙ rw (eq-eqb (length key) 16 h, e)

  -- ---- what the number 0 says

  numbered : Nonzero (frame_checks key frame body)
  unfolding frame_checks
  numbered = (λ e. omega (arith, e), (λ e. omega (arith, e), tt))

  passed : frame_refusal key frame body ≡ 0 → Pass (frame_checks key frame body)
  unfolding frame_refusal
  passed z = zero-passes (frame_checks key frame body) numbered z

  -- the frame has room for the tag
  pub has_room : frame_refusal key frame body ≡ 0 → body + 16 ≤ length frame
  unfolding frame_checks
  has_room z = ltb-false (length frame) (body + 16) (passed z).1.0

  -- ---- the calls, refused: the number is not 0

  module _ (n : ℕ) (e : n ≡ frame_refusal key frame body) (h : n ≢ 0) where
    pub seal-refused : seal_answer key frame body ≡ record { refusal = n; runs = 0 }
    unfolding frame_refusal seal_answer
    seal-refused = refused-by-number (frame_checks key frame body) _ _ (λ z. h (e ∙ z)) ∙ ap seal_refused (sym e)

    pub seal-kept : seal_after key frame body ≡ frame
    unfolding frame_refusal seal_after
    seal-kept = refused-by-number (frame_checks key frame body) _ _ (λ z. h (e ∙ z))

    pub verify-refused : verify_answer key frame body ≡ record { refusal = n; passed = false; runs = 0 }
    unfolding frame_refusal verify_answer
    verify-refused = refused-by-number (frame_checks key frame body) _ _ (λ z. h (e ∙ z)) ∙ ap verify_refused (sym e)

  -- ---- the calls, done: the number is 0

  module _ (z : frame_refusal key frame body ≡ 0) where
    pub seal-done : seal_answer key frame body ≡ record { refusal = 0; runs = frame_runs body }
    unfolding seal_answer
    seal-done = passed-done (frame_checks key frame body) _ _ (passed z)

    pub seal-wrote : seal_after key frame body ≡ written frame body (tag_for key frame body)
    unfolding seal_after
    seal-wrote = passed-done (frame_checks key frame body) _ _ (passed z)

    pub verify-done : verify_answer key frame body ≡ record { refusal = 0; passed = same (tag_in frame body) (tag_for key frame body); runs = frame_runs body }
    unfolding verify_answer
    verify-done = passed-done (frame_checks key frame body) _ _ (passed z)

  -- ---- the sponge that has been fed the body

  -- the sixteen bytes that it gives are the tag
  pub tag-drawn : next_bytes 16 (fed_body key frame body) ≡ tag_for key frame body
  unfolding tag_for
  tag-drawn = calls-all-bytes 0 (Mac 16) key (take body frame) 16

  pub length-tag_for : length (tag_for key frame body) ≡ 16
  length-tag_for = ap length (sym tag-drawn) ∙ length-next_bytes 16 (fed_body key frame body)

  module _ (room : body + 16 ≤ length frame) where
    -- a tag is judged by all its bytes
    pub verdict : tag_matches (tag_in frame body) (fed_body key frame body) ≡ same (tag_in frame body) (tag_for key frame body)
    unfolding tag_for
    verdict =
        calls-tag 0 (Mac 16) key (take body frame) (tag_in frame body)
        ∙ ap (same (tag_in frame body)) (take_all 16 (tag_for key frame body) (omega (arith, length-tag_for)))

    -- the runs, whether sixteen bytes are drawn or none
    module _ (few : length frame < 2 ^ 64) where
      fed-runs : (d : ℕ) → d ≤ 16 → (squeezed d (fed_body key frame body)).runs ≡ frame_runs body
      unfolding start runs_ended ceiling frame_runs
      fed-runs d h =
          let n : length (take body frame) ≡ body = length-take-le body frame (omega arith) in
          calls-ended-runs 0 (Mac 16) key (take body frame) d (runs_fit (Mac 16) (length (take body frame)) d (omega (arith, n)) (omega arith)) ∙ omega (arith, n)

      pub sealing-runs : (squeezed 16 (fed_body key frame body)).runs ≡ frame_runs body
      sealing-runs = fed-runs 16 (omega arith)

      pub judging-runs : (fed_body key frame body).runs ≡ frame_runs body
      unfolding squeezed after_drawing
      judging-runs = fed-runs 0 (omega arith)
