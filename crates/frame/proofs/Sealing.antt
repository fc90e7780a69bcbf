-- What sealing and judging come to: a sealed frame passes, a frame passes exactly where its tag is its body's MAC, and what is refused changes nothing.
-- Assumes nothing.
use mathlib.Core.Bool.{true, false}
use mathlib.Core.Path.{◌≡◌, refl, sym, ap, ◌∙◌}
use mathlib.Core.Logic.{◌≢◌}
use mathlib.Core.List.{List}
use Prim.Native.Nat.{ℕ, ◌+◌, ◌≤◌, ◌<◌}
use native.Mathlib.Omega.{arith}
use borrow.Author.Tests.{lt-ltb, le-ltb}
use lib.ListN.{length, get_or, take, drop}
use lib.Seq.{length-take-le, take_at}
use Rattle.checks.specs.Buffers.{written}
use Rattle.checks.specs.Equality.{same}
use Rattle.checks.proofs.Equality.{equal-same, same-equal}
use Rattle.checks.proofs.Buffers.{length-written, read-written, before-written, after-written}
use Rattle.mode.specs.declared.Mode.TheVariants.{Mac}
use Rattle.mode.specs.Mode.{Row, row}
use Rattle.sponge.specs.Sponge.{one_shot}
use Rattle.frame.specs.Frame.{Judged, tag_for, tag_in, frame_refusal, seal_answer, seal_after, verify_answer}
use Rattle.frame.proofs.Laws.{refused_2, refused_3, refused_none, seal-refused, seal-kept, verify-refused, seal-wrote, verify-done, length-tag_for}

-- ---- what is refused

-- both calls answer n, the frame stays as it is, and nothing passes
pub record RefusedWith (n : ℕ) (key frame : List ℕ) (body : ℕ) : Type 0 where
  pub sealing : seal_answer key frame body ≡ record { refusal = n; runs = 0 }
  pub kept : seal_after key frame body ≡ frame
  pub judging : verify_answer key frame body ≡ record { refusal = n; passed = false; runs = 0 }

-- a key that does not have sixteen bytes is refused with 2; else a frame with no room for the tag after the body is refused with 3
pub refusals : (key frame : List ℕ) (body : ℕ)
    → (length key ≢ 16 → RefusedWith 2 key frame body) × (length key ≡ 16 → length frame < body + 16 → RefusedWith 3 key frame body)
refusals key frame body = (
  λ h. by 2 (refused_2 key frame body h) (λ e. omega (arith, e)),
  λ h l. by 3 (refused_3 key frame body h (lt-ltb _ _ l)) (λ e. omega (arith, e)),
)
  where
    by : (n : ℕ) → frame_refusal key frame body ≡ n → n ≢ 0 → RefusedWith n key frame body
    by n e h = record {
      sealing = seal-refused key frame body n (sym e) h;
      kept = seal-kept key frame body n (sym e) h;
      judging = verify-refused key frame body n (sym e) h;
    }

-- ---- frames keep document 01's MAC

-- its row in document 01's table
abbrev document_row : Row
document_row =
    record { feed_rate = 32; draw_rate = 16; start_word = 0x8080_8c00_0000_0080; key_length = 16; most_drawn = 16; flips = true; inner_rounds = 12 }

-- the tag that a frame should have is that MAC's, whatever other lengths tags may have
pub frames_keep : (key frame : List ℕ) (body : ℕ) → tag_for key frame body ≡ one_shot document_row key (take body frame) 16
unfolding tag_for
frames_keep key frame body = refl

-- ---- what is not refused

module _ (key frame : List ℕ) (body : ℕ) (sixteen : length key ≡ 16) (room : body + 16 ≤ length frame) where
  accepted : frame_refusal key frame body ≡ 0
  accepted = refused_none key frame body sixteen (le-ltb _ _ room)

  judged : (verify_answer key frame body).passed ≡ same (tag_in frame body) (tag_for key frame body)
  judged = ap (λ (j : Judged). j.passed) (verify-done key frame body accepted)

  judged-tags : ((verify_answer key frame body).passed ≡ true → tag_in frame body ≡ tag_for key frame body)
      × (tag_in frame body ≡ tag_for key frame body → (verify_answer key frame body).passed ≡ true)
  judged-tags = (λ p. same-equal _ _ (sym judged ∙ p), λ e. judged ∙ equal-same _ _ e)

  -- a frame passes where the sixteen bytes that begin at the end of its body are the MAC of the body, and nowhere else
  pub judged-both_ways : ((verify_answer key frame body).passed ≡ true → take 16 (drop body frame) ≡ one_shot (row (Mac 16)) key (take body frame) 16)
      × (take 16 (drop body frame) ≡ one_shot (row (Mac 16)) key (take body frame) 16 → (verify_answer key frame body).passed ≡ true)
  unfolding tag_in tag_for
  judged-both_ways = judged-tags

  -- a sealed frame: it is as long as it was, the tag in it is the one that was written, and its body is as it was, so that its MAC is too
  sealed : List ℕ
  sealed = written frame body (tag_for key frame body)

  fits : body + length (tag_for key frame body) ≤ length frame
  fits = omega (arith, length-tag_for key frame body)

  sealed-room : body + 16 ≤ length sealed
  unfolding sealed
  sealed-room = rw (length-written frame body (tag_for key frame body) fits) room

  sealed_has : tag_in sealed body ≡ tag_for key frame body
  unfolding sealed tag_in
  sealed_has = read-written frame body (tag_for key frame body) fits 16 (length-tag_for key frame body)

  sealed-body : take body sealed ≡ take body frame
  unfolding sealed written
  sealed-body = take_at (take body frame) _ body (length-take-le body frame (omega arith))

  sealed_needs : tag_for key sealed body ≡ tag_for key frame body
  unfolding tag_for
  sealed_needs = ap (λ (m : List ℕ). one_shot (row (Mac 16)) key m 16) sealed-body

-- sealing writes the MAC of the body into the sixteen bytes that begin at its end, and every other byte stays
module _ (key frame : List ℕ) (body : ℕ) (sixteen : length key ≡ 16) (room : body + 16 ≤ length frame) where
  pub sealed-tag : take 16 (drop body (seal_after key frame body)) ≡ one_shot (row (Mac 16)) key (take body frame) 16
  unfolding sealed tag_in tag_for
  sealed-tag = rw (seal-wrote key frame body (accepted key frame body sixteen room)) (sealed_has key frame body sixteen room)

  pub sealed-before : (i : ℕ) → i < body → get_or (seal_after key frame body) i 0 ≡ get_or frame i 0
  sealed-before i h =
      rw (seal-wrote key frame body (accepted key frame body sixteen room))
      (before-written frame body (tag_for key frame body) (fits key frame body sixteen room) i 0 h)

  pub sealed-after : (i : ℕ) → body + 16 ≤ i → get_or (seal_after key frame body) i 0 ≡ get_or frame i 0
  sealed-after i h =
      rw (seal-wrote key frame body (accepted key frame body sixteen room))
      (after-written frame body (tag_for key frame body) (fits key frame body sixteen room) i 0 (omega (arith, length-tag_for key frame body)))

-- a frame that has been sealed is not refused, and passes
pub sealed-passes : (key frame : List ℕ) (body : ℕ) → length key ≡ 16 → body + 16 ≤ length frame
    → ((verify_answer key (seal_after key frame body) body).refusal ≡ 0) × ((verify_answer key (seal_after key frame body) body).passed ≡ true)
unfolding sealed
sealed-passes key frame body sixteen room =
    let after = sealed key frame body sixteen room in
    let inside = sealed-room key frame body sixteen room in
    rw (seal-wrote key frame body (accepted key frame body sixteen room)) (
      ap (λ (j : Judged). j.refusal) (verify-done key after body (accepted key after body sixteen inside)),
      (judged-tags key after body sixteen inside).1 (sealed_has key frame body sixteen room ∙ sym (sealed_needs key frame body sixteen room)),
    )
