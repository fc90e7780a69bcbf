-- `frame::verify` meets its contract: the part after the body is judged by the frame's tag.
-- Assumes nothing.
use Rattle.std.proofs.Common.{rules, ◌≡◌, ℕ, ◌+◌, ◌^◌, ◌<◌, ◌≤◌, Bool, length, take, drop, sym, ap, ap₂, ◌∙◌, Err}
use Rattle.std.proofs.Math.Nat.{add-sub_cancel_left}
use Rattle.checks.specs.Equality.{same}
use Rattle.sponge.specs.Record.{tag_matches}
use Rattle.frame.specs.Frame.{tag_for, tag_in, frame_runs, judged_of}
use Rattle.checks.proofs.Refusals.{refusal_number-positive}
use Rattle.frame.proofs.Laws.{verify-refused, verify-done, verdict, judging-runs}
use Rattle.frame.proofs.verify.Goals as goal

pub returns-in_err-mac : goal.returns-in_err-mac
returns-in_err-mac c =
    let e : c.from_residual.result ≡ Err c.in_err-mac.field-0.0 = search rules in
    ap judged_of e ∙ sym (verify-refused _ _ _ _ c.in_err-mac.ensures.number (refusal_number-positive _))

pub returns : goal.returns
unfolding tag_in
returns c =
    let a = c.args in
    let mac = c.in_ok-mac.mac in
    let room : a.body + 16 ≤ length a.frame.now = c.in_ok-mac.ensures.room in
    let few : length a.frame.now < 2 ^ 64 = search rules in
    -- the part that is judged is the tag in the frame
    let judged : c.tag_matches.result ≡ tag_matches (tag_in a.frame.now a.body) mac =
    c.tag_matches.ensures ∙ ap (λ (n : ℕ). tag_matches (take n (drop a.body a.frame.now)) mac) (add-sub_cancel_left a.body 16) in
    let passes : c.tag_matches.result ≡ same (tag_in a.frame.now a.body) (tag_for a.key.now a.frame.now a.body) =
    judged ∙ rw c.in_ok-mac.ensures.fed (verdict _ _ _ room) in
    let runs : c.runs.result ≡ frame_runs a.body = c.runs.ensures ∙ rw c.in_ok-mac.ensures.fed (judging-runs _ _ _ room few) in
    ap₂ (λ (p : Bool) (n : ℕ). record { refusal = 0; passed = p; runs = n }) passes runs ∙ sym (verify-done _ _ _ (sym c.in_ok-mac.ensures.number))
