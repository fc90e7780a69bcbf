-- `frame::seal` meets its contract: what is drawn into the part after the body is the frame's tag.
-- Assumes nothing.
use Rattle.std.proofs.Common.{rules, ◌≡◌, ℕ, ◌+◌, ◌-◌, ◌^◌, ◌<◌, ◌≤◌, List, length, take, drop, sym, ap, ap₂, ◌∙◌, Err}
use Rattle.std.proofs.Math.Nat.{add-sub_cancel_left}
use Rattle.checks.specs.Buffers.{written}
use Rattle.checks.proofs.Buffers.{part-written, part_length}
use Rattle.sponge.specs.Record.{next_bytes, squeezed}
use Rattle.frame.specs.Frame.{tag_for, frame_refusal, frame_runs, fed_body, sealed_of}
use Rattle.checks.proofs.Refusals.{refusal_number-positive}
use Rattle.frame.proofs.Laws.{seal-refused, seal-kept, seal-done, seal-wrote, tag-drawn, length-tag_for, sealing-runs}
use Rattle.frame.proofs.seal.Goals as goal

pub returns-in_err-mac : goal.returns-in_err-mac
returns-in_err-mac c =
    let e : c.from_residual.result ≡ Err c.in_err-mac.field-0.0 = search rules in
    record {
      answer = ap sealed_of e ∙ sym (seal-refused _ _ _ _ c.in_err-mac.ensures.number (refusal_number-positive _));
      after = sym (seal-kept _ _ _ _ c.in_err-mac.ensures.number (refusal_number-positive _));
    }

pub returns : goal.returns
returns c =
    let a = c.args in
    let done : frame_refusal a.key.now a.frame.now a.body ≡ 0 = sym c.in_ok-mac.ensures.number in
    let room : a.body + 16 ≤ length a.frame.now = c.in_ok-mac.ensures.room in
    let few : length a.frame.now < 2 ^ 64 = search rules in
    let mac = c.in_ok-mac.mac in
    -- the part that is lent: sixteen bytes from the end of the body on
    let lent : List ℕ = take (a.body + 16 - a.body) (drop a.body a.frame.now) in
    let sixteen : length lent ≡ 16 = part_length _ _ _ room in
    let fed : mac ≡ fed_body a.key.now a.frame.now a.body = c.in_ok-mac.ensures.fed in
    let drawn : c.squeeze-drawn.result ≡ squeezed (length lent) mac = c.squeeze-drawn.ensures.after in
    let bytes : c.squeeze-drawn.new.out ≡ next_bytes (length lent) mac = c.squeeze-drawn.ensures.written in
    let runs : c.runs.result ≡ frame_runs a.body = c.runs.ensures ∙ rw (drawn, sixteen, fed) (sealing-runs _ _ _ room few) in
    let tag : c.squeeze-drawn.new.out ≡ tag_for a.key.now a.frame.now a.body = bytes ∙ ap₂ next_bytes sixteen fed ∙ tag-drawn _ _ _ in
    record {
      answer = ap (λ (n : ℕ). record { refusal = 0; runs = n }) runs ∙ sym (seal-done _ _ _ done);
      after = part-written _ _ _ _ (ap length tag ∙ length-tag_for _ _ _ ∙ sym (add-sub_cancel_left a.body 16))
          ∙ ap (written a.frame.now a.body) tag
          ∙ sym (seal-wrote _ _ _ done);
    }
