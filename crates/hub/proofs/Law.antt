-- The laws of specs/Law.antt: what holds of the plain machine's responses holds of the hub's, which are the same.
-- Assumes nothing.
use Rattle.std.specs.Prelude.{Option, Some, None}
use Rattle.std.proofs.Common.{ℕ, [], sym, refl, ap, ◌∙◌, true≢false, arith}
use Rattle.mode.specs.declared.Mode.{Mode}
use Rattle.mode.specs.Mode.{named}
use Rattle.mode.proofs.Modes.{length_ignored}
use Rattle.calls.specs.Answer.{Answer, accepted}
use Rattle.calls.specs.Call.{Response, Open, Feed, Draw, Check, Close, Sum, final}
use Rattle.calls.specs.Checks.{open_checks, feed_checks, draw_checks, check_checks, ticket_checks}
use Rattle.calls.specs.Law.{Closes}
use Rattle.calls.specs.Machine.{Machine, empty_machine, machine}
use Rattle.calls.proofs.Checks.{checks_ignore}
use Rattle.calls.proofs.Law.{machine_law, machine-numbered}
use Rattle.calls.proofs.Apart.{machine_apart}
use Rattle.calls.proofs.Unchanged.{Keeps, checked-keeps}
use Rattle.calls.proofs.Verdict.{machine_verdicts}
use Rattle.calls.proofs.Closing.{machine-check-closes}
use Rattle.calls.proofs.Keyed.{every_at}
use Rattle.calls.proofs.Entries.{Sound}
use Rattle.calls.proofs.Sound.{sound-step}
use Rattle.hub.specs.Hub.{absent, no_record, standing_of, admit, empty_hub, open_hub, feed_hub, draw_hub, check_hub, close_hub, sum_hub, on_hub}
use Rattle.hub.specs.Law.{HubLaw, HubNumbered, HubApart, HubRefusedKeeps, HubLengthIgnored, HubVerdicts, HubCheckCloses, HubForgets}
use Rattle.hub.proofs.Represents.{Forgets}
use Rattle.hub.proofs.Agree.{Same, same_step, from, left_after, agree, left_by, next-same, agree-next}

pub hub_law : HubLaw
hub_law calls = record {
  bytes = rw (agree calls) (machine_law calls).bytes;
  count = rw (agree calls) (machine_law calls).count;
  sum = rw (agree calls) (ap (λ (r : Response). r.answer) (agree-next calls Sum) ∙ (machine_law calls).sum);
  plain = agree calls;
}

pub hub-numbered : HubNumbered
hub-numbered calls = rw (agree calls) (machine-numbered calls)

pub hub_apart : HubApart
hub_apart calls others t mode key = rw (agree calls, agree others) (machine_apart calls others t mode key)

pub hub-refused-keeps : HubRefusedKeeps
unfolding on_hub open_hub feed_hub draw_hub check_hub close_hub sum_hub admit
hub-refused-keeps (Open mode key tagLength) h =
    checked-keeps h [] (open_checks (named mode tagLength) key tagLength h.issued (absent 0 h)) (admit (named mode tagLength) key h) (go (named mode tagLength))
  where
    go : (x : Option Mode) → Keeps h (admit x key h)
    go (Some y) z = absurd (true≢false z)
    go None z = refl
hub-refused-keeps (Feed t bytes) h = checked-keeps h [] (feed_checks (standing_of t h) bytes) _ (λ z. absurd (true≢false z))
hub-refused-keeps (Draw t buffer place count) h = checked-keeps h buffer (draw_checks (standing_of t h) buffer place count) _ (λ z. absurd (true≢false z))
hub-refused-keeps (Check t tag) h = checked-keeps h [] (check_checks (standing_of t h) tag) _ (λ z. absurd (true≢false z))
hub-refused-keeps (Close t) h = checked-keeps h [] (ticket_checks (standing_of t h)) _ (λ z. absurd (true≢false z))
hub-refused-keeps Sum h = λ z. refl

pub hub-length_ignored : HubLengthIgnored
unfolding on_hub open_hub
hub-length_ignored mode a b key other h = rw (checks_ignore mode a b other, length_ignored mode a b other)

pub hub_verdicts : HubVerdicts
hub_verdicts calls t own key tag = rw (agree calls, agree-next calls (Check t tag)) (machine_verdicts calls t own key tag)

pub hub-check-closes : HubCheckCloses
hub-check-closes calls t tag ok = record {
  count = ap runs check.responses ∙ plain.count ∙ sym (ap runs close.responses);
  alike = λ later. from later _ _ (sound-step (Check t tag) m sound) check.left ∙ plain.alike later ∙ sym (from later _ _ (sound-step (Close t) drawn-from drawn) close.left);
  closed = λ later c names.
      let after = left_after later _ _ (sound-step (Check t tag) m sound) check.left in
      ap answer (same_step _ _ after.0 after.1 c).responses ∙ plain.closed later c names;
}
  where
    answer : Response → Answer
    answer r = r.answer

    runs : Response → ℕ
    runs r = r.answer.runs

    m : Machine
    m = final machine empty_machine calls

    sound : Sound m
    sound = (left_by calls).0

    check : Same (on_hub (Check t tag) (final on_hub empty_hub calls)) (machine (Check t tag) m)
    check = next-same calls (Check t tag)

    drawn-from : Machine
    drawn-from = (machine (Draw t [] 0 0) m).after

    drawn : Sound drawn-from
    drawn = sound-step (Draw t [] 0 0) m sound

    close : Same (on_hub (Close t) (on_hub (Draw t [] 0 0) (final on_hub empty_hub calls)).after) (machine (Close t) drawn-from)
    close = same_step _ drawn-from drawn (next-same calls (Draw t [] 0 0)).left (Close t)

    plain : Closes machine empty_machine calls t tag
    plain = machine-check-closes calls t tag (sym (ap (λ (r : Response). accepted r.answer) check.responses) ∙ ok)

pub hub-forgets : HubForgets
hub-forgets calls p l =
    let rep = (left_by calls).1 in
    every_at Forgets (final on_hub empty_hub calls).records p no_record rep.forgets (omega (arith, rep.places))
