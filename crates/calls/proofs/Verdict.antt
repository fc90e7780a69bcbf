-- The verdict on the plain machine: an accepted check passes exactly where the tag is the MAC.
-- Assumes nothing.
use Rattle.std.specs.Prelude.{Some}
use mathlib.Core.Bool.{true}
use mathlib.Core.Path.{◌≡◌, sym, ap, ap₂, ◌∙◌}
use mathlib.Core.List.{List, [], ◌∷◌}
use Prim.Native.Nat.{ℕ}
use Rattle.checks.specs.Equality.{same}
use Rattle.checks.proofs.Equality.{equal-same, other-same}
use Rattle.mode.specs.declared.Mode.{Mode}
use Rattle.mode.specs.declared.Mode.TheVariants.{Mac}
use Rattle.mode.specs.Mode.{row}
use Rattle.sponge.specs.Sponge.{one_shot}
use Rattle.calls.specs.Answer.{accepted}
use Rattle.calls.specs.Call.{Call, Check, Step, events, final}
use Rattle.calls.specs.Law.{mac_fed, Verdicts}
use Rattle.calls.specs.Lists.{issued_by, issue_of}
use Rattle.calls.specs.Machine.{Entry, Machine, empty_machine, output_of, after_draw, after_close, after_check, machine}
use Rattle.calls.proofs.Keyed.{all}
use Rattle.calls.proofs.Entries.{number}
use Rattle.calls.proofs.Outcomes.{accepted-check}
use Rattle.calls.proofs.Readings.{Reading, unread, read_on}
use Rattle.calls.proofs.Sound.{sound_empty, sound-final}
use Rattle.calls.proofs.Tickets.{reading_of}
use Rattle.calls.proofs.Law.{entry-says}

module _ (calls : List Call) (t own : ℕ) (key tag : List ℕ) (issued : issue_of t (events machine empty_machine calls) ≡ issued_by (Some (Mac own)) key) where
  abbrev end : Machine
  end = final machine empty_machine calls

  abbrev mac : List ℕ
  mac = mac_fed machine empty_machine calls t own key

  -- what the ticket's entry gives, as much as is drawn of it
  whole : (e : Entry) → all number t end.entries ≡ e ∷ [] → output_of (after_check e) (row e.mode).most_drawn ≡ mac
  unfolding read_on reading_of output_of after_draw after_close after_check
  whole e h =
      let says : read_on t (events machine empty_machine calls) unread ≡ reading_of (e ∷ []) = entry-says calls t e h in
      let same-issue : issued_by (Some e.mode) e.key ≡ issued_by (Some (Mac own)) key = sym (ap (λ (x : Reading). x.issue) says) ∙ issued in
      let modes : e.mode ≡ Mac own = cc in
      let keys : e.key ≡ key = cc in
      ap₂ (λ (a : Mode) (k : List ℕ). one_shot (row a) k e.fed (row a).most_drawn) modes keys
      ∙ ap (λ (m : List ℕ). one_shot (row (Mac own)) key m own) (sym (ap (λ (x : Reading). x.fed) says))

  -- an accepted check has that verdict
  judges : accepted (machine (Check t tag) end).response.answer ≡ true → (machine (Check t tag) end).response.answer.passed ≡ same tag mac
  judges ok =
      let check = accepted-check t tag end (sound-final calls empty_machine sound_empty) ok in
      ap (λ (s : Step Machine). s.response.answer.passed) check.done ∙ ap (same tag) (whole check.entry check.ticket.only)

pub machine_verdicts : Verdicts machine empty_machine
machine_verdicts calls t own key tag issued ok =
    let judged : (machine (Check t tag) (final machine empty_machine calls)).response.answer.passed ≡ same tag (mac_fed machine empty_machine calls t own key) =
    judges calls t own key tag issued ok in
    (λ h. judged ∙ equal-same tag _ h, λ h. judged ∙ other-same tag _ h)
