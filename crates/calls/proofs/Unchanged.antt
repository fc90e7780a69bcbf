-- A refused call changes nothing: what holds of any machine that answers behind checks, and the plain machine.
-- Assumes nothing.
use Rattle.std.specs.Prelude.{Option, Some, None}
use mathlib.Core.Bool.{false, true≢false}
use mathlib.Core.Path.{◌≡◌, refl}
use mathlib.Core.List.{List, []}
use Prim.Native.Nat.{ℕ}
use lib.ListN.{length}
use lib.Dec.{leb}
use Rattle.mode.specs.declared.Mode.{Mode}
use Rattle.mode.specs.Mode.{named}
use Rattle.checks.specs.Checks.{OneCheck, checked}
use Rattle.checks.proofs.Checks.{checked-each}
use Rattle.calls.specs.Answer.{accepted}
use Rattle.calls.specs.Call.{Open, Feed, Draw, Check, Close, Sum, Step, refuse}
use Rattle.calls.specs.Checks.{most_open, open_checks, feed_checks, draw_checks, check_checks, ticket_checks}
use Rattle.calls.specs.Law.{RefusedKeeps}
use Rattle.calls.specs.Machine.{empty_machine, open_count, standing_of, admit}
use Rattle.calls.specs.Machine.{open_machine, feed_machine, draw_machine, check_machine, close_machine, sum_machine, machine}

-- a call that is refused leaves s
abbrev pub Keeps : {S : Type 0} → S → Step S → Type 0
Keeps s r = accepted r.response.answer ≡ false → r.after ≡ s

-- behind checks
pub checked-keeps : {S : Type 0} (s : S) (buffer : List ℕ) (cs : List OneCheck) (done : Step S) → Keeps s done → Keeps s (checked (refuse s buffer) cs done)
checked-keeps s buffer cs done h = checked-each (Keeps s) cs (refuse s buffer) done (λ n z. refl) (λ pass. h)

pub machine-refused-keeps : RefusedKeeps machine empty_machine
unfolding machine open_machine feed_machine draw_machine check_machine close_machine sum_machine admit
machine-refused-keeps (Open mode key tagLength) m =
    checked-keeps m [] (open_checks (named mode tagLength) key tagLength (length m.entries) (leb most_open (open_count m))) (admit (named mode tagLength) key m)
    (go (named mode tagLength))
  where
    go : (x : Option Mode) → Keeps m (admit x key m)
    go (Some y) z = absurd (true≢false z)
    go None z = refl
machine-refused-keeps (Feed t bytes) m = checked-keeps m [] (feed_checks (standing_of t m) bytes) _ (λ z. absurd (true≢false z))
machine-refused-keeps (Draw t buffer place count) m = checked-keeps m buffer (draw_checks (standing_of t m) buffer place count) _ (λ z. absurd (true≢false z))
machine-refused-keeps (Check t tag) m = checked-keeps m [] (check_checks (standing_of t m) tag) _ (λ z. absurd (true≢false z))
machine-refused-keeps (Close t) m = checked-keeps m [] (ticket_checks (standing_of t m)) _ (λ z. absurd (true≢false z))
machine-refused-keeps Sum m = λ z. refl
