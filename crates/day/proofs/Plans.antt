-- The plan's calls, turns and steps, one after the other, and that no turn is left behind the last.
-- Assumes nothing.
use mathlib.Core.Path.{◌≡◌, refl, sym, ap, ◌∙◌}
use mathlib.Core.List.{List, [], ◌∷◌, ◌++◌, append-nil, append_assoc}
use Prim.Native.Nat.{ℕ, zero, suc, ◌+◌, ◌-◌, ◌≤◌, ◌<◌}
use native.Mathlib.Nat.{sub_self}
use native.Mathlib.Omega.{arith}
use lib.ListN.{length, get_or, take}
use lib.Seq.{take_all}
use Rattle.std.proofs.lemmas.List.{take_more}
use Rattle.calls.specs.Call.{Call}
use Rattle.calls.proofs.Repeats.{none_left}
use Rattle.hub.specs.declared.Hub.{Hub}
use Rattle.day.specs.declared.Step.{Step}
use Rattle.day.specs.declared.Step.TheVariants.{Begin}
use Rattle.day.specs.Day.{call_of, turn_at, turns_from, step_after, step_text, plan_text}

-- ---- turns that were taken

turns_more : (i n : ℕ) (sample : List ℕ) → turns_from i (suc n) sample ≡ turns_from i n sample ++ (call_of (turn_at (i + n)) sample ∷ [])
unfolding turns_from
turns_more i zero sample = let e : i + 0 ≡ i = omega arith in rw e
turns_more i (suc n) sample =
    let e : suc i + n ≡ i + suc n = omega arith in
    ap (λ (cs : List Call). call_of (turn_at i) sample ∷ cs) (turns_more (suc i) n sample ∙ rw e)

pub no_turn : (i : ℕ) (sample : List ℕ) → turns_from i (i - i) sample ≡ []
unfolding turns_from
no_turn i sample = rw (sub_self i)

pub turn_next : (first i : ℕ) (sample : List ℕ) → first ≤ i → turns_from first (i + 1 - first) sample ≡ turns_from first (i - first) sample ++ (call_of (turn_at i) sample ∷ [])
turn_next first i sample h =
    let e : i + 1 - first ≡ suc (i - first) = omega arith in
    let k : first + (i - first) ≡ i = omega arith in
    rw e (turns_more first (i - first) sample ∙ rw k)

-- no turn is left
pub no_turn_left : (sample : List ℕ) (end i : ℕ) → end ≤ i → turns_from i (end - i) sample ≡ []
unfolding turns_from
no_turn_left sample end i l = rw (none_left end i l)

-- ---- steps that were made

-- the hub after some steps
unfoldable pub plan_after : List Step → List ℕ → Hub → Hub
plan_after [] sample h = h
plan_after (s ∷ ss) sample h = plan_after ss sample (step_after s sample h)

more_after : (ss : List Step) (s : Step) (sample : List ℕ) (h : Hub) → plan_after (ss ++ (s ∷ [])) sample h ≡ step_after s sample (plan_after ss sample h)
unfolding plan_after
more_after [] s sample h = refl
more_after (t ∷ ss) s sample h = more_after ss s sample (step_after t sample h)

more_text : (ss : List Step) (s : Step) (sample : List ℕ) (h : Hub)
    → plan_text (ss ++ (s ∷ [])) sample h ≡ plan_text ss sample h ++ step_text s sample (plan_after ss sample h)
unfolding plan_after plan_text
more_text [] s sample h = append-nil (step_text s sample h)
more_text (t ∷ ss) s sample h =
    ap (λ (l : List ℕ). step_text t sample h ++ l) (more_text ss s sample (step_after t sample h))
    ∙ sym (append_assoc (step_text t sample h) (plan_text ss sample (step_after t sample h)) (step_text s sample (plan_after ss sample (step_after t sample h))))

pub none_after : (sample : List ℕ) (h : Hub) → plan_after [] sample h ≡ h
unfolding plan_after
none_after sample h = refl

pub none_text : (sample : List ℕ) (h : Hub) → plan_text [] sample h ≡ []
unfolding plan_text
none_text sample h = refl

pub step-after : (plan : List Step) (i : ℕ) (sample : List ℕ) (h : Hub) → i < length plan
    → plan_after (take (i + 1) plan) sample h ≡ step_after (get_or plan i Begin) sample (plan_after (take i plan) sample h)
step-after plan i sample h l = rw (take_more plan i Begin l) (more_after (take i plan) (get_or plan i Begin) sample h)

pub step-text : (plan : List Step) (i : ℕ) (sample : List ℕ) (h : Hub) → i < length plan
    → plan_text (take (i + 1) plan) sample h ≡ plan_text (take i plan) sample h ++ step_text (get_or plan i Begin) sample (plan_after (take i plan) sample h)
step-text plan i sample h l = rw (take_more plan i Begin l) (more_text (take i plan) (get_or plan i Begin) sample h)

pub all_text : (plan : List Step) (i : ℕ) (sample : List ℕ) (h : Hub) → length plan ≤ i → plan_text (take i plan) sample h ≡ plan_text plan sample h
all_text plan i sample h l = ap (λ (ss : List Step). plan_text ss sample h) (take_all i plan l)

-- by these, a loop's steps are the whole plan
pub ruleset planned_steps = (none_after, none_text, step-after, step-text, all_text)
