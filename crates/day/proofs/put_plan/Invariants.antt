-- `day::put_plan` meets its contract. The loop's invariant: the steps before this one are made and listed.
-- Assumes nothing.
use mathlib.Core.Path.{◌≡◌}
use lib.ListN.{take}
use Rattle.script.specs.Writing.{Puts}
use Rattle.day.specs.Day.{plan_text}
use Rattle.day.proofs.Plans.{plan_after}
use Rattle.day.proofs.put_plan.Given as goal

abbrev pub invariant-loop-step : goal.invariant-loop-step
invariant-loop-step l = record {
  hub : l.list.hub ≡ plan_after (take l.step-index l.plan) l.sample l.fn.list.hub;
  same : l.list.out.ghost_name ≡ l.fn.list.out.ghost_name;
  text : Puts (plan_text (take l.step-index l.plan) l.sample l.fn.list.hub) l.fn.list.out.now l.list.out.now;
}
