-- `mainloop::serve` meets its contract. The loop's invariant: the rounds before this one are made, and their answers are kept.
-- Assumes nothing.
use mathlib.Core.Path.{◌≡◌}
use lib.ListN.{take}
use Rattle.std.specs.Prelude.{IsTrue}
use Rattle.calls.specs.Call.{events, final}
use Rattle.hub.specs.Hub.{on_hub}
use Rattle.mainloop.specs.Rounds.{rounds_from}
use Rattle.mainloop.specs.Kept.{events_kept, of_their_calls}
use Rattle.mainloop.proofs.serve.Given as goal

abbrev pub invariant-loop-i : goal.invariant-loop-i
invariant-loop-i g l = record {
  made : l.hub ≡ final on_hub l.fn.hub (rounds_from 0 l.i l.bytes);
  kept : events_kept 0 l.bytes (take l.i l.answers) ≡ events on_hub l.fn.hub (rounds_from 0 l.i l.bytes);
  kinds : IsTrue (of_their_calls (take l.i l.answers));
}
