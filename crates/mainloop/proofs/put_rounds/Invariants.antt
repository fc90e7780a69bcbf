-- `mainloop::put_rounds` meets its contract. The loop's invariant: the rounds before this one are listed.
-- Assumes nothing.
use lib.ListN.{take}
use Rattle.script.specs.Writing.{Puts}
use Rattle.mainloop.specs.Kept.{rounds_text}
use Rattle.mainloop.proofs.put_rounds.Given as goal

abbrev pub invariant-loop-i : goal.invariant-loop-i
invariant-loop-i l = Puts (rounds_text 0 l.bytes (take l.i l.answers)) l.fn.out l.out
