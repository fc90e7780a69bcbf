-- `interpreter::Reader::fill` meets its contract. The loop: filling what is left goes on from what is in the buffer.
-- Assumes nothing.
use mathlib.Core.Path.{refl, ◌∙◌}
use native.Mathlib.Omega.{arith}
use Rattle.interpreter.proofs.FillLoop.{filling_first, filling_next, filling_done, filling_full, Results}
use Rattle.interpreter.proofs.Reader.fill.Goals.{then-loop-taken-test+else-writer-ge-LONGEST_ANSWER, else-loop-taken-test}
use Rattle.interpreter.proofs.Reader.fill.Goals as goal

pub loop-taken-init : goal.loop-taken-init
loop-taken-init c = (refl, filling_first _ _ _ _ refl refl (omega arith))

pub loop-taken-preserved : goal.loop-taken-preserved
loop-taken-preserved c =
    let i = c.loop-taken.invariant in
    let a = c.advance-taken in
    (a.ensures.wrote.same ∙ i.0, filling_next _ _ _ _ _ _ i.1 a.result a.new.self a.new.out (omega (arith, c.if-writer-ge-LONGEST_ANSWER.true, i.1.room)) a.ensures)

pub returns : goal.returns
returns c =
    let i = c.loop-taken.invariant.1 in
    let r : Results _ _ _ _ _ _ i =
    elim c.loop-taken-test.branch [
      | then-loop-taken-test+else-writer-ge-LONGEST_ANSWER w ↦
          filling_full _ _ _ _ _ _ i w.loop-taken-test.true (omega (arith, w.if-writer-ge-LONGEST_ANSWER.false, i.room))
      | else-loop-taken-test w ↦ filling_done _ _ _ _ _ _ i w.loop-taken-test.false
    ] in
    record { progress = r.0; reader = r.1.0; out = r.1.1 }
