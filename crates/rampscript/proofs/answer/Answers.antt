-- `rampscript::answer` meets its contract. The loop: the bytes before the rest were consumed.
-- Assumes nothing.
use mathlib.Core.Path.{◌≡◌, sym, ap}
use mathlib.Core.List.{List}
use Prim.Native.Nat.{ℕ, ◌-◌, ◌<◌}
use native.Mathlib.Omega.{arith}
use Rattle.std.proofs.Common.{rules}
use lib.ListN.{length, take, drop, length-drop}
use lib.Seq.{length-take-le, take_all}
use Rattle.interpreter.specs.declared.Progress.{Progress}
use Rattle.rampscript.proofs.Chunks.{covers, answers-first, answers-ahead, answers_next, answers-failed}
use Rattle.rampscript.proofs.answer.Goals as goal

-- the rest from a place on, all of it
from_on : (rest : List ℕ) (n : ℕ) → take (length rest - n) (drop n rest) ≡ drop n rest
from_on rest n = take_all (length rest - n) (drop n rest) (omega (arith, length-drop n rest))

pub loop-rest-init : goal.loop-rest-init
loop-rest-init c = answers-first _ _

-- what was printed stands in the buffer
pub slice_bounds-out-end : goal.slice_bounds-out-end
slice_bounds-out-end c =
    let f = c.fill-progress in
    covers _ _ _ f.new.out (ap (λ (p : Progress). p.size) f.ensures.progress) f.ensures.out

pub slice_bounds-write-end : goal.slice_bounds-write-end
slice_bounds-write-end c =
    let f = c.fill-progress in
    sym (length-take-le _ _ (covers _ _ _ f.new.out (ap (λ (p : Progress). p.size) f.ensures.progress) f.ensures.out))

pub loop-rest-smaller : goal.loop-rest-smaller
loop-rest-smaller c =
    let f = c.fill-progress in
    let rest = c.loop-rest.rest.now in
    let some : 0 < length rest = search rules in
    let h = answers-ahead c.loop-rest.reader rest f.result f.new.self f.ensures.progress f.ensures.reader some in
    rw (from_on rest f.result.taken) h

pub loop-rest-preserved : goal.loop-rest-preserved
loop-rest-preserved c =
    let f = c.fill-progress in
    let rest = c.loop-rest.rest.now in
    rw (from_on rest f.result.taken) (answers_next c.loop-rest.reader rest f.result f.new.self f.ensures.progress f.ensures.reader _ _ c.loop-rest.invariant)

pub returns-in_err-write : goal.returns-in_err-write
returns-in_err-write c =
    let f = c.fill-progress in
    let rest = c.loop-rest.rest.now in
    let n = answers_next c.loop-rest.reader rest f.result f.new.self f.ensures.progress f.ensures.reader _ _ c.loop-rest.invariant in
    let same : c.from_residual.result ≡ c.write.result = search rules in
    rw same (answers-failed _ _ _ _ n c.write.result (λ e. absurd (search rules)) c.write.ensures)
