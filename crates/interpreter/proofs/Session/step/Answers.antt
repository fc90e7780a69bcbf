-- `interpreter::Session::step` meets its contract, by what the line means. A call is made with the part of the buffer that the line was read into.
-- Assumes nothing.
use mathlib.Core.Path.{sym}
use lib.Seq.{length-take-le}
use Prim.Native.Nat.{◌≤◌}
use native.Mathlib.Omega.{arith}
use lib.ListN.{length}
use Rattle.script.proofs.ParsedLines.{parsed-size}
use Rattle.interpreter.specs.Script.{names}
use Rattle.interpreter.proofs.Advancing.{puts_none}
use Rattle.interpreter.proofs.Calling.{answer-step}
use Rattle.interpreter.proofs.Meaning.{told-same, told-other, step-names, step-no_names, step_call}
use Rattle.interpreter.proofs.Session.step.Goals as goal

pub returns-then-ne : goal.returns-then-ne
returns-then-ne c =
    let a = c.args in
    let h = told-other a.line.now names _ (rw c.as_slice.ensures at c.ne.ensures) c.if-ne.true in
    rw (step-no_names a.self.now a.line.now c.if-self-eq1.true h) c.stop.ensures

pub returns-then-self-eq1 : goal.returns-then-self-eq1
returns-then-self-eq1 c =
    let a = c.args in
    let h = told-same a.line.now names _ (rw c.as_slice.ensures at c.ne.ensures) c.if-ne.false in
    rw (step-names a.self.now a.line.now c.if-self-eq1.true h) (record { session = c.go_on.ensures; text = puts_none a.out.now c.requires })

pub slice_bounds-bytes-end : goal.slice_bounds-bytes-end
slice_bounds-bytes-end c =
    let p = c.in-Some.parsed in
    sym (length-take-le p.size c.parse_line.new.buffer (omega (arith, parsed-size c.args.line.now p (sym c.in-Some.ensures.answer), c.parse_line.array_long)))

pub returns : goal.returns
returns c =
    let a = c.args in
    let p = c.in-Some.parsed in
    let read = c.parse_line.new.buffer in
    let fits : p.size ≤ length read = omega (arith, parsed-size a.line.now p (sym c.in-Some.ensures.answer), c.parse_line.array_long) in
    rw (step_call a.self.now a.line.now c.if-self-eq1.false c.if-self-gt-MOST_LINES.false _ (sym c.in-Some.ensures.line))
    (answer-step a.self.now _ _ _ read fits c.call-reply.result c.call-reply.new.bytes c.call-reply.ensures.reply c.call-reply.ensures.bytes
    _ _ _ c.go_on-2.ensures c.write_line.ensures)
