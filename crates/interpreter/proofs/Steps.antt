-- What a byte does to a script that goes on.
-- Assumes nothing.
use mathlib.Core.Path.{◌≡◌}
use mathlib.Core.Bool.{true}
use Prim.Native.Nat.{ℕ, ◌≤◌, ◌<◌}
use lib.ListN.{take}
use borrow.Author.Tests.{ne_eqb, lt-ltb, le-ltb}
use Rattle.script.specs.Text.{newline}
use Rattle.script.specs.Line.{longest_line}
use Rattle.interpreter.specs.declared.Reader.{Reader}
use Rattle.interpreter.specs.Session.{stopped, stepped, after_step, hold, byte_step}

pub newline-step : (r : Reader) → r.session.going ≡ true → byte_step r newline ≡ after_step r (stepped r.session (take r.session.held r.line))
unfolding byte_step
newline-step r e = rw e

pub hold-step : (r : Reader) (b : ℕ) → r.session.going ≡ true → (b ≡ newline → ⊥) → r.session.held < longest_line → byte_step r b ≡ hold r b
unfolding byte_step
hold-step r b e n h = rw (e, ne_eqb b newline n, lt-ltb r.session.held longest_line h)

pub long-step : (r : Reader) (b : ℕ) → r.session.going ≡ true → (b ≡ newline → ⊥) → longest_line ≤ r.session.held
    → byte_step r b ≡ after_step r (stopped r.session)
unfolding byte_step
long-step r b e n h = rw (e, ne_eqb b newline n, le-ltb r.session.held longest_line h)
