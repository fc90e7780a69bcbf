-- The beginning and the end of a script.
-- Assumes nothing.
use mathlib.Core.Path.{◌≡◌, ◌∙◌}
use mathlib.Core.Bool.{false}
use mathlib.Core.List.{List, [], ◌∷◌, append-nil}
use Prim.Native.Nat.{ℕ, ◌≤◌}
use native.Mathlib.Omega.{arith}
use lib.ListN.{length}
use lib.Seq.{sets-eq}
use Rattle.checks.specs.Buffers.{written}
use Rattle.script.specs.Text.{put, past, Wrote, newline}
use Rattle.interpreter.specs.declared.Reader.{Reader}
use Rattle.interpreter.specs.Session.{byte_step, consumed, complete, finished, filled, filled_from}

-- a text that fits, written from the start on
pub wrote-first : (out text last : List ℕ) (next : ℕ) → length text ≤ length out → Wrote out 0 text last next → (next ≡ length text) × (last ≡ written out 0 text)
unfolding written put past
wrote-first out text last next h w = (omega (arith, w.place), w.bytes ∙ sets-eq text out 0 (omega arith))

-- a newline that is missing is supplied
pub filled_newline : (r : Reader) → complete r.session ≡ false
    → filled_from r (newline ∷ []) ≡ record { reader = (finished r).reader; text = (finished r).text; left = [] }
unfolding finished filled_from filled consumed
filled_newline r e = rw (e, append-nil (byte_step r newline).text)
