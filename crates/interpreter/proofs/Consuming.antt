-- Bytes are consumed one after the other, so that a script's input may be cut anywhere.
-- Assumes nothing.
use mathlib.Core.Path.{◌≡◌, refl, sym, ap, ◌∙◌}
use mathlib.Core.Bool.{false}
use mathlib.Core.List.{List, [], ◌∷◌, ◌++◌, append_assoc}
use Prim.Native.Nat.{ℕ}
use Rattle.interpreter.specs.declared.Reader.{Reader}
use Rattle.interpreter.specs.Session.{Consumed, silent, and_then, byte_step, consumed}
use Rattle.checks.specs.Joined.{joined}
use Rattle.interpreter.specs.Theorems.{consumed_all}

and-then : (s t : List ℕ) (f : Consumed) → and_then s (and_then t f) ≡ and_then (s ++ t) f
and-then s t f = ap (λ (u : List ℕ). record { reader = f.reader; text = u }) (sym (append_assoc s t f.text))

pub consumed_append : (r : Reader) (s t : List ℕ) → consumed r (s ++ t) ≡ and_then (consumed r s).text (consumed (consumed r s).reader t)
unfolding consumed
consumed_append r [] t = refl
consumed_append r (b ∷ s) t =
    ap (and_then (byte_step r b).text) (consumed_append (byte_step r b).reader s t)
    ∙ and-then (byte_step r b).text (consumed (byte_step r b).reader s).text (consumed (consumed (byte_step r b).reader s).reader t)

pub consumed-joined : (r : Reader) (chunks : List (List ℕ)) → consumed_all r chunks ≡ consumed r (joined chunks)
unfolding consumed_all consumed
consumed-joined r [] = refl
consumed-joined r (c ∷ cs) = ap (and_then (consumed r c).text) (consumed-joined (consumed r c).reader cs) ∙ sym (consumed_append r c (joined cs))

-- ---- a script that has stopped

-- bytes do nothing
pub stopped-byte : (r : Reader) (b : ℕ) → r.session.going ≡ false → byte_step r b ≡ silent r
unfolding byte_step
stopped-byte r b e = rw e

pub stopped-consumed : (r : Reader) (s : List ℕ) → r.session.going ≡ false → consumed r s ≡ silent r
unfolding consumed
stopped-consumed r [] e = refl
stopped-consumed r (b ∷ s) e = rw (stopped-byte r b e) (stopped-consumed r s e)
