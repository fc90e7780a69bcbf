-- No refusal has the number 0, which an accepted call is answered with, and no two have one number: so an answer's number tells the refusal.
-- Assumes nothing.
use mathlib.Core.Bool.{cond}
use mathlib.Core.Path.{◌≡◌, refl, sym, ap, ◌∙◌}
use mathlib.Core.Logic.{◌≢◌}
use Prim.Native.Nat.{ℕ}
use native.Mathlib.Omega.{arith}
use lib.Dec.{eqb}
use Rattle.checks.specs.declared.refusal.Refusal.{Refusal}
use Rattle.checks.specs.declared.refusal.Refusal.TheVariants.{NoMode, KeyLength, PastEnd, TagLength, MessageLength, OutputLength, RowLength, NeverIssued, Closed, NoPlace, AllIssued, FeedingEnded, FeedLimit, DrawLimit, NoTags, NamedTagLength}
use Rattle.checks.specs.Refusals.{refusal_number}

pub refusal_number-positive : (e : Refusal) → refusal_number e ≢ 0
refusal_number-positive NoMode h = omega (arith, h)
refusal_number-positive KeyLength h = omega (arith, h)
refusal_number-positive PastEnd h = omega (arith, h)
refusal_number-positive TagLength h = omega (arith, h)
refusal_number-positive MessageLength h = omega (arith, h)
refusal_number-positive OutputLength h = omega (arith, h)
refusal_number-positive RowLength h = omega (arith, h)
refusal_number-positive NeverIssued h = omega (arith, h)
refusal_number-positive Closed h = omega (arith, h)
refusal_number-positive NoPlace h = omega (arith, h)
refusal_number-positive AllIssued h = omega (arith, h)
refusal_number-positive FeedingEnded h = omega (arith, h)
refusal_number-positive FeedLimit h = omega (arith, h)
refusal_number-positive DrawLimit h = omega (arith, h)
refusal_number-positive NoTags h = omega (arith, h)
refusal_number-positive NamedTagLength h = omega (arith, h)

-- the refusal that has a number; the last one where none has
abbrev pub numbered : ℕ → Refusal
numbered n =
    cond (eqb n 1) NoMode (cond (eqb n 2) KeyLength (cond (eqb n 3) PastEnd (
    cond (eqb n 4) TagLength (cond (eqb n 5) MessageLength (cond (eqb n 6) OutputLength (
    cond (eqb n 7) RowLength (cond (eqb n 11) NeverIssued (cond (eqb n 12) Closed (
    cond (eqb n 13) NoPlace (cond (eqb n 14) AllIssued (cond (eqb n 15) FeedingEnded (
    cond (eqb n 16) FeedLimit (cond (eqb n 17) DrawLimit (cond (eqb n 18) NoTags NamedTagLength))))))))))))))

pub numbered-back : (e : Refusal) → numbered (refusal_number e) ≡ e
numbered-back NoMode = refl
numbered-back KeyLength = refl
numbered-back PastEnd = refl
numbered-back TagLength = refl
numbered-back MessageLength = refl
numbered-back OutputLength = refl
numbered-back RowLength = refl
numbered-back NeverIssued = refl
numbered-back Closed = refl
numbered-back NoPlace = refl
numbered-back AllIssued = refl
numbered-back FeedingEnded = refl
numbered-back FeedLimit = refl
numbered-back DrawLimit = refl
numbered-back NoTags = refl
numbered-back NamedTagLength = refl

pub numbers-apart : (a b : Refusal) → refusal_number a ≡ refusal_number b → a ≡ b
numbers-apart a b e = sym (numbered-back a) ∙ ap numbered e ∙ numbered-back b
