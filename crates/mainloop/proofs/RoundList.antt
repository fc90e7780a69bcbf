-- The calls of a loop, one more at each turn, and that no draw is left behind the last.
-- Assumes nothing.
use mathlib.Core.Path.{◌≡◌, refl, ap, ◌∙◌}
use mathlib.Core.List.{List, [], ◌∷◌, ◌++◌}
use Prim.Native.Nat.{ℕ, zero, suc, ◌+◌, ◌-◌, ◌≤◌}
use native.Mathlib.Omega.{arith}
use Rattle.calls.specs.Call.{Call, Feed, Draw, Close}
use Rattle.calls.proofs.Repeats.{none_left}
use Rattle.mainloop.specs.Rounds.{feed_ticket, close_ticket, rounds_from, lent_out, draws_from}

-- ---- rounds

rounds_more : (i n : ℕ) (bytes : List ℕ) → rounds_from i (suc n) bytes ≡ rounds_from i n bytes ++ (Feed (feed_ticket (i + n)) bytes ∷ Close (close_ticket (i + n)) ∷ [])
unfolding rounds_from
rounds_more i zero bytes = let e : i + 0 ≡ i = omega arith in rw e
rounds_more i (suc n) bytes =
    let e : suc i + n ≡ i + suc n = omega arith in
    ap (λ (cs : List Call). Feed (feed_ticket i) bytes ∷ Close (close_ticket i) ∷ cs) (rounds_more (suc i) n bytes ∙ rw e)

pub no_round : (bytes : List ℕ) → rounds_from 0 0 bytes ≡ []
unfolding rounds_from
no_round bytes = refl

pub round_next : (i : ℕ) (bytes : List ℕ) → rounds_from 0 (i + 1) bytes ≡ rounds_from 0 i bytes ++ (Feed (feed_ticket i) bytes ∷ Close (close_ticket i) ∷ [])
round_next i bytes =
    let e : i + 1 ≡ suc i = omega arith in
    let k : 0 + i ≡ i = omega arith in
    rw e (rounds_more 0 i bytes ∙ rw k)

-- ---- draws

draws_more : (t n : ℕ) → draws_from t (suc n) ≡ draws_from t n ++ (Draw (t + n) lent_out 0 16 ∷ [])
unfolding draws_from
draws_more t zero = let e : t + 0 ≡ t = omega arith in rw e
draws_more t (suc n) =
    let e : suc t + n ≡ t + suc n = omega arith in
    ap (λ (cs : List Call). Draw t lent_out 0 16 ∷ cs) (draws_more (suc t) n ∙ rw e)

pub no_draw : draws_from 1 0 ≡ []
unfolding draws_from
no_draw = refl

pub draw_next : (t : ℕ) → 1 ≤ t → draws_from 1 (t + 1 - 1) ≡ draws_from 1 (t - 1) ++ (Draw t lent_out 0 16 ∷ [])
draw_next t h =
    let e : t + 1 - 1 ≡ suc (t - 1) = omega arith in
    let k : 1 + (t - 1) ≡ t = omega arith in
    rw e (draws_more 1 (t - 1) ∙ rw k)

-- no draw is left
pub no_draw_left : (t : ℕ) → 26 ≤ t → draws_from t (26 - t) ≡ []
unfolding draws_from
no_draw_left t l = rw (none_left 26 t l)

-- by these, the rounds that were made and those that are made next are one list; and the draws
pub ruleset rounds_made = (no_round, round_next)

pub ruleset draws_made = (no_draw, draw_next)
