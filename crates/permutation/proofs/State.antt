-- The law for the layers above: what comes out of the permutation is a state again, five words of 64 bits.
-- Assumes nothing.
use mathlib.Core.Path.{refl}
use mathlib.Core.List.{List}
use Prim.Native.Nat.{ℕ, zero, suc, ◌-◌, ◌^◌, ◌≤◌, ◌<◌, min}
use lib.Dec.{T, leb, lit≤}
use lib.Bits.{bit_xor, xor_lt}
use Rattle.word.specs.Word.{bit, word, column, rotr}
use Rattle.word.proofs.Bits.{bit-lt, word_lt}
use Rattle.word.proofs.Rotation.{rotr-lt}
use Rattle.permutation.specs.Permutation.{add_constant, sbox, at_every_place, substitute, mix, diffuse, round, last_rounds, permute}
use Rattle.permutation.specs.State.{State}

mix-lt : (m n x : ℕ) → m ≤ 64 → n ≤ 64 → x < 2 ^ 64 → mix m n x < 2 ^ 64
unfolding mix
mix-lt m n x hm hn h =
    xor_lt 64 (bit_xor x (rotr 64 m x)) (rotr 64 n x) (xor_lt 64 x (rotr 64 m x) h (rotr-lt 64 m x hm h)) (rotr-lt 64 n x hn h)

-- nothing is asked of s: the substitution layer makes words of 64 bits of any numbers
pub round-state : (i : ℕ) (s : List ℕ) → State (round i s)
unfolding round diffuse substitute at_every_place
round-state i s = record {
  five = refl;
  words = (mixed _ _ 4 tt tt, (mixed _ _ 3 tt tt, (mixed _ _ 2 tt tt, (mixed _ _ 1 tt tt, (mixed _ _ 0 tt tt, tt)))));
}
  where
    placed : (b : ℕ) → ℕ
    placed b = word 64 (λ j. bit b (sbox (column j (add_constant i s))))

    mixed : (m n b : ℕ) → T (leb m 64) → T (leb n 64) → mix m n (placed b) < 2 ^ 64
    mixed m n b hm hn =
        mix-lt m n (placed b) (lit≤ hm) (lit≤ hn) (word_lt 64 (λ j. bit b (sbox (column j (add_constant i s)))) (λ j. bit-lt b (sbox (column j (add_constant i s)))))

-- a state stays a state through n rounds
last-state : (n : ℕ) (s : List ℕ) → State s → State (last_rounds n s)
last-state zero s h = h
last-state (suc n) s h = last-state n (round (12 - suc n) s) (round-state (12 - suc n) s)

pub permute-state : (n : ℕ) (s : List ℕ) → State s → State (permute n s)
unfolding permute
permute-state n s h = last-state (min n 12) s h

-- all twelve rounds make a state of any list
pub twelve-state : (s : List ℕ) → State (permute 12 s)
unfolding permute
twelve-state s = last-state 11 (round 0 s) (round-state 0 s)
