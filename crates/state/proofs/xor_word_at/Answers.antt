-- `state::xor_word_at` meets its contract.
-- Assumes nothing.
use mathlib.Core.Path.{◌≡◌, sym, ap, ◌∙◌}
use mathlib.Core.List.{List}
use Prim.Native.Nat.{ℕ, ◌+◌, ◌-◌, ◌*◌, ◌/◌, ◌%◌, ◌^◌, ◌<◌}
use native.Mathlib.Omega.{arith}
use Rattle.word.specs.Bytes.{xor_word, xor_from, to_bytes}
use Rattle.word.proofs.WordAt.{shl_twice, xor_word-at}
use Rattle.state.proofs.xor_word_at.Goals as goal

-- what the two xors come to, by the words and the shifts of the code
made : (k x i j n m : ℕ) (ws first r : List ℕ) → x < 2 ^ 64
    → first ≡ xor_word i (x / 2 ^ n) ws → i ≡ k / 8 → n ≡ 8 * (k % 8)
    → r ≡ xor_word j ((((x * 2 ^ m) % 2 ^ 64) * 2 ^ 8) % 2 ^ 64) first → j ≡ k / 8 + 1 → m ≡ 56 - 8 * (k % 8)
    → r ≡ xor_from k (to_bytes 8 x) ws
made k x i j n m ws first r h e i-is n-is e' j-is m-is =
    e' ∙ rw (j-is, m-is, e, i-is, n-is) (ap (λ (y : ℕ). xor_word (k / 8 + 1) y (xor_word (k / 8) (x / 2 ^ (8 * (k % 8))) ws)) (shl_twice x (8 * (k % 8)) (omega arith)))
    ∙ sym (xor_word-at k x ws h)

pub returns : goal.returns
returns c =
    let a = c.args in
    made a.place a.x _ _ _ _ a.words _ _ (omega arith) c.xor_word-first.ensures (omega arith) (omega arith) c.xor_word.ensures (omega arith) (omega arith)
