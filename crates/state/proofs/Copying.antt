-- Bytes of the state written to a list from its front on.
-- Assumes nothing.
use mathlib.Core.Path.{◌≡◌, sym, ap₂, ◌∙◌}
use mathlib.Core.List.{List, ◌++◌}
use Prim.Native.Nat.{ℕ, ◌+◌}
use Rattle.word.specs.Bytes.{bytes_from}
use Rattle.word.proofs.Bytes.{bytes_from-add}

-- the next bytes stand behind those that are written already
pub copied_next : (l vs : List ℕ) (k i n : ℕ) (ws : List ℕ) → l ≡ bytes_from k i ws → vs ≡ bytes_from (k + i) n ws → l ++ vs ≡ bytes_from k (i + n) ws
copied_next l vs k i n ws before next = ap₂ (λ (a b : List ℕ). a ++ b) before next ∙ sym (bytes_from-add i n k ws)
