-- Laws of the messages' lengths.
-- Assumes nothing.
use mathlib.Core.Bool.{Bool, true, false, true≢false}
use mathlib.Core.Path.{◌≡◌, refl, sym, ◌∙◌}
use Prim.Native.Nat.{ℕ, ◌≤◌, ◌<◌}
use native.Mathlib.Omega.{arith}
use native.Mathlib.Decide.{dec_le}
use borrow.Author.Tests.{leb-true}
use lib.Dec.{leb}
use lib.ListN.{length, get_or}
use Rattle.std.specs.List.{list_all}
use Rattle.std.proofs.lemmas.List.{get_or_past}
use Rattle.std.proofs.lemmas.List.Folds.{list_all_at}
use Rattle.vectors.specs.Messages.{lengths, tagged}

-- no message is longer than 1,024 bytes
pub lengths-most : (i d : ℕ) → i < length lengths → get_or lengths i d ≤ 1024
unfolding lengths
lengths-most i d h = go (leb (get_or lengths i d) 1024) refl
  where
    all : list_all (λ (n : ℕ). leb n 1024) lengths ≡ true
    all = refl

    go : (t : Bool) → leb (get_or lengths i d) 1024 ≡ t → get_or lengths i d ≤ 1024
    go true e = leb-true _ _ e
    go false e = absurd (true≢false (sym all ∙ list_all_at (λ (n : ℕ). leb n 1024) lengths i d h e))

-- nor is one that tags of all lengths are given for, and past their end stands 0
pub tagged-most : (i : ℕ) → get_or tagged i 0 ≤ 1024
unfolding tagged
tagged-most i = go (dec_le (length tagged) i)
  where
    all : list_all (λ (n : ℕ). leb n 1024) tagged ≡ true
    all = refl

    one : i < length tagged → (t : Bool) → leb (get_or tagged i 0) 1024 ≡ t → get_or tagged i 0 ≤ 1024
    one h true e = leb-true _ _ e
    one h false e = absurd (true≢false (sym all ∙ list_all_at (λ (n : ℕ). leb n 1024) tagged i 0 h e))

    go : Dec (length tagged ≤ i) → get_or tagged i 0 ≤ 1024
    go (yes past) = rw (get_or_past tagged i 0 past) (omega arith)
    go (no h) = one (omega arith) (leb (get_or tagged i 0) 1024) refl
