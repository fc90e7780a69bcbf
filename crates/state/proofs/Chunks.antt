-- The chunks of eight bytes.
-- Assumes nothing.
use Rattle.std.proofs.Common.{◌≡◌, ◌∙◌, refl, ℕ, zero, suc, ◌+◌, ◌*◌, ◌<◌, List, [], get_or, take, drop, ap, arith}
use lib.Seq.{drop-drop}
use Rattle.std.specs.Simd.{first_chunks}

pub chunk_at : (n j : ℕ) (xs : List ℕ) → j < n → get_or (first_chunks 8 n xs) j [] ≡ take 8 (drop (8 * j) xs)
chunk_at zero j xs l = absurd (omega arith)
chunk_at (suc n) zero xs l = refl
chunk_at (suc n) (suc j) xs l =
    let next : 8 + 8 * j ≡ 8 * suc j = omega arith in
    chunk_at n j (drop 8 xs) (omega arith) ∙ ap (take 8) (drop-drop (8 * j) 8 xs ∙ ap (λ (k : ℕ). drop k xs) next)
