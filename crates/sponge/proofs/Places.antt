-- Numbers counted through in blocks of R: the place of a number in its block, and the block that it is in.
-- Assumes nothing.
use Rattle.std.proofs.Common.{◌≡◌, ℕ, suc, ◌+◌, ◌-◌, ◌*◌, ◌/◌, ◌%◌, ◌<◌, ◌≢◌, sym, ap, ◌∙◌, mod-lt, mod-eq_of_lt, div-add-mod', arith}
use native.Mathlib.Nat.{suc-mod, mod_self, mul-mod_left, div-eq_of_lt-le}
use native.Mathlib.Decide.{dec_lt}

pub suc-less : (n : ℕ) → suc n - 1 ≡ n
suc-less n = omega arith

module _ (R : ℕ) (pos : 0 < R) where
  -- the next number stands one place further, or at the first place after the last
  pub next_place : (n : ℕ) → suc (n % R) < R → suc n % R ≡ suc (n % R)
  next_place n h = suc-mod n R ∙ mod-eq_of_lt h

  pub first-place : (n : ℕ) → suc (n % R) ≡ R → suc n % R ≡ 0
  first-place n e = suc-mod n R ∙ ap (λ (x : ℕ). x % R) e ∙ mod_self R

  -- a first place follows a last one
  pub last-place : (n : ℕ) → suc n % R ≡ 0 → suc (n % R) ≡ R
  last-place n e = go (dec_lt (suc (n % R)) R)
    where
      go : Dec (suc (n % R) < R) → suc (n % R) ≡ R
      go (yes l) =
          let none : suc (n % R) ≡ 0 = sym (next_place n l) ∙ e in
          omega arith
      go (no l) = omega (arith, mod-lt n pos)

  -- another place does not
  pub inner-place : (n : ℕ) → suc n % R ≢ 0 → suc (n % R) < R
  inner-place n d =
      let short : suc (n % R) ≢ R = λ e. d (first-place n e) in
      omega (arith, mod-lt n pos)

  -- the block of the next number: another one at a first place, and else the same
  pub next-block : (n : ℕ) → suc n % R ≡ 0 → suc n / R ≡ suc (n / R)
  next-block n e =
      let last : suc (n % R) ≡ R = last-place n e in
      div-eq_of_lt-le R (omega (arith, div-add-mod' n R)) (omega (arith, div-add-mod' n R))

  pub same_block : (n : ℕ) → suc n % R ≢ 0 → suc n / R ≡ n / R
  same_block n d =
      let inner : suc (n % R) < R = inner-place n d in
      div-eq_of_lt-le R (omega (arith, div-add-mod' n R)) (omega (arith, div-add-mod' n R))

  -- where the block of n ends, the next one begins
  pub block-end : (n : ℕ) → (n + (R - n % R)) % R ≡ 0
  block-end n =
      let whole : n + (R - n % R) ≡ (n / R + 1) * R = omega (arith, div-add-mod' n R, mod-lt n pos) in
      ap (λ (x : ℕ). x % R) whole ∙ mul-mod_left (n / R + 1) R
