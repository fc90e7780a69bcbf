-- Decimal numbers: what is written is read back, and what is read is written so.
-- Assumes nothing.
use mathlib.Core.Path.{◌≡◌, refl, sym, ap, ◌∙◌, subst⁻¹}
use mathlib.Core.Bool.{true, false≢true}
use mathlib.Core.List.{List, [], ◌∷◌, ◌++◌, append-nil}
use Prim.Native.Nat.{ℕ, zero, suc, ◌+◌, ◌-◌, ◌*◌, ◌/◌, ◌%◌, ◌^◌, ◌≤◌, ◌<◌}
use native.Mathlib.Nat.{pow-suc, add-zero, add-suc, suc-add, mul_assoc, mul_comm, mul-le-mul_right}
use native.Mathlib.Omega.{arith}
use native.Mathlib.Decide.{dec_le, dec_lt}
use lib.Dec.{eqb, leb}
use lib.ListN.{length}
use borrow.Author.Tests.{lt-ltb, le-ltb, ne_eqb, leb-true, eqb-false, not-true}
use Rattle.std.specs.Prelude.{Some}
use Rattle.script.specs.Number.{most_number, is_digit, all_digits, plain_start, value_from, number_of, spelled, decimal}
use Rattle.script.proofs.Texts.{and_left, and_right}
use Rattle.script.proofs.Numbers.{is_digit_lem, below_tenth, decimal-small, a-number, value-least}

-- ---- what is spelled is read back

digit_on : (d : ℕ) (r : List ℕ) → d < 10 → all_digits ((48 + d) ∷ r) ≡ all_digits r
unfolding all_digits
digit_on d r h = rw (is_digit_lem (48 + d) (omega arith) (omega arith))

-- n is below ten, or the last digit goes first
small_or : (n k : ℕ) (r : List ℕ) → n < 10 → spelled (suc k) n r ≡ (48 + n) ∷ r
unfolding spelled
small_or n k r h = rw (lt-ltb n 10 h)

large_or : (n k : ℕ) (r : List ℕ) → 10 ≤ n → spelled (suc k) n r ≡ spelled k (n / 10) ((48 + n % 10) ∷ r)
unfolding spelled
large_or n k r h = rw (le-ltb n 10 h)

-- what holds in both cases holds
by_size : (P : List ℕ → Type 0) (k n : ℕ) (r : List ℕ) → (n < 10 → P ((48 + n) ∷ r)) → (10 ≤ n → P (spelled k (n / 10) ((48 + n % 10) ∷ r)))
    → P (spelled (suc k) n r)
by_size P k n r f g = go (dec_lt n 10)
  where
    go : Dec (n < 10) → P (spelled (suc k) n r)
    go (yes h) = subst⁻¹ P (small_or n k r h) (f h)
    go (no h) = subst⁻¹ P (large_or n k r (omega arith)) (g (omega arith))

spelled_digits : (k n : ℕ) (r : List ℕ) → all_digits (spelled k n r) ≡ all_digits r
unfolding spelled
spelled_digits zero n r = refl
spelled_digits (suc k) n r =
    by_size (λ (s : List ℕ). all_digits s ≡ all_digits r) k n r
    (λ h. digit_on n r h)
    (λ h. spelled_digits k (n / 10) ((48 + n % 10) ∷ r) ∙ digit_on (n % 10) r (omega arith))

spelled-value : (k n : ℕ) (r : List ℕ) → n < 10 ^ k → value_from 0 (spelled k n r) ≡ value_from n r
unfolding spelled value_from
spelled-value zero n r h = ap (λ (v : ℕ). value_from v r) (omega arith)
spelled-value (suc k) n r h =
    by_size (λ (s : List ℕ). value_from 0 s ≡ value_from n r) k n r
    (λ s. ap (λ (v : ℕ). value_from v r) (omega arith))
    (λ s. spelled-value k (n / 10) ((48 + n % 10) ∷ r) (below_tenth n k h) ∙ ap (λ (v : ℕ). value_from v r) (omega arith))

plain_digit : (b : ℕ) (r : List ℕ) → 48 < b → plain_start (b ∷ r) ≡ true
unfolding plain_start
plain_digit b [] h = refl
plain_digit b (c ∷ r) h = rw (ne_eqb b 48 (λ e. omega arith))

spelled-plain : (k n : ℕ) (r : List ℕ) → 0 < n → n < 10 ^ k → plain_start (spelled k n r) ≡ true
spelled-plain zero n r p h = absurd (omega arith)
spelled-plain (suc k) n r p h =
    by_size (λ (s : List ℕ). plain_start s ≡ true) k n r
    (λ s. plain_digit (48 + n) r (omega arith))
    (λ s. spelled-plain k (n / 10) ((48 + n % 10) ∷ r) (omega arith) (below_tenth n k h))

pub decimal_digits : (n : ℕ) → all_digits (decimal n) ≡ true
unfolding decimal all_digits
decimal_digits n = spelled_digits 20 n []

decimal-plain : (n : ℕ) → n < 10 ^ 20 → plain_start (decimal n) ≡ true
unfolding decimal plain_start
decimal-plain n h = go (dec_lt 0 n)
  where
    go : Dec (0 < n) → plain_start (decimal n) ≡ true
    go (yes p) = spelled-plain 20 n [] p h
    go (no p) = rw (decimal-small n (omega arith))

decimal-value : (n : ℕ) → n < 10 ^ 20 → value_from 0 (decimal n) ≡ n
unfolding decimal value_from
decimal-value n h = spelled-value 20 n [] h

pub decimal-read : (n : ℕ) → n ≤ most_number → number_of (decimal n) ≡ Some n
decimal-read n h =
    let e : value_from 0 (decimal n) ≡ n = decimal-value n (omega arith) in
    a-number (decimal n) (decimal-plain n (omega arith)) (decimal_digits n) (omega arith) ∙ ap Some e

spelled-long : (k n : ℕ) (r : List ℕ) → length (spelled k n r) ≤ k + length r
unfolding spelled
spelled-long zero n r = omega arith
spelled-long (suc k) n r =
    by_size (λ (s : List ℕ). length s ≤ suc k + length r) k n r
    (λ s. omega arith)
    (λ s. omega (arith, spelled-long k (n / 10) ((48 + n % 10) ∷ r)))

-- a number has at most 20 digits
pub decimal-long : (n : ℕ) → length (decimal n) ≤ 20
unfolding decimal
decimal-long n = omega (arith, spelled-long 20 n [])

-- ---- what is read is spelled so

pub digit_range : (b : ℕ) → is_digit b ≡ true → (48 ≤ b) × (b ≤ 57)
unfolding is_digit
digit_range b e = (leb-true 48 b (and_left (leb 48 b) (leb b 57) e), leb-true b 57 (and_right (leb 48 b) (leb b 57) e))

first_digit : (b : ℕ) (s : List ℕ) → all_digits (b ∷ s) ≡ true → (48 ≤ b) × (b ≤ 57)
unfolding all_digits
first_digit b s e = digit_range b (and_left (is_digit b) (all_digits s) e)

other_digits : (b : ℕ) (s : List ℕ) → all_digits (b ∷ s) ≡ true → all_digits s ≡ true
unfolding all_digits
other_digits b s e = and_right (is_digit b) (all_digits s) e

-- digits are spelled one after the other
climb : (s : List ℕ) (a k : ℕ) (r : List ℕ) → 1 ≤ a → all_digits s ≡ true → spelled (k + length s) (value_from a s) r ≡ spelled k a (s ++ r)
unfolding value_from
climb [] a k r p e = rw (add-zero k)
climb (d ∷ s) a k r p e =
    let w = first_digit d s e in
    let a' : ℕ = a * 10 + (d - 48) in
    let q : a' / 10 ≡ a = omega arith in
    let u : 48 + a' % 10 ≡ d = omega arith in
    ap (λ (j : ℕ). spelled j (value_from a' s) r) (add-suc k (length s) ∙ sym (suc-add k (length s)))
    ∙ climb s a' (suc k) r (omega arith) (other_digits d s e)
    ∙ large_or a' k (s ++ r) (omega arith)
    ∙ ap (λ (j : ℕ). spelled k j ((48 + a' % 10) ∷ (s ++ r))) q
    ∙ ap (λ (j : ℕ). spelled k a (j ∷ (s ++ r))) u

-- k digits after a make a number of at least a times 10 ^ k
grows : (k : ℕ) (s : List ℕ) (a : ℕ) → k ≤ length s → a * 10 ^ k ≤ value_from a s
unfolding value_from
grows zero s a h = omega (arith, value-least s a)
grows (suc k) [] a h = absurd (omega arith)
grows (suc k) (d ∷ s) a h =
    let p : a * 10 ^ suc k ≡ a * 10 * 10 ^ k = rw (pow-suc, mul_comm (10 ^ k) 10) (sym (mul_assoc a 10 (10 ^ k))) in
    let q : a * 10 * 10 ^ k ≤ (a * 10 + (d - 48)) * 10 ^ k = mul-le-mul_right (10 ^ k) (omega arith) in
    omega (arith, p, q, grows k s (a * 10 + (d - 48)) (omega arith))

not-long : (s : List ℕ) (a : ℕ) → 1 ≤ a → value_from a s ≤ most_number → length s ≤ 19
not-long s a p h = go (dec_le (length s) 19)
  where
    go : Dec (length s ≤ 19) → length s ≤ 19
    go (yes q) = q
    go (no q) = absurd (omega (arith, grows 20 s a (omega arith)))

positive : (d : ℕ) → 48 ≤ d → (d ≡ 48 → ⊥) → 1 ≤ 0 * 10 + (d - 48)
positive d h n = go (dec_le d 48)
  where
    go : Dec (d ≤ 48) → 1 ≤ 0 * 10 + (d - 48)
    go (yes q) = absurd (n (omega arith))
    go (no q) = omega arith

pub spelled_back : (s : List ℕ) → plain_start s ≡ true → all_digits s ≡ true → value_from 0 s ≤ most_number → decimal (value_from 0 s) ≡ s
unfolding plain_start value_from decimal
spelled_back [] p e h = absurd (false≢true p)
spelled_back (d ∷ []) p e h =
    let w = first_digit d [] e in
    decimal-small (0 * 10 + (d - 48)) (omega arith) ∙ ap (λ (b : ℕ). b ∷ []) (omega arith)
spelled_back (d ∷ b ∷ s) p e h =
    let w = first_digit d (b ∷ s) e in
    let a : ℕ = 0 * 10 + (d - 48) in
    let pos : 1 ≤ a = positive d w.0 (eqb-false d 48 (not-true (eqb d 48) p)) in
    let short : length (b ∷ s) ≤ 19 = not-long (b ∷ s) a pos h in
    let fuel : suc (19 - length (b ∷ s)) + length (b ∷ s) ≡ 20 = omega arith in
    let head : 48 + a ≡ d = omega arith in
    sym (ap (λ (k : ℕ). spelled k (value_from a (b ∷ s)) []) fuel)
    ∙ climb (b ∷ s) a (suc (19 - length (b ∷ s))) [] pos (other_digits d (b ∷ s) e)
    ∙ small_or a (19 - length (b ∷ s)) ((b ∷ s) ++ []) (omega arith)
    ∙ ap (λ (x : ℕ). x ∷ ((b ∷ s) ++ [])) head
    ∙ ap (λ (r : List ℕ). d ∷ r) (append-nil (b ∷ s))
