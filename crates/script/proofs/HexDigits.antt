-- Hexadecimal digits: what is written is read back, and what is read is written so. 48 is `0`, 57 `9`, 97 `a`, and 102 `f`.
-- Assumes nothing.
use mathlib.Core.Path.{◌≡◌, refl, sym, ap, ◌∙◌}
use mathlib.Core.Logic.{◌⊎◌, inl, inr}
use mathlib.Core.Bool.{true, ◌&&◌, false≢true}
use mathlib.Core.List.{List, [], ◌∷◌}
use Prim.Native.Nat.{ℕ, ◌+◌, ◌-◌, ◌*◌, ◌/◌, ◌%◌, ◌≤◌, ◌<◌}
use native.Mathlib.Omega.{arith}
use native.Mathlib.Decide.{dec_le, dec_lt}
use lib.Dec.{ltb}
use lib.ListN.{length}
use borrow.Author.Tests.{lt-ltb, le-ltb, le-leb, lt-leb, ltb-true}
use Rattle.script.specs.Hex.{nibble, digit_of, hex_pairs, decoded, hex_of, bytes_text}
use Rattle.script.specs.Line.{most_bytes, AllBytes}
use Rattle.script.proofs.Texts.{and_left, and_right}

-- ---- a digit and its value

pub nibble_digit : (c : ℕ) → 48 ≤ c → c ≤ 57 → nibble c ≡ c - 48
unfolding nibble
nibble_digit c h k = rw (le-leb 48 c h, le-leb c 57 k)

pub nibble_letter : (c : ℕ) → 97 ≤ c → c ≤ 102 → nibble c ≡ c - 97 + 10
unfolding nibble
nibble_letter c h k = rw (le-leb 48 c (omega arith), lt-leb c 57 (omega arith), le-leb 97 c h, le-leb c 102 k)

nibble-low : (c : ℕ) → c < 48 → nibble c ≡ 16
unfolding nibble
nibble-low c h = rw (lt-leb 48 c h, lt-leb 97 c (omega arith))

nibble-between : (c : ℕ) → 57 < c → c < 97 → nibble c ≡ 16
unfolding nibble
nibble-between c h k = rw (le-leb 48 c (omega arith), lt-leb c 57 h, lt-leb 97 c k)

nibble-high : (c : ℕ) → 102 < c → nibble c ≡ 16
unfolding nibble
nibble-high c h = rw (le-leb 48 c (omega arith), lt-leb c 57 (omega arith), le-leb 97 c (omega arith), lt-leb c 102 h)

-- a byte that is no digit
pub nibble-other : (c : ℕ) → (c < 48) ⊎ (57 < c) → (c < 97) ⊎ (102 < c) → nibble c ≡ 16
nibble-other c (inl h) k = nibble-low c h
nibble-other c (inr h) (inl k) = nibble-between c h k
nibble-other c (inr h) (inr k) = nibble-high c k

-- a digit is one of ten or one of six
pub digit_least : (c : ℕ) → nibble c < 16 → c ≤ 57 → 48 ≤ c
digit_least c h k = go (dec_le 48 c)
  where
    go : Dec (48 ≤ c) → 48 ≤ c
    go (yes l) = l
    go (no l) = absurd (omega (arith, nibble-low c (omega arith)))

pub letter_range : (c : ℕ) → nibble c < 16 → 57 < c → (97 ≤ c) × (c ≤ 102)
letter_range c h k = go (dec_le 97 c) (dec_le c 102)
  where
    go : Dec (97 ≤ c) → Dec (c ≤ 102) → (97 ≤ c) × (c ≤ 102)
    go (yes l) (yes m) = (l, m)
    go (yes l) (no m) = absurd (omega (arith, nibble-high c (omega arith)))
    go (no l) m = absurd (omega (arith, nibble-between c k (omega arith)))

digit_of_digit : (n : ℕ) → n < 10 → digit_of n ≡ 48 + n
unfolding digit_of
digit_of_digit n h = rw (lt-ltb n 10 h)

digit_of_letter : (n : ℕ) → 10 ≤ n → digit_of n ≡ 97 + (n - 10)
unfolding digit_of
digit_of_letter n h = rw (le-ltb n 10 h)

nibble-digit_of : (n : ℕ) → n < 16 → nibble (digit_of n) ≡ n
nibble-digit_of n h = go (dec_lt n 10)
  where
    go : Dec (n < 10) → nibble (digit_of n) ≡ n
    go (yes k) = rw (digit_of_digit n k) (nibble_digit (48 + n) (omega arith) (omega arith) ∙ omega arith)
    go (no k) = rw (digit_of_letter n (omega arith)) (nibble_letter (97 + (n - 10)) (omega arith) (omega arith) ∙ omega arith)

digit_of-nibble : (c : ℕ) → nibble c < 16 → digit_of (nibble c) ≡ c
digit_of-nibble c h = go (dec_le c 57)
  where
    go : Dec (c ≤ 57) → digit_of (nibble c) ≡ c
    go (yes k) = let l = digit_least c h k in rw (nibble_digit c l k) (digit_of_digit (c - 48) (omega arith) ∙ omega arith)
    go (no k) =
        let l = letter_range c h (omega arith) in
        rw (nibble_letter c l.0 l.1) (digit_of_letter (c - 97 + 10) (omega arith) ∙ omega arith)

-- ---- texts of digits

pub hex-length : (bs : List ℕ) → length (hex_of bs) ≡ 2 * length bs
unfolding hex_of
hex-length [] = refl
hex-length (b ∷ bs) = omega (arith, hex-length bs)

-- bytes are written as pairs, and read back
pub hex-is-pairs : (bs : List ℕ) → AllBytes bs → hex_pairs (hex_of bs) ≡ true
unfolding hex_of hex_pairs AllBytes
hex-is-pairs [] h = refl
hex-is-pairs (b ∷ bs) h =
    let p = nibble-digit_of (b / 16) (omega (arith, h.0)) in
    let q = nibble-digit_of (b % 16) (omega arith) in
    rw (p, q, lt-ltb (b / 16) 16 (omega (arith, h.0)), lt-ltb (b % 16) 16 (omega arith)) (hex-is-pairs bs h.1)

same_first : {x y : ℕ} (s : List ℕ) → x ≡ y → x ∷ s ≡ y ∷ s
same_first s e = ap (λ (b : ℕ). b ∷ s) e

pub hex-decoded : (bs : List ℕ) → AllBytes bs → decoded (hex_of bs) ≡ bs
unfolding hex_of decoded AllBytes
hex-decoded [] h = refl
hex-decoded (b ∷ bs) h =
    let p = nibble-digit_of (b / 16) (omega (arith, h.0)) in
    let q = nibble-digit_of (b % 16) (omega arith) in
    rw (p, q, hex-decoded bs h.1) (same_first bs (omega arith))

-- the first of some pairs, and the others
module _ (a b : ℕ) (s : List ℕ) (e : hex_pairs (a ∷ b ∷ s) ≡ true) where
  pairs : ltb (nibble a) 16 && (ltb (nibble b) 16 && hex_pairs s) ≡ true
  unfolding hex_pairs
  pairs = e

  without_high : ltb (nibble b) 16 && hex_pairs s ≡ true
  without_high = and_right (ltb (nibble a) 16) (ltb (nibble b) 16 && hex_pairs s) pairs

  pub high_digit : nibble a < 16
  high_digit = ltb-true _ _ (and_left (ltb (nibble a) 16) (ltb (nibble b) 16 && hex_pairs s) pairs)

  pub low_digit : nibble b < 16
  low_digit = ltb-true _ _ (and_left (ltb (nibble b) 16) (hex_pairs s) without_high)

  pub other-pairs : hex_pairs s ≡ true
  other-pairs = and_right (ltb (nibble b) 16) (hex_pairs s) without_high

-- pairs are read as bytes, and written back
pub decoded-hex : (s : List ℕ) → hex_pairs s ≡ true → hex_of (decoded s) ≡ s
unfolding decoded hex_of hex_pairs
decoded-hex [] e = refl
decoded-hex (a ∷ []) e = absurd (false≢true e)
decoded-hex (a ∷ b ∷ s) e =
    let p = high_digit a b s e in
    let q = low_digit a b s e in
    let h : (nibble a * 16 + nibble b) / 16 ≡ nibble a = omega arith in
    let l : (nibble a * 16 + nibble b) % 16 ≡ nibble b = omega arith in
    rw (h, l, digit_of-nibble a p, digit_of-nibble b q, decoded-hex s (other-pairs a b s e))

pub decoded-bytes : (s : List ℕ) → hex_pairs s ≡ true → AllBytes (decoded s)
unfolding decoded AllBytes
decoded-bytes [] e = tt
decoded-bytes (a ∷ []) e = tt
decoded-bytes (a ∷ b ∷ s) e =
    let p = high_digit a b s e in
    let q = low_digit a b s e in
    (omega arith, decoded-bytes s (other-pairs a b s e))

pub decoded-length : (s : List ℕ) → hex_pairs s ≡ true → 2 * length (decoded s) ≡ length s
decoded-length s e = sym (hex-length (decoded s)) ∙ ap length (decoded-hex s e)

-- at most so many bytes are at most twice as many digits, and `-` is one
pub bytes-text-long : (bs : List ℕ) → length bs ≤ most_bytes → length (bytes_text bs) ≤ 2 * most_bytes
unfolding bytes_text
bytes-text-long [] h = omega arith
bytes-text-long (b ∷ bs) h = omega (arith, hex-length (b ∷ bs))
