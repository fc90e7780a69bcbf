-- What xoring bytes into words means, byte by byte, for the reader of specs/Bytes.antt: byte m of the words is xored with the byte that stands at m, and with
-- nothing where none does.
-- Assumes nothing.
use mathlib.Core.Bool.{Bool, true, false, cond}
use mathlib.Core.Path.{◌≡◌, refl, sym, ap, ◌∙◌}
use mathlib.Core.Logic.{◌≢◌}
use mathlib.Core.List.{List, [], ◌∷◌}
use Prim.Native.Nat.{ℕ, zero, suc, ◌+◌, ◌*◌, ◌-◌, ◌^◌, ◌/◌, ◌%◌, ◌<◌, ◌≤◌}
use native.Mathlib.Omega.{arith}
use native.Mathlib.Nat.{zero-add, zero-div, mod-eq_of_lt, div-eq_of_lt, mul-mod_left, mul_assoc, lt_of_lt_of_le, sub-zero, div-one}
use borrow.Author.Tests.{eqb-true, eqb-false, ne_eqb, ltb-true, ltb-false, le-leb, lt-leb}
use lib.Bits.{bit_xor, xor_shr, xor_mod, xor_zero_r}
use lib.Dec.{eqb, leb, ltb, lit<}
use lib.ListN.{length, get_or, replicate, length-set, length-replicate}
use lib.Pow.{pow_mono, pow-add, shl_lt, shl-shr}
use lib.Seq.{get_or-set_same, get_or-set_other}
use Rattle.word.specs.Bytes.{weight, byte_at, bytes_from, xor_word, xor_at, xor_from, xor_bytes, words_of}
use Rattle.word.proofs.Lists.{zeros-at}
use Rattle.word.proofs.Bytes.{Bytes, by_bytes}
use Rattle.word.proofs.Windows.{words_xored}

-- a byte of an exclusive or
byte_xor : (k x y : ℕ) → bit_xor x y / 2 ^ k % 256 ≡ bit_xor (x / 2 ^ k % 256) (y / 2 ^ k % 256)
byte_xor k x y = ap (λ (z : ℕ). z % 256) (xor_shr x y k) ∙ xor_mod (x / 2 ^ k) (y / 2 ^ k) 8

-- the byte at u of a number that is b at v and nothing else
alone-same : (b u : ℕ) → b < 256 → b * 2 ^ u / 2 ^ u % 256 ≡ b
alone-same b u h = rw (shl-shr b u) (mod-eq_of_lt h)

alone-above : (b u v : ℕ) → b < 256 → 8 + v ≤ u → b * 2 ^ v / 2 ^ u % 256 ≡ 0
alone-above b u v h l = rw (div-eq_of_lt (lt_of_lt_of_le (shl_lt 8 v h) (pow_mono l)))

alone-below : (b u v : ℕ) → 8 + u ≤ v → b * 2 ^ v / 2 ^ u % 256 ≡ 0
alone-below b u v l =
    let e : v ≡ (v - 8 - u) + 8 + u = omega arith in
    rw (
      e,
      pow-add 2 (v - 8 - u + 8) u,
      pow-add 2 (v - 8 - u) 8,
      ← mul_assoc b (2 ^ (v - 8 - u) * 2 ^ 8) (2 ^ u),
      shl-shr (b * (2 ^ (v - 8 - u) * 2 ^ 8)) u,
      ← mul_assoc,
    )
    (mul-mod_left (b * 2 ^ (v - 8 - u)) 256)

-- bytes k and m of one word
alone : (k b m : ℕ) → k / 8 ≡ m / 8 → b < 256 → b * 2 ^ (8 * (7 - k % 8)) / 2 ^ (8 * (7 - m % 8)) % 256 ≡ cond (eqb k m) b 0
alone k b m q h = go (eqb k m) refl (ltb (k % 8) (m % 8)) refl
  where
    go : (c : Bool) → eqb k m ≡ c → (t : Bool) → ltb (k % 8) (m % 8) ≡ t → b * 2 ^ (8 * (7 - k % 8)) / 2 ^ (8 * (7 - m % 8)) % 256 ≡ cond c b 0
    go true z t y = rw (eqb-true k m z) (alone-same b (8 * (7 - m % 8)) h)
    go false z true y = alone-below b (8 * (7 - m % 8)) (8 * (7 - k % 8)) (omega (arith, ltb-true (k % 8) (m % 8) y))
    go false z false y =
        let ne : k ≢ m = eqb-false k m z in
        alone-above b (8 * (7 - m % 8)) (8 * (7 - k % 8)) h (omega (arith, ltb-false (k % 8) (m % 8) y))

-- byte m after b was xored into byte k
pub xored_byte : (k b m : ℕ) (ws : List ℕ) → k / 8 < length ws → b < 256 → byte_at (xor_at k b ws) m ≡ bit_xor (byte_at ws m) (cond (eqb k m) b 0)
unfolding byte_at xor_at xor_word weight
xored_byte k b m ws l h = go (eqb (k / 8) (m / 8)) refl
  where
    go : (c : Bool) → eqb (k / 8) (m / 8) ≡ c → byte_at (xor_at k b ws) m ≡ bit_xor (byte_at ws m) (cond (eqb k m) b 0)
    go false z =
        let ne : k ≢ m = λ e. eqb-false (k / 8) (m / 8) z (ap (λ (n : ℕ). n / 8) e) in
        rw (ne_eqb k m ne, xor_zero_r, get_or-set_other ws (k / 8) (m / 8) _ 0 (λ e. eqb-false (k / 8) (m / 8) z (sym e)))
    go true z =
        let q = eqb-true (k / 8) (m / 8) z in
        rw (
          ← q,
          get_or-set_same ws (k / 8) (bit_xor (get_or ws (k / 8) 0) (b * 2 ^ (8 * (7 - k % 8)))) 0 l,
          byte_xor (8 * (7 - m % 8)) (get_or ws (k / 8) 0) (b * 2 ^ (8 * (7 - k % 8))),
          alone k b m q h,
        )

length-xor_at : (k b : ℕ) (ws : List ℕ) → length (xor_at k b ws) ≡ length ws
unfolding xor_at xor_word
length-xor_at k b ws = length-set ws (k / 8) _

-- byte m after bytes were xored into those from k on
pub xored_from : (bs : List ℕ) (k m : ℕ) (ws : List ℕ) → k + length bs ≤ 8 * length ws → Bytes bs
    → byte_at (xor_from k bs ws) m ≡ bit_xor (byte_at ws m) (cond (leb k m) (get_or bs (m - k) 0) 0)
unfolding xor_from
xored_from [] k m ws l h = go (leb k m)
  where
    go : (c : Bool) → byte_at ws m ≡ bit_xor (byte_at ws m) (cond c 0 0)
    go true = sym (xor_zero_r (byte_at ws m))
    go false = sym (xor_zero_r (byte_at ws m))
xored_from (b ∷ bs) k m ws l h =
    xored_from bs (suc k) m (xor_at k b ws) (rw length-xor_at (omega arith)) (λ i. h (suc i))
    ∙ rw (xored_byte k b m ws (omega arith) (h 0)) (go (eqb k m) refl (ltb k m) refl)
  where
    go : (c : Bool) → eqb k m ≡ c → (t : Bool) → ltb k m ≡ t
        → bit_xor (bit_xor (byte_at ws m) (cond c b 0)) (cond t (get_or bs (m - suc k) 0) 0) ≡ bit_xor (byte_at ws m) (cond (leb k m) (get_or (b ∷ bs) (m - k) 0) 0)
    go true z true y =
        let a : k ≡ m = eqb-true k m z in
        absurd (let f : ⊥ = omega (arith, ltb-true k m y) in f)
    go true z false y =
        let a : k ≡ m = eqb-true k m z in
        let e : m - k ≡ 0 = omega arith in
        rw (le-leb k m (omega arith), e, xor_zero_r)
    go false z true y =
        let a : k < m = ltb-true k m y in
        let e : m - k ≡ suc (m - suc k) = omega arith in
        rw (le-leb k m (omega arith), e, xor_zero_r)
    go false z false y =
        let ne : k ≢ m = eqb-false k m z in
        let a : m ≤ k = ltb-false k m y in
        rw (lt-leb k m (omega arith), xor_zero_r (bit_xor (byte_at ws m) 0))

-- a block: each of its bytes is xored into the byte of its number, and no other byte changes
pub xored_block : (bs ws : List ℕ) → length bs ≤ 8 * length ws → Bytes bs → (m : ℕ) → byte_at (xor_from 0 bs ws) m ≡ bit_xor (byte_at ws m) (get_or bs m 0)
xored_block bs ws l h m = xored_from bs 0 m ws (omega arith) h ∙ rw (le-leb 0 m (omega arith), sub-zero)

-- for the reader: byte 0 is the top byte of the first word, and byte 39 the low byte of the fifth
pub first_byte : (ws : List ℕ) → byte_at ws 0 ≡ get_or ws 0 0 / 2 ^ 56 % 256
unfolding byte_at weight
first_byte ws = refl

pub last_byte : (ws : List ℕ) → byte_at ws 39 ≡ get_or ws 4 0 % 256
unfolding byte_at weight
last_byte ws = rw div-one

-- for the reader: the lowest bit of the fifth word is that of byte 39
pub flipped_byte : (ws : List ℕ) (m : ℕ) → length ws ≡ 5 → byte_at (xor_word 4 1 ws) m ≡ bit_xor (byte_at ws m) (cond (eqb 39 m) 1 0)
unfolding xor_at weight
flipped_byte ws m e = xored_byte 39 1 m ws (omega arith) (lit< tt)

-- ---- two lists of bytes

pub length-xor_bytes : (xs ys : List ℕ) → length xs ≡ length ys → length (xor_bytes xs ys) ≡ length ys
unfolding xor_bytes
length-xor_bytes [] ys e = e
length-xor_bytes (x ∷ xs) [] e = refl
length-xor_bytes (x ∷ xs) (y ∷ ys) e = ap suc (length-xor_bytes xs ys (omega arith))

-- byte i is the two lists' bytes i, xored
pub xor_bytes-at : (xs ys : List ℕ) (i : ℕ) → length xs ≡ length ys → get_or (xor_bytes xs ys) i 0 ≡ bit_xor (get_or xs i 0) (get_or ys i 0)
unfolding xor_bytes
xor_bytes-at [] [] i e = refl
xor_bytes-at [] (y ∷ ys) i e = absurd (omega arith)
xor_bytes-at (x ∷ xs) [] i e = absurd (omega arith)
xor_bytes-at (x ∷ xs) (y ∷ ys) zero e = refl
xor_bytes-at (x ∷ xs) (y ∷ ys) (suc i) e = xor_bytes-at xs ys i (omega arith)

-- the n words that 8 × n bytes make, read as bytes, are these bytes
pub words-read : (n : ℕ) (bs : List ℕ) → Bytes bs → length bs ≡ 8 * n → bytes_from 0 (8 * n) (words_of n bs) ≡ bs
unfolding byte_at
words-read n bs bytes e =
    rw (words_xored n bs bytes e, ← e)
    (sym (by_bytes bs 0 (xor_from 0 bs (replicate n 0)) (λ i l. sym
    (xored_block bs (replicate n 0) (rw (length-replicate {A = ℕ} n 0) (omega arith)) bytes (0 + i) ∙ rw (zeros-at n ((0 + i) / 8), zero-div, zero-add)))))
