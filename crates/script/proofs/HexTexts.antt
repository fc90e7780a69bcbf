-- Laws of hexadecimal texts, for the code that reads and writes them.
-- Assumes nothing.
use mathlib.Core.Path.{◌≡◌, refl, sym, ap, ◌∙◌}
use mathlib.Core.Bool.{Bool, true, false, ◌&&◌, false≢true}
use mathlib.Core.List.{List, [], ◌∷◌, ◌++◌, append_assoc}
use Prim.Native.Nat.{ℕ, zero, suc, ◌+◌, ◌-◌, ◌*◌, ◌/◌, ◌%◌, ◌≤◌, ◌<◌}
use native.Mathlib.Numerals.{add-one, add-two}
use native.Mathlib.Omega.{arith}
use native.Mathlib.Decide.{dec_le}
use lib.Dec.{eqb, ltb}
use lib.ListN.{length, get_or, set, take, drop, drop_of_length-le, length-drop}
use lib.Seq.{drop-cons, drop-drop, take-suc, take_all, sets, get_or-take, get_or-drop}
use Rattle.std.specs.Simd.{first_chunks}
use Rattle.script.specs.Hex.{nibble, digit_of, hex_pairs, decoded, hex_of}
use Rattle.script.proofs.Texts.{and-false}
use Rattle.script.proofs.HexDigits.{high_digit, low_digit, other-pairs}

-- ---- pairs of digits are digits, and an even number of them

unfoldable pub all_hex : List ℕ → Bool
all_hex [] = true
all_hex (b ∷ s) = ltb (nibble b) 16 && all_hex s

even_last : (e h l r : Bool) → e && (h && (l && r)) ≡ h && (l && (e && r))
even_last true h l r = refl
even_last false h l r = sym (ap (λ (t : Bool). h && t) (and-false l) ∙ and-false h)

pub even_digits : (s : List ℕ) → eqb (length s % 2) 0 && all_hex s ≡ hex_pairs s
unfolding hex_pairs all_hex
even_digits [] = refl
even_digits (h ∷ []) = refl
even_digits (h ∷ l ∷ s) =
    let e : length (h ∷ l ∷ s) % 2 ≡ length s % 2 = omega arith in
    ap (λ (n : ℕ). eqb n 0 && all_hex (h ∷ l ∷ s)) e
    ∙ even_last (eqb (length s % 2) 0) (ltb (nibble h) 16) (ltb (nibble l) 16) (all_hex s)
    ∙ ap (λ (t : Bool). ltb (nibble h) 16 && (ltb (nibble l) 16 && t)) (even_digits s)

digits_next : (s : List ℕ) (i : ℕ) → i < length s → all_hex (drop i s) ≡ ltb (nibble (get_or s i 0)) 16 && all_hex (drop (i + 1) s)
unfolding all_hex
digits_next s i h = rw (add-one, drop-cons s i 0)

pub digits_end : (s : List ℕ) (i : ℕ) (t : Bool) → length s ≤ i → t && all_hex (drop i s) ≡ t
unfolding all_hex
digits_end s i t h = rw (drop_of_length-le s h) (and-true t)
  where
    and-true : (t : Bool) → t && true ≡ t
    and-true true = refl
    and-true false = refl

-- one byte more was looked at
pub digit-looked : (s : List ℕ) (i : ℕ) (t : Bool) → i < length s → t && all_hex (drop i s) ≡ (t && ltb (nibble (get_or s i 0)) 16) && all_hex (drop (i + 1) s)
digit-looked s i t h = rw (digits_next s i h) (and-joined t (ltb (nibble (get_or s i 0)) 16) (all_hex (drop (i + 1) s)))
  where
    and-joined : (a b c : Bool) → a && (b && c) ≡ (a && b) && c
    and-joined true b c = refl
    and-joined false b c = refl

-- by these a text is known to be pairs
pub ruleset looked = (even_digits, digit-looked, digits_end)

-- ---- a pair

-- the two elements at i
two : (s : List ℕ) (i : ℕ) → i + 1 < length s → drop i s ≡ get_or s i 0 ∷ get_or s (i + 1) 0 ∷ drop (i + 2) s
two s i h = rw (add-two, add-one, drop-cons s i 0 (omega arith), drop-cons s (suc i) 0 (omega arith))

decoded-next : (s : List ℕ) (i : ℕ) → i + 1 < length s → decoded (drop i s) ≡ (nibble (get_or s i 0) * 16 + nibble (get_or s (i + 1) 0)) ∷ decoded (drop (i + 2) s)
unfolding decoded
decoded-next s i h = rw (two s i h)

decoded-end : (s : List ℕ) (i : ℕ) → length s ≤ i → decoded (drop i s) ≡ []
unfolding decoded
decoded-end s i h = rw (drop_of_length-le s h)

odd : (s : List ℕ) → length s ≡ 1 → hex_pairs s ≡ false
unfolding hex_pairs
odd [] e = absurd (omega arith)
odd (a ∷ []) e = refl
odd (a ∷ b ∷ s) e = absurd (omega arith)

-- where pairs go on, there are two digits
pair_here : (s : List ℕ) (i : ℕ) → hex_pairs (drop i s) ≡ true → i < length s → i + 1 < length s
pair_here s i e h = go (dec_le (length s - i) 1)
  where
    go : Dec (length s - i ≤ 1) → i + 1 < length s
    go (yes k) = absurd (false≢true (sym (odd (drop i s) (rw length-drop (omega arith))) ∙ e))
    go (no k) = omega arith

module _ (s : List ℕ) (i : ℕ) (h : i + 1 < length s) (e : hex_pairs (drop i s) ≡ true) where
  here : hex_pairs (get_or s i 0 ∷ get_or s (i + 1) 0 ∷ drop (i + 2) s) ≡ true
  here = sym (ap hex_pairs (two s i h)) ∙ e

  pub high_digit-at : nibble (get_or s i 0) < 16
  high_digit-at = high_digit (get_or s i 0) (get_or s (i + 1) 0) (drop (i + 2) s) here

  pub low_digit-at : nibble (get_or s (i + 1) 0) < 16
  low_digit-at = low_digit (get_or s i 0) (get_or s (i + 1) 0) (drop (i + 2) s) here

  pairs_on : hex_pairs (drop (i + 2) s) ≡ true
  pairs_on = other-pairs (get_or s i 0) (get_or s (i + 1) 0) (drop (i + 2) s) here

-- ---- decoding: after k pairs, what is left goes to place k

pub record Decoding (s first : List ℕ) (buffer : List ℕ) (k : ℕ) : Type 0 where
  pub pairs : hex_pairs (drop (2 * k) s) ≡ true
  pub stored : sets buffer k (decoded (drop (2 * k) s)) ≡ sets first 0 (decoded s)
  pub count : k + length (decoded (drop (2 * k) s)) ≡ length (decoded s)

pub decoding_starts : (s buffer : List ℕ) → hex_pairs s ≡ true → Decoding s buffer buffer 0
decoding_starts s buffer e = record { pairs = e; stored = refl; count = omega arith }

pub decoding_goes_on : (s first buffer : List ℕ) (k x y : ℕ) → Decoding s first buffer k → 2 * k + 1 < length s → x ≡ nibble (get_or s (2 * k) 0)
    → y ≡ nibble (get_or s (2 * k + 1) 0)
    → Decoding s first (set buffer k (x * 16 + y)) (k + 1)
decoding_goes_on s first buffer k x y d h p q =
    let n : 2 * (k + 1) ≡ 2 * k + 2 = omega arith in
    let e = decoded-next s (2 * k) h in
    record {
      pairs = rw n (pairs_on s (2 * k) h d.pairs);
      stored = rw (n, p, q, add-one k) (rw e at d.stored);
      count = rw n (omega (arith, ap length e, d.count));
    }

pub decoding_ends : (s first buffer : List ℕ) (k : ℕ) → Decoding s first buffer k → length s / 2 ≤ k → (buffer ≡ sets first 0 (decoded s)) × (k ≡ length (decoded s))
decoding_ends s first buffer k d h = go (dec_le (length s) (2 * k))
  where
    go : Dec (length s ≤ 2 * k) → (buffer ≡ sets first 0 (decoded s)) × (k ≡ length (decoded s))
    go (yes l) = let e = decoded-end s (2 * k) l in (rw e at d.stored, omega (arith, ap length e, d.count))
    go (no l) = absurd (omega (arith, pair_here s (2 * k) d.pairs (omega arith)))

-- the pairs of a text, and their two bytes
chunk-pair : (k i : ℕ) (s : List ℕ) → i < k → get_or (first_chunks 2 k s) i [] ≡ take 2 (drop (2 * i) s)
chunk-pair zero i s h = absurd (omega arith)
chunk-pair (suc k) zero s h = refl
chunk-pair (suc k) (suc i) s h =
    let e : 2 + 2 * i ≡ 2 * suc i = omega arith in
    chunk-pair k i (drop 2 s) (omega arith) ∙ ap (take 2) (drop-drop (2 * i) 2 s ∙ ap (λ (n : ℕ). drop n s) e)

pub pair-high : (s : List ℕ) (i : ℕ) → i < length s / 2 → get_or (get_or (first_chunks 2 (length s / 2) s) i []) 0 0 ≡ get_or s (2 * i) 0
pair-high s i h =
    let e : 2 * i + 0 ≡ 2 * i = omega arith in
    rw (chunk-pair (length s / 2) i s h) (get_or-take 2 (drop (2 * i) s) 0 0 (omega arith) ∙ get_or-drop (2 * i) s 0 0 ∙ ap (λ (n : ℕ). get_or s n 0) e)

pub pair-low : (s : List ℕ) (i : ℕ) → i < length s / 2 → get_or (get_or (first_chunks 2 (length s / 2) s) i []) 1 0 ≡ get_or s (2 * i + 1) 0
pair-low s i h = rw (chunk-pair (length s / 2) i s h) (get_or-take 2 (drop (2 * i) s) 1 0 (omega arith) ∙ get_or-drop (2 * i) s 1 0)

-- by these pairs are read one by one
pub ruleset decoding = (pair-high, pair-low, high_digit-at, low_digit-at, decoding_starts, decoding_goes_on, decoding_ends)

-- ---- bytes as digits

hex_append : (a b : List ℕ) → hex_of (a ++ b) ≡ hex_of a ++ hex_of b
unfolding hex_of
hex_append [] b = refl
hex_append (x ∷ a) b = ap (λ (r : List ℕ). digit_of (x / 16) ∷ digit_of (x % 16) ∷ r) (hex_append a b)

pub hex-next : (s : List ℕ) (i : ℕ) → i < length s
    → hex_of (take (i + 1) s) ≡ hex_of (take i s) ++ (digit_of (get_or s i 0 / 16) ∷ []) ++ (digit_of (get_or s i 0 % 16) ∷ [])
unfolding hex_of
hex-next s i h =
    rw (add-one, take-suc s i 0)
    (hex_append (take i s) (get_or s i 0 ∷ []) ∙ sym (append_assoc (hex_of (take i s)) (digit_of (get_or s i 0 / 16) ∷ []) (digit_of (get_or s i 0 % 16) ∷ [])))

pub hex-none : hex_of [] ≡ []
unfolding hex_of
hex-none = refl

pub hex-all : (s : List ℕ) (i : ℕ) → length s ≤ i → hex_of (take i s) ≡ hex_of s
hex-all s i h = rw (take_all i s h)

-- by these bytes are written one by one
pub ruleset written = (hex-none, hex-next, hex-all)
