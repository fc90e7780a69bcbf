-- A number xored in as bytes that begin at any byte of the words: the eight bytes of a word stand in one word, or in two.
-- Assumes nothing.
use mathlib.Core.Path.{◌≡◌, refl, sym, ap, ap₂, ◌∙◌, subst}
use mathlib.Core.List.{List, [], ◌∷◌, ◌++◌}
use Prim.Native.Nat.{ℕ, zero, suc, ◌+◌, ◌-◌, ◌*◌, ◌/◌, ◌%◌, ◌^◌, ◌≤◌, ◌<◌}
use native.Mathlib.Decide.{dec_lt}
use native.Mathlib.Nat.{add-suc, add-zero, mod-lt, mod-one, mul_assoc, mul-mod_left, mul-one, suc-add, zero-add, zero-mul}
use native.Mathlib.Omega.{arith}
use lib.Bits.{bit_xor}
use lib.ListN.{length, get_or, set, replicate, length-append, length-set, length-replicate}
use lib.Pow.{pow-add, pow_pos, shl-shr, shr-shr, shr_mod, mod-pow-add, mod-mod-pow}
use lib.Seq.{get_or-set_same, set-set}
use Rattle.word.specs.Bytes.{weight, bytes_from, xor_word, xor_at, xor_from, window, to_bytes, words_of, zeros_to}
use Rattle.word.proofs.Lists.{set_past}
use Rattle.word.proofs.Bytes.{xor_assoc, xor_joined, Bytes, length-to_bytes, append_bytes, zero-bytes, in_word, weight_in, bytes_from-word, xor_from_append, xor_word-zero, xor_from-zeros}
use Rattle.word.proofs.Windows.{words_xored, xor_from-words}
use Rattle.word.proofs.Xored.{words-read}

-- ---- numbers and their bytes

-- the first m bytes of a number, and the n that follow
to_bytes-split : (m n x : ℕ) → to_bytes (m + n) x ≡ to_bytes m (x / 2 ^ (8 * n)) ++ to_bytes n x
unfolding to_bytes
to_bytes-split zero n x = rw zero-add
to_bytes-split (suc m) n x =
    let places : 8 * (m + n) ≡ 8 * n + 8 * m = omega arith in
    rw (suc-add, places, ← shr-shr x (8 * n) (8 * m), to_bytes-split m n x) refl

-- a shift to the left leaves the lowest digits
shl_mod : (x b a : ℕ) → (x * 2 ^ a) % 2 ^ (b + a) ≡ x % 2 ^ b * 2 ^ a
shl_mod x b a = mod-pow-add (x * 2 ^ a) b a ∙ rw (shl-shr x a, mul-mod_left x (2 ^ a)) (add-zero (x % 2 ^ b * 2 ^ a))

-- one by 64 - t places, made in two steps
pub shl_twice : (x t : ℕ) → t ≤ 56 → (((x * 2 ^ (56 - t)) % 2 ^ 64) * 2 ^ 8) % 2 ^ 64 ≡ x % 2 ^ t * 2 ^ (64 - t)
shl_twice x t h =
    let all : t + (56 - t) ≡ 56 = omega arith in
    let sum : 56 - t + 8 ≡ 64 - t = omega arith in
    shl_mod ((x * 2 ^ (56 - t)) % 2 ^ 64) 56 8
    ∙ ap (λ (y : ℕ). y * 2 ^ 8) (mod-mod-pow (x * 2 ^ (56 - t)) 8 56 ∙ ap (λ (n : ℕ). (x * 2 ^ (56 - t)) % 2 ^ n) (sym all) ∙ shl_mod x t (56 - t))
    ∙ mul_assoc (x % 2 ^ t) (2 ^ (56 - t)) (2 ^ 8) ∙ ap (λ (y : ℕ). x % 2 ^ t * y) (sym (pow-add 2 (56 - t) 8) ∙ ap (λ (n : ℕ). 2 ^ n) sum)

-- ---- in one word

-- one number after the other
xor_word-twice : (j x y : ℕ) (ws : List ℕ) → xor_word j y (xor_word j x ws) ≡ xor_word j (bit_xor x y) ws
unfolding xor_word
xor_word-twice j x y ws = go (dec_lt j (length ws))
  where
    once : List ℕ
    once = set ws j (bit_xor (get_or ws j 0) x)

    go : Dec (j < length ws) → set once j (bit_xor (get_or once j 0) y) ≡ set ws j (bit_xor (get_or ws j 0) (bit_xor x y))
    go (yes l) = rw (get_or-set_same ws j (bit_xor (get_or ws j 0) x) 0 l, set-set ws j) (ap (set ws j) (xor_assoc (get_or ws j 0) x y))
    go (no l) =
        set_past once j _ (omega (arith, length-set ws j (bit_xor (get_or ws j 0) x))) ∙ set_past ws j _ (omega arith) ∙ sym (set_past ws j _ (omega arith))

-- the n lowest bytes of a number, from byte i of word j on; m bytes of the word follow them
number-within : (n j i m x : ℕ) (ws : List ℕ) → i + (n + m) ≡ 8 → xor_from (8 * j + i) (to_bytes n x) ws ≡ xor_word j (x % 2 ^ (8 * n) * 2 ^ (8 * m)) ws
unfolding xor_from xor_at to_bytes
number-within zero j i m x ws e =
    let none : x % 2 ^ (8 * 0) * 2 ^ (8 * m) ≡ 0 = rw (mod-one x) (zero-mul (2 ^ (8 * m))) in
    sym (ap (λ (y : ℕ). xor_word j y ws) none ∙ xor_word-zero j ws)
number-within (suc n) j i m x ws e =
    let b : ℕ = x / 2 ^ (8 * n) % 256 in
    let low : ℕ = x % 2 ^ (8 * n) in
    let places : 8 * (n + m) ≡ 8 * n + 8 * m = omega arith in
    let eight : 8 * suc n ≡ 8 + 8 * n = omega arith in
    let first : xor_word ((8 * j + i) / 8) (b * weight (8 * j + i)) ws ≡ xor_word j (b * 2 ^ (8 * n + 8 * m)) ws =
    ap₂ (λ (q w : ℕ). xor_word q (b * w) ws) (in_word j i (n + m) (omega arith)) (weight_in j i (n + m) (omega arith) ∙ ap (λ (p : ℕ). 2 ^ p) places) in
    let joined : bit_xor (b * 2 ^ (8 * n + 8 * m)) (low * 2 ^ (8 * m)) ≡ x % 2 ^ (8 * suc n) * 2 ^ (8 * m) =
    xor_joined b low (8 * n) (8 * m) (mod-lt x (pow_pos (8 * n)))
    ∙ ap (λ (s : ℕ). s * 2 ^ (8 * m)) (sym (ap (λ (p : ℕ). x % 2 ^ p) eight ∙ mod-pow-add x 8 (8 * n))) in
    ap (xor_from (suc (8 * j + i)) (to_bytes n x)) first
    ∙ ap (λ (k : ℕ). xor_from k (to_bytes n x) (xor_word j (b * 2 ^ (8 * n + 8 * m)) ws)) (sym (add-suc (8 * j) i))
    ∙ number-within n j (suc i) m x (xor_word j (b * 2 ^ (8 * n + 8 * m)) ws) (omega arith)
    ∙ xor_word-twice j (b * 2 ^ (8 * n + 8 * m)) (low * 2 ^ (8 * m)) ws
    ∙ ap (λ (y : ℕ). xor_word j y ws) joined

-- ---- in two

-- a word from byte k on: the first bytes end the word of byte k, and the others begin the next
pub xor_word-at : (k x : ℕ) (ws : List ℕ) → x < 2 ^ 64
    → xor_from k (to_bytes 8 x) ws ≡ xor_word (k / 8 + 1) (x % 2 ^ (8 * (k % 8)) * 2 ^ (64 - 8 * (k % 8))) (xor_word (k / 8) (x / 2 ^ (8 * (k % 8))) ws)
xor_word-at k x ws h =
    let j : ℕ = k / 8 in
    let s : ℕ = k % 8 in
    let n : ℕ = 8 - s in
    let high : ℕ = x / 2 ^ (8 * s) in
    let eight : 8 ≡ n + s = omega arith in
    let place : k ≡ 8 * j + s = omega arith in
    let next : k + length (to_bytes n high) ≡ 8 * (j + 1) + 0 = omega (arith, length-to_bytes n high) in
    let bits : 64 ≡ 8 * n + 8 * s = omega arith in
    let rest : 8 * n ≡ 64 - 8 * s = omega arith in
    let whole : high % 2 ^ (8 * n) * 2 ^ (8 * 0) ≡ high = mul-one (high % 2 ^ (8 * n)) ∙ shr_mod (8 * n) (8 * s) (subst (λ (p : ℕ). x < 2 ^ p) bits h) in
    ap (λ (m : ℕ). xor_from k (to_bytes m x) ws) eight ∙ ap (λ (l : List ℕ). xor_from k l ws) (to_bytes-split n s x)
    ∙ xor_from_append (to_bytes n high) (to_bytes s x) k ws
    ∙ ap₂ (λ (m : ℕ) (l : List ℕ). xor_from m (to_bytes s x) l) next
    (ap (λ (m : ℕ). xor_from m (to_bytes n high) ws) place ∙ number-within n j s 0 high ws (omega arith) ∙ ap (λ (y : ℕ). xor_word j y ws) whole)
    ∙ number-within s (j + 1) 0 n x (xor_word j high ws) (omega arith)
    ∙ ap (λ (p : ℕ). xor_word (j + 1) (x % 2 ^ (8 * s) * 2 ^ p) (xor_word j high ws)) rest

-- ---- at most eight bytes

module _ (bs : List ℕ) (h : Bytes bs) (few : length bs ≤ 8) where
  abbrev filled : List ℕ
  filled = zeros_to 8 bs

  length-filled : length filled ≡ 8 * 1
  unfolding zeros_to
  length-filled = simp (length-append, length-replicate) (omega arith)

  -- xored in, the zeros change nothing
  xor_filled : (k : ℕ) (ws : List ℕ) → xor_from k filled ws ≡ xor_from k bs ws
  unfolding zeros_to
  xor_filled k ws = xor_from_append bs (replicate (8 - length bs) 0) k ws ∙ xor_from-zeros (8 - length bs) (k + length bs) (xor_from k bs ws)

  bytes-filled : Bytes filled
  unfolding zeros_to
  bytes-filled = append_bytes bs (replicate (8 - length bs) 0) h (zero-bytes (8 - length bs))

  -- the word that they make, read as bytes, is they and the zeros
  word_bytes : to_bytes 8 (window 0 bs 0) ≡ filled
  word_bytes =
      let word : words_of 1 filled ≡ window 0 bs 0 ∷ [] =
      words_xored 1 filled bytes-filled length-filled ∙ xor_filled 0 (replicate 1 0) ∙ xor_from-words 1 bs (replicate 1 0) 0 refl in
      sym (bytes_from-word (window 0 bs 0 ∷ []) 0) ∙ ap (bytes_from 0 8) (sym word) ∙ words-read 1 filled bytes-filled length-filled

  -- xored in as one word
  pub xor_few_lem : (k : ℕ) (ws : List ℕ) → xor_from k (to_bytes 8 (window 0 bs 0)) ws ≡ xor_from k bs ws
  xor_few_lem k ws = ap (λ (l : List ℕ). xor_from k l ws) word_bytes ∙ xor_filled k ws
