-- Laws of bits, and of words that are told by their bits, at any width.
-- Assumes nothing.
use mathlib.Core.Logic.{⊎_elim}
use mathlib.Core.Path.{◌≡◌, refl, sym, ap, ap₂, ◌∙◌, subst}
use mathlib.Core.List.{List, [], ◌∷◌, ◌++◌}
use Prim.Native.Nat.{ℕ, zero, suc, ◌+◌, ◌-◌, ◌*◌, ◌/◌, ◌%◌, ◌^◌, ◌≤◌, ◌<◌}
use native.Mathlib.Nat.{mod-lt, mod-eq_of_lt, le_refl, zero-div, le_of_suc-le-suc, not-suc-le-zero, pow-suc, mul_comm, eq-or-lt_of_le}
use native.Mathlib.Numerals.{one-add}
use native.Mathlib.Omega.{arith}
use lib.Dec.{lit<}
use lib.Arith.{digits_lt}
use lib.Pow.{high, split, mod-pow-add, shr-shr}
use lib.ListN.{length, get_or, length-append}
use lib.Bits.{block_half, block_odd, bit_and, bit_or, bit_xor, and_shr, and_mod, and_le_l, and_le_r, xor_shr, xor_mod, xor_add_and, or_add_and}
use Rattle.word.specs.Word.{bit, word, number, Below}

-- ---- one bit

pub bit-lt : (j x : ℕ) → bit j x < 2
unfolding bit
bit-lt j x = mod-lt (x / 2 ^ j) (lit< tt)

pub bit-zero : (j : ℕ) → bit j 0 ≡ 0
unfolding bit
bit-zero j = ap (λ (n : ℕ). n % 2) (zero-div (2 ^ j))

-- the bits of x without its n lowest
pub bit_shr : (n j x : ℕ) → bit j (x / 2 ^ n) ≡ bit (n + j) x
unfolding bit
bit_shr n j x = ap (λ (y : ℕ). y % 2) (shr-shr x n j)

-- the bits of a number's half are the number's, one place up
bit-half : (j x : ℕ) → bit (suc j) x ≡ bit j (x / 2)
bit-half j x = ap (λ (n : ℕ). bit n x) (sym (one-add j)) ∙ sym (bit_shr 1 j x)

-- below place k, what stands from place k on does not count
pub bit-low : (j k a r : ℕ) → j < k → bit j (a * 2 ^ k + r) ≡ bit j r
unfolding bit
bit-low j zero a r l = absurd (not-suc-le-zero l)
bit-low zero (suc k) a r l = omega (arith, block_odd a k r)
bit-low (suc j) (suc k) a r l =
    bit-half j (a * 2 ^ suc k + r) ∙ ap (bit j) (block_half a k r) ∙ bit-low j k a (r / 2) (le_of_suc-le-suc l) ∙ sym (bit-half j r)

-- the bits of a number's n lowest are the number's own
pub bit_mod : (n j x : ℕ) → j < n → bit j (x % 2 ^ n) ≡ bit j x
bit_mod n j x l = sym (bit-low j n (x / 2 ^ n) (x % 2 ^ n) l) ∙ ap (bit j) (split x n)

-- from place k on, what stands below it does not count
pub bit_high : (k j a r : ℕ) → r < 2 ^ k → bit (k + j) (a * 2 ^ k + r) ≡ bit j a
bit_high k j a r h = sym (bit_shr k j (a * 2 ^ k + r)) ∙ ap (bit j) (high a k h)

-- ---- words by their bits

-- a bit on top of k bits
bit_on_top : (k : ℕ) {b r : ℕ} → b < 2 → r < 2 ^ k → b * 2 ^ k + r < 2 ^ suc k
bit_on_top k {b} {r} hb hr = subst (λ (n : ℕ). b * 2 ^ k + r < n) (mul_comm 2 (2 ^ k) ∙ sym (pow-suc 2 k)) (digits_lt hb hr)

-- w bits make a number of w bits
pub word_lt : (w : ℕ) (f : ℕ → ℕ) → ((j : ℕ) → f j < 2) → word w f < 2 ^ w
unfolding word
word_lt zero f h = lit< tt
word_lt (suc w) f h = bit_on_top w (h w) (word_lt w f h)

-- words with the same bits are the same
word_same : (w : ℕ) (f g : ℕ → ℕ) → ((j : ℕ) → j < w → f j ≡ g j) → word w f ≡ word w g
unfolding word
word_same zero f g h = refl
word_same (suc w) f g h = ap₂ (λ (a b : ℕ). a * 2 ^ w + b) (h w (le_refl (suc w))) (word_same w f g (λ j l. h j (wider l)))
  where
    wider : {i n : ℕ} → i ≤ n → i ≤ suc n
    wider l = omega arith

-- the word of a number's w lowest bits
word-bits : (w x : ℕ) → word w (λ j. bit j x) ≡ x % 2 ^ w
unfolding word bit
word-bits zero x = omega arith
word-bits (suc w) x = ap (λ (n : ℕ). bit w x * 2 ^ w + n) (word-bits w x) ∙ sym (mod-pow-add x 1 w) ∙ ap (λ (n : ℕ). x % 2 ^ n) (one-add w)

-- a number of w bits is the word of f if f gives its bits
pub is_word : (w : ℕ) {x : ℕ} (f : ℕ → ℕ) → x < 2 ^ w → ((j : ℕ) → j < w → bit j x ≡ f j) → x ≡ word w f
is_word w {x} f h e = sym (mod-eq_of_lt h) ∙ sym (word-bits w x) ∙ word_same w (λ j. bit j x) f e

-- for the reader: the bits of a word
pub bit_word : (w : ℕ) (f : ℕ → ℕ) → ((j : ℕ) → f j < 2) → (j : ℕ) → j < w → bit j (word w f) ≡ f j
unfolding word bit
bit_word zero f h j l = absurd (not-suc-le-zero l)
bit_word (suc w) f h j l =
    ⊎_elim
    (λ (e : j ≡ w). ap (λ (n : ℕ). bit n (f w * 2 ^ w + word w f)) e ∙ ap (λ (n : ℕ). n % 2) (high (f w) w (word_lt w f h)) ∙ mod-eq_of_lt (h w) ∙ ap f (sym e))
    (λ (m : j < w). bit-low j w (f w) (word w f) m ∙ bit_word w f h j m)
    (eq-or-lt_of_le (le_of_suc-le-suc l))

-- ---- numbers by a list of bits

number_lt : (bs : List ℕ) → Below 2 bs → number bs < 2 ^ length bs
unfolding number
number_lt [] h = lit< tt
number_lt (b ∷ bs) h = bit_on_top (length bs) h.0 (number_lt bs h.1)

-- for the reader: the bit that n others follow stands at place n
pub bit-number : (xs : List ℕ) (b : ℕ) (bs : List ℕ) → Below 2 (xs ++ b ∷ bs) → bit (length bs) (number (xs ++ b ∷ bs)) ≡ b
unfolding number bit
bit-number [] b bs h = ap (λ (n : ℕ). n % 2) (high b (length bs) (number_lt bs h.1)) ∙ mod-eq_of_lt h.0
bit-number (x ∷ xs) b bs h =
    bit-low (length bs) (length (xs ++ b ∷ bs)) x (number (xs ++ b ∷ bs)) (omega (arith, length-append xs (b ∷ bs))) ∙ bit-number xs b bs h.1

-- ---- the operations go bit by bit

pub bit-and : (j a b : ℕ) → bit j (bit_and a b) ≡ bit_and (bit j a) (bit j b)
unfolding bit
bit-and j a b = ap (λ (n : ℕ). n % 2) (and_shr a b j) ∙ and_mod (a / 2 ^ j) (b / 2 ^ j) 1

pub bit-xor : (j a b : ℕ) → bit j (bit_xor a b) ≡ bit_xor (bit j a) (bit j b)
unfolding bit
bit-xor j a b = ap (λ (n : ℕ). n % 2) (xor_shr a b j) ∙ xor_mod (a / 2 ^ j) (b / 2 ^ j) 1

-- the complement of a number of w bits
pub bit_not : (w j a : ℕ) → a < 2 ^ w → j < w → bit j ((2 ^ w - 1) - a) ≡ 1 - bit j a
unfolding bit
bit_not zero j a h l = absurd (not-suc-le-zero l)
bit_not (suc w) zero a h l = omega (arith, pow-suc 2 w)
bit_not (suc w) (suc j) a h l =
    let half : ((2 ^ suc w - 1) - a) / 2 ≡ (2 ^ w - 1) - a / 2 = omega (arith, pow-suc 2 w) in
    let less : a / 2 < 2 ^ w = omega (arith, pow-suc 2 w) in
    bit-half j ((2 ^ suc w - 1) - a) ∙ ap (bit j) half ∙ bit_not w j (a / 2) less (le_of_suc-le-suc l) ∙ ap (λ (n : ℕ). 1 - n) (sym (bit-half j a))

-- an exclusive or is 0 where the two are equal, and nowhere else
pub xor_none : (a b : ℕ) → bit_xor a b ≡ 0 → a ≡ b
xor_none a b h = omega (arith, xor_add_and a b, and_le_l a b, and_le_r a b)

-- an or is 0 where both are
pub or_none : (a b : ℕ) → bit_or a b ≡ 0 → (a ≡ 0) × (b ≡ 0)
or_none a b h = omega (arith, or_add_and a b, and_le_l a b, and_le_r a b)

-- ---- lists of words

-- past its end a list reads 0, which is below any m above 0
pub below_at : {m : ℕ} (xs : List ℕ) → 0 < m → Below m xs → (i : ℕ) → get_or xs i 0 < m
below_at [] p b i = p
below_at (x ∷ xs) p b zero = b.0
below_at (x ∷ xs) p b (suc i) = below_at xs p b.1 i
