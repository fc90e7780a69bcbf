-- Big-endian bytes in 64-bit words. Byte 8 * j + i stands in word j, and one argument over i serves reading, xoring and writing: it goes down on the bytes
-- that are left in the word, so that no index has a case of its own.
-- Assumes nothing.
use mathlib.Core.Path.{◌≡◌, refl, sym, ap, ap₂, ◌∙◌, subst}
use mathlib.Core.Bool.{true}
use mathlib.Core.List.{List, [], ◌∷◌, ◌++◌}
use Prim.Native.Nat.{ℕ, zero, suc, ◌+◌, ◌-◌, ◌*◌, ◌/◌, ◌%◌, ◌^◌, ◌≤◌, ◌<◌}
use native.Mathlib.Nat.{mod-lt, mod-one, mod-eq_of_lt, add-mul, add-suc, add-zero, zero-add, suc-add, mul_assoc, add_assoc, zero-mul, zero-lt-suc, div-one, not-suc-le-zero, le_of_suc-le-suc}
use native.Mathlib.Omega.{arith}
use borrow.Author.Tests.{eq-eqb}
use lib.Arith.{bin_ind, digits_lt}
use lib.Bits.{bit_xor, bit_or, differ, xor_step, xor_shr, xor_mod, xor_shifted, xor_zero_r, or_shifted}
use lib.Dec.{eqb}
use lib.Pow.{pow-add, mod-pow-add, shl_lt, shl_exact}
use lib.ListN.{length, get_or, take, drop, replicate}
use lib.Seq.{set-get_or, get_or-drop, take_at, ext_get_or}
use mir.Syntax.{w64}
use Rattle.std.specs.List.{fold}
use Rattle.std.specs.Int.{from_be_bytes, to_be_bytes}
use Rattle.word.proofs.Arrays.{listed, written_out}
use Rattle.word.specs.Bytes.{weight, byte_at, bytes_from, xor_word, xor_at, xor_from, window, from_bytes, to_bytes}

-- ---- exclusive or

-- a law of a bit from its two cases
by_bit : (P : ℕ → Type 0) → P 0 → P 1 → (n : ℕ) → n < 2 → P n
by_bit P p q zero h = p
by_bit P p q (suc zero) h = q
by_bit P p q (suc (suc n)) h = absurd (not-suc-le-zero (le_of_suc-le-suc (le_of_suc-le-suc h)))

low_bit : (n : ℕ) → n % 2 < 2
low_bit n = mod-lt n (zero-lt-suc 1)

bit_assoc : (x y z : ℕ) → x < 2 → y < 2 → z < 2 → differ (bit_xor x y) z ≡ differ x (bit_xor y z)
bit_assoc x y z hx hy hz =
    by_bit (λ (x : ℕ). differ (bit_xor x y) z ≡ differ x (bit_xor y z))
    (by_bit (λ (y : ℕ). differ (bit_xor 0 y) z ≡ differ 0 (bit_xor y z))
    (by_bit (λ (z : ℕ). differ (bit_xor 0 0) z ≡ differ 0 (bit_xor 0 z)) refl refl z hz)
    (by_bit (λ (z : ℕ). differ (bit_xor 0 1) z ≡ differ 0 (bit_xor 1 z)) refl refl z hz) y hy)
    (by_bit (λ (y : ℕ). differ (bit_xor 1 y) z ≡ differ 1 (bit_xor y z))
    (by_bit (λ (z : ℕ). differ (bit_xor 1 0) z ≡ differ 1 (bit_xor 0 z)) refl refl z hz)
    (by_bit (λ (z : ℕ). differ (bit_xor 1 1) z ≡ differ 1 (bit_xor 1 z)) refl refl z hz) y hy) x hx

pub xor_assoc : (a b c : ℕ) → bit_xor (bit_xor a b) c ≡ bit_xor a (bit_xor b c)
xor_assoc =
    bin_ind (λ (n : ℕ). (b c : ℕ) → bit_xor (bit_xor n b) c ≡ bit_xor n (bit_xor b c)) (λ b c. refl)
    (λ n ih b c. xor_step (bit_xor n b) c
    ∙ ap₂ (λ (x y : ℕ). bit_xor x (c / 2) * 2 + differ y (c % 2)) (xor_shr n b 1) (xor_mod n b 1)
    ∙ ap₂ (λ (x y : ℕ). x * 2 + y) (ih (b / 2) (c / 2)) (bit_assoc (n % 2) (b % 2) (c % 2) (low_bit n) (low_bit b) (low_bit c))
    ∙ sym (ap₂ (λ (x y : ℕ). bit_xor (n / 2) x * 2 + differ (n % 2) y) (xor_shr b c 1) (xor_mod b c 1))
    ∙ sym (xor_step n (bit_xor b c)))

-- a number a and p lower bits, with q bits behind them
pub xor_joined : (a l p q : ℕ) → l < 2 ^ p → bit_xor (a * 2 ^ (p + q)) (l * 2 ^ q) ≡ (a * 2 ^ p + l) * 2 ^ q
xor_joined a l p q h =
    xor_shifted a (p + q) (l * 2 ^ q) (shl_lt p q h)
    ∙ ap (λ (s : ℕ). s + l * 2 ^ q) (ap (λ (s : ℕ). a * s) (pow-add 2 p q) ∙ sym (mul_assoc a (2 ^ p) (2 ^ q))) ∙ sym (add-mul (a * 2 ^ p) l (2 ^ q))

-- ---- numbers of bytes

-- each element of a list is a byte
abbrev pub Bytes : List ℕ → Type 0
Bytes bs = (i : ℕ) → get_or bs i 0 < 256

take-bytes : (n : ℕ) (bs : List ℕ) → Bytes bs → Bytes (take n bs)
take-bytes zero bs h i = omega arith
take-bytes (suc n) [] h i = omega arith
take-bytes (suc n) (b ∷ bs) h zero = h 0
take-bytes (suc n) (b ∷ bs) h (suc i) = take-bytes n bs (λ k. h (suc k)) i

-- a part of a list of bytes is one
pub part_bytes : (n i : ℕ) (bs : List ℕ) → Bytes bs → Bytes (take n (drop i bs))
part_bytes n i bs h = take-bytes n (drop i bs) (λ k. rw (get_or-drop i bs k 0) (h (i + k)))

-- and so are two lists of bytes joined, and zeros
pub append_bytes : (xs ys : List ℕ) → Bytes xs → Bytes ys → Bytes (xs ++ ys)
append_bytes [] ys h k i = k i
append_bytes (x ∷ xs) ys h k zero = h 0
append_bytes (x ∷ xs) ys h k (suc i) = append_bytes xs ys (λ j. h (suc j)) k i

pub zero-bytes : (n : ℕ) → Bytes (replicate n 0)
zero-bytes zero i = omega arith
zero-bytes (suc n) zero = omega arith
zero-bytes (suc n) (suc i) = zero-bytes n i

-- and the bytes of a number
pub number-bytes : (n x : ℕ) → Bytes (to_bytes n x)
unfolding to_bytes
number-bytes zero x i = omega arith
number-bytes (suc n) x zero = omega arith
number-bytes (suc n) x (suc i) = number-bytes n x i

pub length-to_bytes : (n x : ℕ) → length (to_bytes n x) ≡ n
unfolding to_bytes
length-to_bytes zero x = refl
length-to_bytes (suc n) x = ap suc (length-to_bytes n x)

-- the number that they make
number-low : (n x : ℕ) → from_bytes (to_bytes n x) ≡ x % 2 ^ (8 * n)
unfolding from_bytes to_bytes
number-low zero x = sym (mod-one x)
number-low (suc n) x =
    let e : 8 * suc n ≡ 8 + 8 * n = omega arith in
    rw (length-to_bytes n x, number-low n x, e) (sym (mod-pow-add x 8 (8 * n)))

pub number_read : (n x : ℕ) → x < 2 ^ (8 * n) → from_bytes (to_bytes n x) ≡ x
number_read n x h = number-low n x ∙ mod-eq_of_lt h

pub from_bytes-lt : (bs : List ℕ) → Bytes bs → from_bytes bs < 2 ^ (8 * length bs)
unfolding from_bytes
from_bytes-lt [] h = omega arith
from_bytes-lt (b ∷ bs) h =
    let e : 8 * suc (length bs) ≡ 8 + 8 * length bs = omega arith in
    subst (λ (x : ℕ). from_bytes (b ∷ bs) < x) (sym (ap (λ (k : ℕ). 2 ^ k) e ∙ pow-add 2 8 (8 * length bs)))
    (digits_lt (h 0) (from_bytes-lt bs (λ i. h (suc i))))

-- the same number by shifts at 64 bits and ors, byte after byte, from a number of p bytes on
abbrev pub next_byte : ℕ → ℕ → ℕ
next_byte x b = bit_or ((x * 2 ^ 8) % 2 ^ 64) b

pub from_bytes-onward : (bs : List ℕ) (x p : ℕ) → Bytes bs → x < 2 ^ (8 * p) → p + length bs ≤ 8 → fold next_byte x bs ≡ x * 2 ^ (8 * length bs) + from_bytes bs
unfolding from_bytes
from_bytes-onward [] x p h l few = omega arith
from_bytes-onward (b ∷ bs) x p h l few =
    let n : ℕ = length bs in
    let next : next_byte x b ≡ x * 2 ^ 8 + b = ap (λ (y : ℕ). bit_or y b) (shl_exact (8 * p) 8 64 l (omega arith)) ∙ or_shifted x 8 b (h 0) in
    let places : 8 * suc p ≡ 8 * p + 8 = omega arith in
    let places' : 8 * suc n ≡ 8 + 8 * n = omega arith in
    let fits : x * 2 ^ 8 + b < 2 ^ (8 * suc p) = rw (places, pow-add 2 (8 * p) 8) (digits_lt l (h 0)) in
    ap (λ (y : ℕ). fold next_byte y bs) next
    ∙ from_bytes-onward bs (x * 2 ^ 8 + b) (suc p) (λ i. h (suc i)) fits (omega arith)
    ∙ rw (places', pow-add 2 8 (8 * n), add-mul (x * 2 ^ 8) b (2 ^ (8 * n)), mul_assoc x (2 ^ 8) (2 ^ (8 * n)), add_assoc)

pub from_bytes-folded : (bs : List ℕ) → Bytes bs → length bs ≤ 8 → fold next_byte 0 bs ≡ from_bytes bs
from_bytes-folded bs h few = from_bytes-onward bs 0 0 h (omega arith) (omega arith) ∙ rw zero-mul (zero-add (from_bytes bs))

-- ---- byte 8 * j + i of some words, which n more of its word follow

pub in_word : (j i n : ℕ) → i + suc n ≡ 8 → (8 * j + i) / 8 ≡ j
in_word j i n e = omega arith

pub weight_in : (j i n : ℕ) → i + suc n ≡ 8 → weight (8 * j + i) ≡ 2 ^ (8 * n)
unfolding weight
weight_in j i n e =
    let places : 8 * (7 - (8 * j + i) % 8) ≡ 8 * n = omega arith in
    ap (λ (p : ℕ). 2 ^ p) places

-- bytes of word j from its byte i on, which q more of its bytes follow: the number that they make there
pub window-within : (bs : List ℕ) (j i q : ℕ) → Bytes bs → i + length bs + q ≡ 8 → window (8 * j + i) bs j ≡ from_bytes bs * 2 ^ (8 * q)
unfolding window from_bytes
window-within [] j i q h e = rw zero-mul
window-within (b ∷ bs) j i q h e =
    let here : eqb ((8 * j + i) / 8) j ≡ true = eq-eqb ((8 * j + i) / 8) j (in_word j i (length bs + q) (omega (arith, e))) in
    let places : 8 * (length bs + q) ≡ 8 * length bs + 8 * q = omega arith in
    rw (
      here,
      weight_in j i (length bs + q) (omega (arith, e)),
      places,
      ← add-suc (8 * j) i,
      window-within bs j (suc i) q (λ n. h (suc n)) (omega (arith, e)),
    )
    (xor_joined b (from_bytes bs) (8 * length bs) (8 * q) (from_bytes-lt bs (λ n. h (suc n))))

-- and read: the lowest bytes of the word
read-rest : (n : ℕ) (ws : List ℕ) (j i : ℕ) → i + n ≡ 8 → bytes_from (8 * j + i) n ws ≡ to_bytes n (get_or ws j 0)
unfolding bytes_from byte_at to_bytes
read-rest zero ws j i e = refl
read-rest (suc n) ws j i e =
    ap₂ (λ (b : ℕ) (t : List ℕ). b ∷ t)
    (ap₂ (λ (q s : ℕ). get_or ws q 0 / s % 256) (in_word j i n e) (weight_in j i n e))
    (ap (λ (k : ℕ). bytes_from k n ws) (sym (add-suc (8 * j) i)) ∙ read-rest n ws j (suc i) (omega (arith, e)))

pub bytes_from-word : (ws : List ℕ) (j : ℕ) → bytes_from (8 * j) 8 ws ≡ to_bytes 8 (get_or ws j 0)
bytes_from-word ws j = ap (λ (k : ℕ). bytes_from k 8 ws) (sym (add-zero (8 * j))) ∙ read-rest 8 ws j 0 refl

-- ---- bytes one after the other

pub xor_from_append : (a b : List ℕ) (k : ℕ) (ws : List ℕ) → xor_from k (a ++ b) ws ≡ xor_from (k + length a) b (xor_from k a ws)
unfolding xor_from
xor_from_append [] b k ws = rw add-zero
xor_from_append (x ∷ a) b k ws = xor_from_append a b (suc k) (xor_at k x ws) ∙ rw (suc-add, add-suc)

-- zero changes nothing, and nor do zero bytes
pub xor_word-zero : (j : ℕ) (ws : List ℕ) → xor_word j 0 ws ≡ ws
unfolding xor_word
xor_word-zero j ws = simp (xor_zero_r, set-get_or)

xor_at-by-zero : (k : ℕ) (ws : List ℕ) → xor_at k 0 ws ≡ ws
unfolding xor_at
xor_at-by-zero k ws = rw zero-mul (xor_word-zero (k / 8) ws)

pub xor_from-zeros : (n k : ℕ) (ws : List ℕ) → xor_from k (replicate n 0) ws ≡ ws
unfolding xor_from
xor_from-zeros zero k ws = refl
xor_from-zeros (suc n) k ws = xor_from-zeros n (suc k) (xor_at k 0 ws) ∙ xor_at-by-zero k ws

-- ---- runs of bytes

pub bytes_from-add : (m n k : ℕ) (ws : List ℕ) → bytes_from k (m + n) ws ≡ bytes_from k m ws ++ bytes_from (k + m) n ws
unfolding bytes_from
bytes_from-add zero n k ws = rw (zero-add, add-zero)
bytes_from-add (suc m) n k ws = rw (suc-add, bytes_from-add m n (suc k) ws, suc-add, add-suc)

pub length-bytes_from : (n k : ℕ) (ws : List ℕ) → length (bytes_from k n ws) ≡ n
unfolding bytes_from
length-bytes_from zero k ws = refl
length-bytes_from (suc n) k ws = ap suc (length-bytes_from n (suc k) ws)

pub bytes_from-at : (n k i : ℕ) (ws : List ℕ) → i < n → get_or (bytes_from k n ws) i 0 ≡ byte_at ws (k + i)
unfolding bytes_from
bytes_from-at zero k i ws h = absurd (not-suc-le-zero h)
bytes_from-at (suc n) k zero ws h = ap (byte_at ws) (sym (add-zero k))
bytes_from-at (suc n) k (suc i) ws h =
    let next : suc k + i ≡ k + suc i = omega arith in
    bytes_from-at n (suc k) i ws (le_of_suc-le-suc h) ∙ ap (byte_at ws) next

pub take-bytes_from : (n m k : ℕ) (ws : List ℕ) → n ≤ m → take n (bytes_from k m ws) ≡ bytes_from k n ws
take-bytes_from n m k ws h =
    let rest : m ≡ n + (m - n) = omega arith in
    rw (rest, bytes_from-add n (m - n) k ws) (take_at (bytes_from k n ws) (bytes_from (k + n) (m - n) ws) n (length-bytes_from n k ws))

-- a list is the bytes from k on if each of its elements is the byte of its index, and only then
pub by_bytes : (l : List ℕ) (k : ℕ) (ws : List ℕ) → ((i : ℕ) → i < length l → get_or l i 0 ≡ byte_at ws (k + i)) → l ≡ bytes_from k (length l) ws
by_bytes l k ws h =
    ext_get_or 0 l (bytes_from k (length l) ws) (sym (length-bytes_from (length l) k ws)) (λ i j. h i j ∙ sym (bytes_from-at (length l) k i ws j))

pub each-byte : (l : List ℕ) (k : ℕ) (ws : List ℕ) → l ≡ bytes_from k (length l) ws → (i : ℕ) → i < length l → get_or l i 0 ≡ byte_at ws (k + i)
each-byte l k ws e i j = ap (λ (t : List ℕ). get_or t i 0) e ∙ bytes_from-at (length l) k i ws j

-- ---- the library's conversions of a number of 64 bits

pub big_endian-read : (bs : List ℕ) → length bs ≡ 8 → from_be_bytes w64 bs ≡ from_bytes bs
unfolding from_bytes
big_endian-read bs eight =
    let all : bs ≡ listed 8 (λ i. get_or bs i 0) = written_out 8 bs eight in
    let read : from_be_bytes w64 bs ≡ from_bytes (listed 8 (λ i. get_or bs i 0)) = omega arith in
    read ∙ sym (ap from_bytes all)

pub big_endian-written : (x : ℕ) → to_be_bytes w64 x ≡ to_bytes 8 x
unfolding to_bytes
big_endian-written x = simp div-one refl
