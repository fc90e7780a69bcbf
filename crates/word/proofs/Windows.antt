-- Bytes xored into words, word by word: word j is xored with the number that the bytes make in it, its window.
-- Assumes nothing.
use mathlib.Core.Bool.{cond}
use mathlib.Core.Path.{◌≡◌, refl, sym, ap, ◌∙◌, subst}
use mathlib.Core.List.{List, [], ◌∷◌, ◌++◌}
use Prim.Native.Nat.{ℕ, zero, suc, ◌+◌, ◌-◌, ◌*◌, ◌/◌, ◌%◌, ◌^◌, ◌≤◌, ◌<◌}
use native.Mathlib.Decide.{dec_lt, ℕ_discrete}
use native.Mathlib.Nat.{add-zero, add-suc, suc-add, sub-zero, mul-one}
use native.Mathlib.Omega.{arith}
use borrow.Author.Tests.{eq-eqb, ne_eqb}
use lib.Arith.{digits_lt}
use lib.Bits.{bit_xor, xor_zero_r}
use lib.Dec.{eqb}
use lib.Pow.{pow-add}
use lib.ListN.{length, get_or, set, take, drop, replicate, drop_of_length-le, length-set, length-drop, length-replicate, take-append-drop}
use lib.Seq.{get_or-set_same, get_or-set_other, drop-cons, drop-drop, length-take-le}
use Rattle.word.specs.Bytes.{weight, xor_word, xor_at, xor_from, window, from_bytes, words_of}
use Rattle.word.proofs.Arrays.{listed, listed_same, written_out}
use Rattle.word.proofs.Lists.{zeros-at}
use Rattle.word.proofs.Bytes.{xor_assoc, xor_joined, Bytes, part_bytes, window-within}

-- ---- windows

-- a byte that stands in no byte of word j
window-other : (k b j : ℕ) (bs : List ℕ) → (k / 8 ≡ j → ⊥) → window k (b ∷ bs) j ≡ window (suc k) bs j
unfolding window
window-other k b j bs ne = rw (ne_eqb (k / 8) j ne)

-- bytes that stand after word j, or before it
pub window_past : (bs : List ℕ) (k j : ℕ) → 8 * j + 8 ≤ k → window k bs j ≡ 0
unfolding window
window_past [] k j h = refl
window_past (b ∷ bs) k j h = window-other k b j bs (λ e. omega arith) ∙ window_past bs (suc k) j (omega arith)

pub window-before : (bs : List ℕ) (k j : ℕ) → k + length bs ≤ 8 * j → window k bs j ≡ 0
unfolding window
window-before [] k j h = refl
window-before (b ∷ bs) k j h = window-other k b j bs (λ e. omega arith) ∙ window-before bs (suc k) j (omega arith)

window_append : (a b : List ℕ) (k j : ℕ) → window k (a ++ b) j ≡ bit_xor (window k a j) (window (k + length a) b j)
unfolding window
window_append [] b k j = rw add-zero refl
window_append (x ∷ a) b k j =
    ap (bit_xor (cond (eqb (k / 8) j) (x * weight k) 0)) (window_append a b (suc k) j ∙ rw (suc-add, add-suc))
    ∙ sym (xor_assoc (cond (eqb (k / 8) j) (x * weight k) 0) (window (suc k) a j) (window (k + suc (length a)) b j))

-- the first n bytes, and the others
window-split : (bs : List ℕ) (n k j : ℕ) → n ≤ length bs → window k bs j ≡ bit_xor (window k (take n bs) j) (window (k + n) (drop n bs) j)
window-split bs n k j h =
    ap (λ (l : List ℕ). window k l j) (sym (take-append-drop n bs)) ∙ window_append (take n bs) (drop n bs) k j
    ∙ ap (λ (m : ℕ). bit_xor (window k (take n bs) j) (window (k + m) (drop n bs) j)) (length-take-le n bs h)

-- the first n bytes stand before word j
window-skip : (bs : List ℕ) (n k j : ℕ) → n ≤ length bs → k + n ≤ 8 * j → window k bs j ≡ window (k + n) (drop n bs) j
window-skip bs n k j h l =
    let none : window k (take n bs) j ≡ 0 = window-before (take n bs) k j (omega (arith, length-take-le n bs h)) in
    window-split bs n k j h ∙ ap (λ (x : ℕ). bit_xor x (window (k + n) (drop n bs) j)) none

-- what stands before word j is left out
pub window-from : (bs : List ℕ) (n k j : ℕ) → n ≤ length bs → n ≡ 8 * j - k → window (k + n) (drop n bs) j ≡ window k bs j
window-from bs zero k j h e = rw add-zero
window-from bs (suc n) k j h e = sym (window-skip bs (suc n) k j h (omega arith))

-- nothing of word j is left
pub window-done : (bs : List ℕ) (k i j : ℕ) → (i < length bs → 8 * j + 8 ≤ k + i) → window (k + i) (drop i bs) j ≡ 0
unfolding window
window-done bs k i j past = go (dec_lt i (length bs))
  where
    go : Dec (i < length bs) → window (k + i) (drop i bs) j ≡ 0
    go (yes l) = window_past (drop i bs) (k + i) j (past l)
    go (no l) =
        let all : length bs ≤ i = omega arith in
        rw (drop_of_length-le bs all)

-- the next byte, which stands in word j, and then what is left
pub window-next : (bs : List ℕ) (k i j : ℕ) → i < length bs → (k + i) / 8 ≡ j
    → window (k + i) (drop i bs) j ≡ bit_xor (get_or bs i 0 * weight (k + i)) (window (k + (i + 1)) (drop (i + 1) bs) j)
unfolding window
window-next bs k i j h e =
    let next : k + (i + 1) ≡ suc (k + i) = omega arith in
    let one : i + 1 ≡ suc i = omega arith in
    rw (drop-cons bs i 0 h, next, one, eq-eqb ((k + i) / 8) j e)

-- a number of p bytes and one byte more: how large it is, and what it makes where q bits follow it
pub next-byte-lt : (x b p : ℕ) → x < 2 ^ (8 * p) → b < 256 → x * 256 + b < 2 ^ (8 * suc p)
next-byte-lt x b p h l =
    let places : 8 * suc p ≡ 8 * p + 8 = omega arith in
    subst (λ (y : ℕ). x * 256 + b < y) (sym (ap (λ (n : ℕ). 2 ^ n) places ∙ pow-add 2 (8 * p) 8)) (digits_lt h l)

pub next-byte_xor : (x b q w : ℕ) → b < 256 → bit_xor ((x * 256 + b) * 2 ^ q) w ≡ bit_xor (x * 2 ^ (8 + q)) (bit_xor (b * 2 ^ q) w)
next-byte_xor x b q w l = ap (λ (y : ℕ). bit_xor y w) (sym (xor_joined x b 8 q l)) ∙ xor_assoc (x * 2 ^ (8 + q)) (b * 2 ^ q) w

-- eight bytes that are word j
pub window-word : (bs : List ℕ) (j : ℕ) → Bytes bs → length bs ≡ 8 → window (8 * j) bs j ≡ from_bytes bs
window-word bs j h e =
    ap (λ (k : ℕ). window k bs j) (sym (add-zero (8 * j))) ∙ window-within bs j 0 0 h (omega (arith, e)) ∙ mul-one (from_bytes bs)

-- bytes that stand i words further on make the same numbers i words further on
pub window-moved : (bs : List ℕ) (i k j : ℕ) → window (8 * i + k) bs (i + j) ≡ window k bs j
unfolding window weight
window-moved [] i k j = refl
window-moved (b ∷ bs) i k j =
    let word : (8 * i + k) / 8 ≡ i + k / 8 = omega arith in
    let place : (8 * i + k) % 8 ≡ k % 8 = omega arith in
    let rest : window (suc (8 * i + k)) bs (i + j) ≡ window (suc k) bs j = ap (λ (n : ℕ). window n bs (i + j)) (sym (add-suc (8 * i) k))
    ∙ window-moved bs i (suc k) j in
    rw (word, place, same_word (ℕ_discrete (k / 8) j), rest)
  where
    same_word : Dec (k / 8 ≡ j) → eqb (i + k / 8) (i + j) ≡ eqb (k / 8) j
    same_word (yes e) = eq-eqb (i + k / 8) (i + j) (omega arith) ∙ sym (eq-eqb (k / 8) j e)
    same_word (no n) = ne_eqb (i + k / 8) (i + j) (λ e. n (omega arith)) ∙ sym (ne_eqb (k / 8) j n)

-- the part of the bytes, from begin to end, that stands in word j
pub window-part : (bs : List ℕ) (k j begin end : ℕ) → Bytes bs → begin ≡ 8 * j - k → begin ≤ end → end ≤ length bs → k + end ≤ 8 * j + 8
    → (end < length bs → 8 * j + 8 ≤ k + end) → window k bs j ≡ from_bytes (take (end - begin) (drop begin bs)) * 2 ^ (8 * (8 * j + 8 - (k + end)))
window-part bs k j begin end bytes first ordered inside within all =
    let n : ℕ = end - begin in
    let part : List ℕ = take n (drop begin bs) in
    let count : length part ≡ n = length-take-le n (drop begin bs) (omega (arith, length-drop begin bs)) in
    let place : k + begin ≡ 8 * j + (k + begin - 8 * j) = omega arith in
    let rest : begin + n ≡ end = omega arith in
    let rest' : k + begin + n ≡ k + end = omega arith in
    let none : window (k + begin + n) (drop n (drop begin bs)) j ≡ 0 = rw (drop-drop, rest, rest') (window-done bs k end j all) in
    sym (window-from bs begin k j (omega arith) first)
    ∙ window-split (drop begin bs) n (k + begin) j (omega (arith, length-drop begin bs))
    ∙ ap (bit_xor (window (k + begin) part j)) none ∙ xor_zero_r (window (k + begin) part j)
    ∙ ap (λ (m : ℕ). window m part j) place
    ∙ window-within part j (k + begin - 8 * j) (8 * j + 8 - (k + end)) (part_bytes n begin bs bytes) (omega (arith, count))

-- all eight bytes of word j are there
pub window-all : (bs : List ℕ) (k j : ℕ) → Bytes bs → k ≤ 8 * j → 8 * j + 8 ≤ k + length bs → window k bs j ≡ from_bytes (take 8 (drop (8 * j - k) bs))
window-all bs k j bytes before after =
    let n : ℕ = 8 * j - k in
    let eight : n + 8 - n ≡ 8 = omega arith in
    let none : 8 * j + 8 - (k + (n + 8)) ≡ 0 = omega arith in
    window-part bs k j n (n + 8) bytes refl (omega arith) (omega arith) (omega arith) (λ l. omega arith)
    ∙ rw (eight, none) (mul-one (from_bytes (take 8 (drop n bs))))

-- and if the first n bytes alone are taken, all eight bytes are among them
pub window-first : (bs : List ℕ) (n j : ℕ) → Bytes bs → n ≤ length bs → 8 * j + 8 ≤ n → window 0 (take n bs) j ≡ from_bytes (take 8 (drop (8 * j) bs))
window-first bs n j bytes h l =
    let whole : window 0 bs j ≡ window 0 (take n bs) j =
    window-split bs n 0 j h ∙ ap (bit_xor (window 0 (take n bs) j)) (window_past (drop n bs) (0 + n) j (omega arith)) ∙ xor_zero_r (window 0 (take n bs) j) in
    sym whole ∙ rw sub-zero at (window-all bs 0 j bytes (omega arith) (omega arith))

-- ---- words

pub length-xor_from : (bs ws : List ℕ) (k : ℕ) → length (xor_from k bs ws) ≡ length ws
unfolding xor_from xor_at xor_word
length-xor_from [] ws k = refl
length-xor_from (b ∷ bs) ws k = length-xor_from bs (xor_at k b ws) (suc k) ∙ length-set ws (k / 8) _

-- word j after a byte is xored in
word-xor_at : (k b j : ℕ) (ws : List ℕ) → j < length ws → get_or (xor_at k b ws) j 0 ≡ bit_xor (get_or ws j 0) (cond (eqb (k / 8) j) (b * weight k) 0)
unfolding xor_at xor_word
word-xor_at k b j ws h = go (ℕ_discrete (k / 8) j)
  where
    go : Dec (k / 8 ≡ j) → get_or (set ws (k / 8) (bit_xor (get_or ws (k / 8) 0) (b * weight k))) j 0 ≡ bit_xor (get_or ws j 0) (cond (eqb (k / 8) j) (b * weight k) 0)
    go (yes e) = rw (eq-eqb (k / 8) j e, e) (get_or-set_same ws j (bit_xor (get_or ws j 0) (b * weight k)) 0 h)
    go (no d) = rw (ne_eqb (k / 8) j d, xor_zero_r) (get_or-set_other ws (k / 8) j _ 0 (λ e. d (sym e)))

-- word j after bytes are xored in
pub word-xor_from : (bs ws : List ℕ) (k j : ℕ) → j < length ws → get_or (xor_from k bs ws) j 0 ≡ bit_xor (get_or ws j 0) (window k bs j)
unfolding xor_from window
word-xor_from [] ws k j h = sym (xor_zero_r (get_or ws j 0))
word-xor_from (b ∷ bs) ws k j h =
    word-xor_from bs (xor_at k b ws) (suc k) j (rw (same_length) h)
    ∙ ap (λ (x : ℕ). bit_xor x (window (suc k) bs j)) (word-xor_at k b j ws h)
    ∙ xor_assoc (get_or ws j 0) (cond (eqb (k / 8) j) (b * weight k) 0) (window (suc k) bs j)
  where
    same_length : length (xor_at k b ws) ≡ length ws
    same_length = length-xor_from (b ∷ []) ws k

-- n words after bytes are xored in, written out
pub xor_from-words : (n : ℕ) (bs ws : List ℕ) (k : ℕ) → length ws ≡ n → xor_from k bs ws ≡ listed n (λ j. bit_xor (get_or ws j 0) (window k bs j))
xor_from-words n bs ws k e =
    written_out n (xor_from k bs ws) (length-xor_from bs ws k ∙ e)
    ∙ listed_same n (λ j. get_or (xor_from k bs ws) j 0) (λ j. bit_xor (get_or ws j 0) (window k bs j)) (λ j l. word-xor_from bs ws k j (rw e l))

-- ---- words made of bytes

words_of-listed : (n : ℕ) (bs : List ℕ) → words_of n bs ≡ listed n (λ j. from_bytes (take 8 (drop (8 * j) bs)))
unfolding words_of
words_of-listed zero bs = refl
words_of-listed (suc n) bs =
    ap (λ (l : List ℕ). from_bytes (take 8 bs) ∷ l)
    (words_of-listed n (drop 8 bs)
    ∙ listed_same n (λ j. from_bytes (take 8 (drop (8 * j) (drop 8 bs)))) (λ j. from_bytes (take 8 (drop (8 * suc j) bs))) (λ j l. rw (drop-drop) (next j)))
  where
    next : (j : ℕ) → from_bytes (take 8 (drop (8 + 8 * j) bs)) ≡ from_bytes (take 8 (drop (8 * suc j) bs))
    next j =
        let e : 8 + 8 * j ≡ 8 * suc j = omega arith in
        ap (λ (k : ℕ). from_bytes (take 8 (drop k bs))) e

-- the n words that 8 × n bytes make are zeros with the bytes xored in
pub words_xored : (n : ℕ) (bs : List ℕ) → Bytes bs → length bs ≡ 8 * n → words_of n bs ≡ xor_from 0 bs (replicate n 0)
words_xored n bs bytes e =
    words_of-listed n bs
    ∙ sym (xor_from-words n bs (replicate n 0) 0 (length-replicate n 0)
    ∙ listed_same n (λ j. bit_xor (get_or (replicate n 0) j 0) (window 0 bs j)) (λ j. from_bytes (take 8 (drop (8 * j) bs)))
    (λ j l. rw (zeros-at n j) (rw sub-zero at (window-all bs 0 j bytes (omega arith) (omega arith)))))
