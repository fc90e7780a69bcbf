-- Bytes of 64-bit words, the highest byte of a word first: byte k of some words is byte k % 8, from the top, of word k / 8.
-- A word past the end reads 0, and is not written. The laws `xored_byte` and `xored_block` tell xoring byte by byte, and `words-read` says that the words made of
-- 8 × n bytes, read as bytes, are these (all in proofs/Xored.antt).
-- Assumes nothing.
use Rattle.std.specs.Prelude.{cond, List, [], ◌∷◌, ◌++◌, ℕ, zero, suc, ◌+◌, ◌-◌, ◌*◌, ◌/◌, ◌%◌, ◌^◌, eqb, length, get_or, set, take, drop, replicate}
use Rattle.std.specs.Int.Bits.{bit_xor}

-- the weight of byte k in its word: 2 ^ 56 for the first of eight, 1 for the last
unfoldable pub weight : ℕ → ℕ
weight k = 2 ^ (8 * (7 - k % 8))

-- byte k of the words
unfoldable pub byte_at : List ℕ → ℕ → ℕ
byte_at ws k = get_or ws (k / 8) 0 / weight k % 256

-- n bytes of the words, from byte k on
unfoldable pub bytes_from : ℕ → ℕ → List ℕ → List ℕ
bytes_from k zero ws = []
bytes_from k (suc n) ws = byte_at ws k ∷ bytes_from (suc k) n ws

-- x xored into word j
unfoldable pub xor_word : ℕ → ℕ → List ℕ → List ℕ
xor_word j x ws = set ws j (bit_xor (get_or ws j 0) x)

-- b xored into byte k
unfoldable pub xor_at : ℕ → ℕ → List ℕ → List ℕ
xor_at k b ws = xor_word (k / 8) (b * weight k) ws

-- bytes xored into the bytes from k on
unfoldable pub xor_from : ℕ → List ℕ → List ℕ → List ℕ
xor_from k [] ws = ws
xor_from k (b ∷ bs) ws = xor_from (suc k) bs (xor_at k b ws)

-- two lists of bytes, xored byte by byte as far as both go
unfoldable pub xor_bytes : List ℕ → List ℕ → List ℕ
xor_bytes [] ys = []
xor_bytes (x ∷ xs) [] = []
xor_bytes (x ∷ xs) (y ∷ ys) = bit_xor x y ∷ xor_bytes xs ys

-- ---- bytes as numbers

-- the number that bytes make in word j, if the first of them stands at byte k
unfoldable pub window : ℕ → List ℕ → ℕ → ℕ
window k [] j = 0
window k (b ∷ bs) j = bit_xor (cond (eqb (k / 8) j) (b * weight k) 0) (window (suc k) bs j)

-- the number that bytes make, the first on top
unfoldable pub from_bytes : List ℕ → ℕ
from_bytes [] = 0
from_bytes (b ∷ bs) = b * 2 ^ (8 * length bs) + from_bytes bs

-- the n lowest bytes of a number, the highest first
unfoldable pub to_bytes : ℕ → ℕ → List ℕ
to_bytes zero x = []
to_bytes (suc n) x = x / 2 ^ (8 * n) % 256 ∷ to_bytes n x

-- the n words that 8 × n bytes make, the first byte of each on top
unfoldable pub words_of : ℕ → List ℕ → List ℕ
words_of zero bs = []
words_of (suc n) bs = from_bytes (take 8 bs) ∷ words_of n (drop 8 bs)

-- bytes, and zeros after them up to n
unfoldable pub zeros_to : ℕ → List ℕ → List ℕ
zeros_to n bs = bs ++ replicate (n - length bs) 0
