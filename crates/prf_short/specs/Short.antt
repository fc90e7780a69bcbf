-- The short function: document 01's "Short function and frames", which is Algorithm 3 of "Ascon PRF, MAC, and Short-Input MAC" (source document 003), whose symbols
-- stand in brackets. Key, message and output are lists of bytes, and a state is read as forty.
-- Assumes nothing.
use Rattle.std.specs.Prelude.{List, [], ◌∷◌, ◌++◌, ℕ, ◌-◌, ◌*◌, length, drop}
use Rattle.word.specs.Bytes.{bytes_from, xor_bytes, from_bytes, words_of, zeros_to}
use Rattle.permutation.specs.Permutation.{permute}

-- the last t bytes [⌈X⌉^t]
unfoldable pub last_bytes : ℕ → List ℕ → List ℕ
last_bytes t bs = drop (length bs - t) bs

-- the first eight bytes of the start, for a message of m bytes and an output of t [IV]
unfoldable pub start_value : ℕ → ℕ → List ℕ
start_value m t = 0x80 ∷ 8 * m ∷ 0x4c ∷ 8 * t ∷ 0 ∷ 0 ∷ 0 ∷ 0 ∷ []

-- document 01's short start word
abbrev pub start_word : ℕ → ℕ → ℕ
start_word m t = from_bytes (start_value m t)

-- the start: that value, key, message, zeros up to forty bytes [IV ∥ K ∥ M ∥ 0*]
unfoldable pub start : List ℕ → List ℕ → ℕ → List ℕ
start key message t = zeros_to 40 (start_value (length message) t ++ (key ++ message))

-- the state after one run of twelve rounds, as bytes [S]
unfoldable pub ended : List ℕ → List ℕ → ℕ → List ℕ
ended key message t = bytes_from 0 40 (permute 12 (words_of 5 (start key message t)))

-- the output: the last t bytes of that state, xored with the last t bytes of the key [T]
unfoldable pub prf_short : List ℕ → List ℕ → ℕ → List ℕ
prf_short key message t = xor_bytes (last_bytes t (ended key message t)) (last_bytes t key)
