-- A lent buffer after bytes were written into it. The laws of proofs/Buffers.antt tell it byte by byte.
-- Assumes nothing.
use Rattle.std.specs.Prelude.{List, ◌++◌, ℕ, ◌+◌, length, take, drop}

-- bytes written from a place on; the buffer keeps its others
unfoldable pub written : List ℕ → ℕ → List ℕ → List ℕ
written buffer place bytes = take place buffer ++ (bytes ++ drop (place + length bytes) buffer)
