-- A function of states, applied again and again.
-- Assumes nothing.
use Rattle.std.specs.Prelude.{List, ℕ, zero, suc}

-- n times f, one after the other
unfoldable pub repeated : ℕ → (List ℕ → List ℕ) → List ℕ → List ℕ
repeated zero f s = s
repeated (suc n) f s = repeated n f (f s)
