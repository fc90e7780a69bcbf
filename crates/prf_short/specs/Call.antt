-- What a call of the short function gives, for any key, message and lent buffer and any output length t: document 01's checks 2, 5 and 6.
-- Assumes nothing.
use Rattle.std.specs.Prelude.{Bool, not, ◌||◌, List, [], ◌∷◌, ℕ, eqb, ltb, length}
use Rattle.checks.specs.Checks.{OneCheck, refusal, checked}
use Rattle.prf_short.specs.Short.{prf_short}

-- the output's length is not 1 to 16, or its buffer has another length
abbrev pub wrong_output : ℕ → ℕ → Bool
wrong_output lent t = ltb t 1 || (ltb 16 t || not (eqb lent t))

unfoldable pub short_checks : List ℕ → List ℕ → List ℕ → ℕ → List OneCheck
short_checks key message out t =
    refusal 2 (not (eqb (length key) 16)) ∷ refusal 5 (ltb 16 (length message)) ∷ refusal 6 (wrong_output (length out) t) ∷ []

-- what is answered: a refusal's number, or 0
unfoldable pub short_answer : List ℕ → List ℕ → List ℕ → ℕ → ℕ
short_answer key message out t = checked (λ (n : ℕ). n) (short_checks key message out t) 0

-- what the buffer holds afterwards: the output, or, refused, what it held before
unfoldable pub short_after : List ℕ → List ℕ → List ℕ → ℕ → List ℕ
short_after key message out t = checked (λ (n : ℕ). out) (short_checks key message out t) (prf_short key message t)
