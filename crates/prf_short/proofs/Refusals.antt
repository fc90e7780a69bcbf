-- What a call of the short function gives, case by case, with the numbers of document 01's "Refused": the answer, and the buffer afterwards.
-- For the reader, but for `well_lent` and `short-done`, which the proofs of crate `vectors` cite.
-- Assumes nothing.
use mathlib.Core.Bool.{Bool, true, false, true≢false, not, ◌||◌}
use mathlib.Core.Logic.{◌≢◌}
use mathlib.Core.Path.{◌≡◌, refl}
use mathlib.Core.List.{List}
use Prim.Native.Nat.{ℕ, ◌≤◌, ◌<◌}
use borrow.Author.Tests.{ltb-false, eqb-true, eq-eqb, ne_eqb, lt-ltb, le-ltb}
use lib.Dec.{eqb, ltb}
use lib.ListN.{length}
use Rattle.prf_short.specs.Short.{prf_short}
use Rattle.prf_short.specs.Call.{wrong_output, short_checks, short_answer, short_after}

-- ---- the output's length t, and how many bytes are lent for it

pub none-asked : (lent t : ℕ) → t < 1 → wrong_output lent t ≡ true
none-asked lent t h = rw (lt-ltb t 1 h)

pub too_many-asked : (lent t : ℕ) → 1 ≤ t → 16 < t → wrong_output lent t ≡ true
too_many-asked lent t h h' = rw (le-ltb t 1 h, lt-ltb 16 t h')

pub others-lent : (lent t : ℕ) → 1 ≤ t → t ≤ 16 → lent ≢ t → wrong_output lent t ≡ true
others-lent lent t h h' n = rw (le-ltb t 1 h, le-ltb 16 t h', ne_eqb lent t n)

pub well_lent : (lent t : ℕ) → 1 ≤ t → t ≤ 16 → lent ≡ t → wrong_output lent t ≡ false
well_lent lent t h h' e = rw (le-ltb t 1 h, le-ltb 16 t h', eq-eqb lent t e)

-- nothing is wrong: both are the same, and at most 16
pub lent_is : (lent t : ℕ) → wrong_output lent t ≡ false → (lent ≡ t) × (t ≤ 16)
lent_is lent t e = go (ltb t 1) (ltb 16 t) refl (eqb lent t) refl e
  where
    go : (a b : Bool) → ltb 16 t ≡ b → (c : Bool) → eqb lent t ≡ c → a || (b || not c) ≡ false → (lent ≡ t) × (t ≤ 16)
    go false false y true z h = (eqb-true lent t z, ltb-false 16 t y)
    go false false y false z h = absurd (true≢false h)
    go false true y c z h = absurd (true≢false h)
    go true b y c z h = absurd (true≢false h)

-- ---- the call

module _ (key message out : List ℕ) (t : ℕ) where
  pub short_2 : length key ≢ 16 → (short_answer key message out t ≡ 2) × (short_after key message out t ≡ out)
  unfolding short_answer short_after short_checks
  short_2 n = rw (ne_eqb (length key) 16 n) (refl, refl)

  module _ (key_fits : length key ≡ 16) where
    pub short_5 : 16 < length message → (short_answer key message out t ≡ 5) × (short_after key message out t ≡ out)
    unfolding short_answer short_after short_checks
    short_5 long = rw (eq-eqb (length key) 16 key_fits, lt-ltb 16 (length message) long) (refl, refl)

    module _ (message-fits : length message ≤ 16) where
      pub short_6 : wrong_output (length out) t ≡ true → (short_answer key message out t ≡ 6) × (short_after key message out t ≡ out)
      unfolding short_answer short_after short_checks
      short_6 wrong = rw (eq-eqb (length key) 16 key_fits, le-ltb 16 (length message) message-fits, wrong) (refl, refl)

      pub short-done : wrong_output (length out) t ≡ false → (short_answer key message out t ≡ 0) × (short_after key message out t ≡ prf_short key message t)
      unfolding short_answer short_after short_checks
      short-done fits = rw (eq-eqb (length key) 16 key_fits, le-ltb 16 (length message) message-fits, fits) (refl, refl)
