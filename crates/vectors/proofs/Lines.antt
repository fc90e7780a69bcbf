-- Laws of writing: lines, one after the other, and the output of the short function.
-- Assumes nothing.
use mathlib.Core.Path.{◌≡◌, refl, ap, ◌∙◌}
use mathlib.Core.List.{List, [], ◌∷◌, ◌++◌, append-nil}
use Prim.Native.Nat.{ℕ, zero, suc, ◌+◌, ◌-◌, ◌≤◌, ◌<◌}
use native.Mathlib.Nat.{add-zero, zero-add}
use native.Mathlib.Numerals.{add-one}
use native.Mathlib.Omega.{arith}
use lib.ListN.{length, get_or, take}
use lib.Seq.{take_all, length-take-le}
use Rattle.std.specs.List.{flat_map, range_with_len}
use Rattle.std.proofs.lemmas.List.{take_more}
use Rattle.std.proofs.lemmas.List.Concat.{flat_map-append}
use Rattle.prf_short.specs.Short.{prf_short}
use Rattle.prf_short.specs.Call.{short_after}
use Rattle.prf_short.proofs.Refusals.{well_lent, short-done}
use Rattle.script.proofs.Texts.{parts}
use Rattle.vectors.specs.Lines.{lines}

pub lines-none : (line_of : ℕ → List ℕ) → lines line_of [] ≡ []
unfolding lines
lines-none line_of = refl

pub heading-alone : (heading : List ℕ) (line_of : ℕ → List ℕ) → heading ++ lines line_of [] ≡ heading
heading-alone heading line_of = rw (lines-none line_of, append-nil)

pub lines-next : (line_of : ℕ → List ℕ) (numbers : List ℕ) (n : ℕ) → lines line_of (numbers ++ (n ∷ [])) ≡ lines line_of numbers ++ line_of n
unfolding lines
lines-next line_of numbers n = flat_map-append line_of numbers (n ∷ []) ∙ ap (λ (t : List ℕ). flat_map line_of numbers ++ t) (append-nil (line_of n))

range-more : (a n : ℕ) → range_with_len a (suc n) ≡ range_with_len a n ++ ((a + n) ∷ [])
range-more a zero = rw add-zero
range-more a (suc n) =
    let e : a + suc n ≡ a + 1 + n = omega arith in
    rw e (ap (λ (t : List ℕ). a ∷ t) (range-more (a + 1) n))

-- those of the numbers from a on, and of n behind them
pub lines-more : (line_of : ℕ → List ℕ) (a n : ℕ) → a ≤ n → lines line_of (range_with_len a (n + 1 - a)) ≡ lines line_of (range_with_len a (n - a)) ++ line_of n
lines-more line_of a n h =
    let more : n + 1 - a ≡ suc (n - a) = omega arith in
    let last : a + (n - a) ≡ n = omega arith in
    rw (more, range-more a (n - a), last) (lines-next line_of (range_with_len a (n - a)) n)

pub lines-counted : (line_of : ℕ → List ℕ) (n : ℕ) → lines line_of (range_with_len 0 (n + 1)) ≡ lines line_of (range_with_len 0 n) ++ line_of n
lines-counted line_of n = rw (add-one, range-more 0 n, zero-add) (lines-next line_of (range_with_len 0 n) n)

-- those of the first numbers of a list, and of the next; those of all of them
pub lines-taken : (line_of : ℕ → List ℕ) (numbers : List ℕ) (i : ℕ) → i < length numbers
    → lines line_of (take (i + 1) numbers) ≡ lines line_of (take i numbers) ++ line_of (get_or numbers i 0)
lines-taken line_of numbers i h = rw (take_more numbers i 0 h) (lines-next line_of (take i numbers) (get_or numbers i 0))

pub lines-all : (line_of : ℕ → List ℕ) (numbers : List ℕ) (i : ℕ) → length numbers ≤ i → lines line_of (take i numbers) ≡ lines line_of numbers
lines-all line_of numbers i h = rw (take_all i numbers h)

-- by these lines are written one by one
pub ruleset written = (parts, lines-none, heading-alone, lines-next, lines-more, lines-counted, lines-taken, lines-all)

-- ---- the short function

-- what it leaves in a buffer as long as the output is the output
pub short-made : (bytes out last : List ℕ) (m t : ℕ) → (16 ≤ length bytes) × (m ≤ 16) × (1 ≤ t) × (t ≤ 16) → length out ≡ t
    → last ≡ short_after (take 16 bytes) (take m bytes) out t → last ≡ prf_short (take 16 bytes) (take m bytes) t
short-made bytes out last m t pre e h =
    h
    ∙ (short-done (take 16 bytes) (take m bytes) out t (length-take-le 16 bytes pre.0) (omega (arith, length-take-le m bytes (omega arith)))
    (well_lent (length out) t pre.2 pre.3 e)).1
