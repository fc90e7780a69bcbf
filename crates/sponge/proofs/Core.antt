-- Sums of 64 bits, and the words and runs of a record apart from its other fields.
-- Assumes nothing.
use Rattle.std.proofs.Common.{◌≡◌, ℕ, ◌+◌, ◌^◌, ◌<◌, Bool, true, false, refl, ◌∙◌, add-zero, add_assoc, mod-lt, mod-eq_of_lt, arith}
use native.Mathlib.Nat.{mod-add-mod}
use Rattle.sponge.specs.declared.record.Record.{Record}
use Rattle.mode.specs.Mode.{Row}
use Rattle.sponge.specs.Record.{sum64, with_core, after_run, run_if}

-- ---- sums of 64 bits

pub sum64-lt : (a b : ℕ) → sum64 a b < 2 ^ 64
unfolding sum64
sum64-lt a b = mod-lt (a + b) (omega arith)

pub sum64-sum64 : (a b c : ℕ) → sum64 (sum64 a b) c ≡ sum64 a (b + c)
unfolding sum64
sum64-sum64 a b c = mod-add-mod (a + b) (2 ^ 64) c ∙ rw add_assoc

pub sum64-fits : (a b : ℕ) → a + b < 2 ^ 64 → sum64 a b ≡ a + b
unfolding sum64
sum64-fits a b h = mod-eq_of_lt h

pub sum64-zero : (a : ℕ) → a < 2 ^ 64 → sum64 a 0 ≡ a
sum64-zero a h = sum64-fits a 0 (omega arith) ∙ add-zero a

-- ---- words and runs apart from the other fields

-- x with the words and the runs of y
abbrev pub with_core_of : Record → Record → Record
with_core_of y x = with_core y.words y.runs x

-- a run reads and changes the words and the runs of a record, and nothing else: x has the other fields
pub run_if_core : (w : Row) (due : Bool) (r x : Record) → run_if w due (with_core_of r x) ≡ with_core_of (run_if w due r) x
unfolding run_if after_run
run_if_core w true r x = refl
run_if_core w false r x = refl
