-- An answer of code is told whole: its numbers stand in the fields of `Answer` that are named for them, and a refusal's where 0 stands for an accepted call.
-- So what a call promises of its answer, its numbers and which call's it is, leaves one answer.
-- The laws are for the reader, and tie `answer_of` to its numbers: no proof cites them, and with another `answer_of` they do not hold.
-- Assumes nothing.
use mathlib.Core.Bool.{true≢false}
use Rattle.std.proofs.Common.{◌≡◌, refl, sym, ap, ◌∙◌, ℕ, Bool, true, cond, eqb, ne_eqb}
use Rattle.std.specs.Prelude.{Result, Ok, Err}
use Rattle.checks.specs.declared.refusal.Refusal.{Refusal}
use Rattle.checks.specs.Refusals.{refusal_number, answer_number}
use Rattle.checks.proofs.Refusals.{refusal_number-positive, numbered, numbered-back}
use Rattle.calls.specs.declared.Accepted.{Accepted}
use Rattle.calls.specs.declared.Accepted.TheVariants.{Opened, Counted, Judged, Summed}
use Rattle.calls.specs.Answer.{Answer, answer_of, of_open, of_count, of_check, of_sum}

pub opened-read : (ticket runs : ℕ) → ((answer_of (Ok (Opened ticket runs))).ticket ≡ ticket) × ((answer_of (Ok (Opened ticket runs))).runs ≡ runs)
opened-read ticket runs = (refl, refl)

pub counted-read : (runs : ℕ) → (answer_of (Ok (Counted runs))).runs ≡ runs
counted-read runs = refl

pub judged-read : (passed : Bool) (runs : ℕ) → ((answer_of (Ok (Judged passed runs))).passed ≡ passed) × ((answer_of (Ok (Judged passed runs))).runs ≡ runs)
judged-read passed runs = (refl, refl)

pub summed-read : (n : ℕ) → (answer_of (Ok (Summed n))).sum ≡ n
summed-read n = refl

pub number-read : (a : Result Accepted Refusal) → (answer_of a).refusal ≡ answer_number a
number-read (Ok (Opened ticket runs)) = refl
number-read (Ok (Counted runs)) = refl
number-read (Ok (Judged passed runs)) = refl
number-read (Ok (Summed n)) = refl
number-read (Err refusal) = refl

-- ---- an answer is had back from its numbers, where it is known which call's it is

-- by what an accepted call's answer is of them
abbrev pub read_back : (Answer → Accepted) → Answer → Result Accepted Refusal
read_back accept a = cond (eqb a.refusal 0) (Ok (accept a)) (Err (numbered a.refusal))

refused-back : (accept : Answer → Accepted) (x : Refusal) → read_back accept (answer_of (Err x)) ≡ Err x
refused-back accept x = rw (ne_eqb (refusal_number x) 0 (refusal_number-positive x)) (ap Err (numbered-back x))

pub open-back : (a : Result Accepted Refusal) → of_open a ≡ true → read_back (λ (a : Answer). Opened a.ticket a.runs) (answer_of a) ≡ a
open-back (Err x) p = refused-back (λ (a : Answer). Opened a.ticket a.runs) x
open-back (Ok (Opened t n)) p = refl
open-back (Ok (Counted n)) p = absurd (true≢false (sym p))
open-back (Ok (Judged v n)) p = absurd (true≢false (sym p))
open-back (Ok (Summed n)) p = absurd (true≢false (sym p))

pub count-back : (a : Result Accepted Refusal) → of_count a ≡ true → read_back (λ (a : Answer). Counted a.runs) (answer_of a) ≡ a
count-back (Err x) p = refused-back (λ (a : Answer). Counted a.runs) x
count-back (Ok (Opened t n)) p = absurd (true≢false (sym p))
count-back (Ok (Counted n)) p = refl
count-back (Ok (Judged v n)) p = absurd (true≢false (sym p))
count-back (Ok (Summed n)) p = absurd (true≢false (sym p))

pub check-back : (a : Result Accepted Refusal) → of_check a ≡ true → read_back (λ (a : Answer). Judged a.passed a.runs) (answer_of a) ≡ a
check-back (Err x) p = refused-back (λ (a : Answer). Judged a.passed a.runs) x
check-back (Ok (Opened t n)) p = absurd (true≢false (sym p))
check-back (Ok (Counted n)) p = absurd (true≢false (sym p))
check-back (Ok (Judged v n)) p = refl
check-back (Ok (Summed n)) p = absurd (true≢false (sym p))

pub sum-back : (a : Result Accepted Refusal) → of_sum a ≡ true → read_back (λ (a : Answer). Summed a.sum) (answer_of a) ≡ a
sum-back (Err x) p = refused-back (λ (a : Answer). Summed a.sum) x
sum-back (Ok (Opened t n)) p = absurd (true≢false (sym p))
sum-back (Ok (Counted n)) p = absurd (true≢false (sym p))
sum-back (Ok (Judged v n)) p = absurd (true≢false (sym p))
sum-back (Ok (Summed n)) p = refl

-- so two answers of one call that have the same numbers are the same
pub same-numbers : (accept : Answer → Accepted) (a b : Result Accepted Refusal)
    → read_back accept (answer_of a) ≡ a → read_back accept (answer_of b) ≡ b → answer_of a ≡ answer_of b → a ≡ b
same-numbers accept a b p q e = sym p ∙ ap (read_back accept) e ∙ q
