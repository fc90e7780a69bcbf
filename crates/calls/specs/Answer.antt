-- What a call answers: document 01's numbers, each in its field, and 0 in the others.
-- Assumes nothing.
use Rattle.std.specs.Prelude.{Bool, true, false, ℕ, Result, Ok, Err, eqb}
use Rattle.checks.specs.declared.refusal.Refusal.{Refusal}
use Rattle.checks.specs.Refusals.{refusal_number}
use Rattle.calls.specs.declared.Accepted.{Accepted}
use Rattle.calls.specs.declared.Accepted.TheVariants.{Opened, Counted, Judged, Summed}

pub record Answer : Type 0 where
  -- the refusal's number; 0: the call is accepted
  pub refusal : ℕ
  -- the ticket that an open gives
  pub ticket : ℕ
  -- the ticket's run count
  pub runs : ℕ
  -- the verdict of a check
  pub passed : Bool
  -- the sum that sum gives
  pub sum : ℕ

-- whether an answer is an accepted call's
abbrev pub accepted : Answer → Bool
accepted a = eqb a.refusal 0

-- a refusal: its number, and nothing else
abbrev pub refused : ℕ → Answer
refused n = record { refusal = n; ticket = 0; runs = 0; passed = false; sum = 0 }

-- an accepted open: the ticket, and its run count
abbrev pub opened : ℕ → ℕ → Answer
opened ticket runs = record { refusal = 0; ticket = ticket; runs = runs; passed = false; sum = 0 }

-- an accepted feed, draw or close: the ticket's run count
abbrev pub counted : ℕ → Answer
counted runs = record { refusal = 0; ticket = 0; runs = runs; passed = false; sum = 0 }

-- an accepted check: the verdict, and the ticket's run count
abbrev pub judged : Bool → ℕ → Answer
judged passed runs = record { refusal = 0; ticket = 0; runs = runs; passed = passed; sum = 0 }

-- a sum
abbrev pub summed : ℕ → Answer
summed n = record { refusal = 0; ticket = 0; runs = 0; passed = false; sum = n }

-- what code answers: an accepted call's value, or a refusal
abbrev pub answer_of : Result Accepted Refusal → Answer
answer_of (Ok (Opened ticket runs)) = opened ticket runs
answer_of (Ok (Counted runs)) = counted runs
answer_of (Ok (Judged passed runs)) = judged passed runs
answer_of (Ok (Summed n)) = summed n
answer_of (Err refusal) = refused (refusal_number refusal)

-- ---- which case an answer is, which `answer_of` does not tell everywhere: each call has one for an accepted call, and a refusal is an answer of every call

abbrev pub of_open : Result Accepted Refusal → Bool
of_open (Ok (Opened ticket runs)) = true
of_open (Err refusal) = true
of_open _ = false

-- a feed, draw or close
abbrev pub of_count : Result Accepted Refusal → Bool
of_count (Ok (Counted runs)) = true
of_count (Err refusal) = true
of_count _ = false

abbrev pub of_check : Result Accepted Refusal → Bool
of_check (Ok (Judged passed runs)) = true
of_check (Err refusal) = true
of_check _ = false

abbrev pub of_sum : Result Accepted Refusal → Bool
of_sum (Ok (Summed n)) = true
of_sum (Err refusal) = true
of_sum _ = false
