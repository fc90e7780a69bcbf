-- The numbers of refusals: document 01's "Refused" and request K2's 21. Definitions of calls answer with these numbers; code answers with a `Refusal`.
-- Assumes nothing.
use Rattle.std.specs.Prelude.{ℕ, Result, Ok, Err}
use Rattle.checks.specs.declared.refusal.Refusal.{Refusal}
use Rattle.checks.specs.declared.refusal.Refusal.TheVariants.{NoMode, KeyLength, PastEnd, TagLength, MessageLength, OutputLength, RowLength, NeverIssued, Closed, NoPlace, AllIssued, FeedingEnded, FeedLimit, DrawLimit, NoTags, NamedTagLength}

abbrev pub refusal_number : Refusal → ℕ
refusal_number NoMode = 1
refusal_number KeyLength = 2
refusal_number PastEnd = 3
refusal_number TagLength = 4
refusal_number MessageLength = 5
refusal_number OutputLength = 6
refusal_number RowLength = 7
refusal_number NeverIssued = 11
refusal_number Closed = 12
refusal_number NoPlace = 13
refusal_number AllIssued = 14
refusal_number FeedingEnded = 15
refusal_number FeedLimit = 16
refusal_number DrawLimit = 17
refusal_number NoTags = 18
refusal_number NamedTagLength = 21

-- the number that an answer stands for: 0 where the call is accepted
abbrev pub answer_number : {A : Type 0} → Result A Refusal → ℕ
answer_number (Ok a) = 0
answer_number (Err refusal) = refusal_number refusal
