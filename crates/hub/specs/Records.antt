-- How the code divides a call on a ticket: where the ticket's record is, and what the call's own checks ask of that record. The promises of the crate's own
-- functions are about these; the calls promise specs/Hub.antt's definitions, which are stated without them (proofs/Calls.antt shows that the two are the same).
-- Assumes nothing.
use Rattle.std.specs.Prelude.{ℕ, true, Option, List, ◌==◌, position, slice_index_or}
use Rattle.sponge.specs.declared.record.Record.{Record}
use Rattle.sponge.specs.Record.{sum64, vacant}
use Rattle.checks.specs.Checks.{OneCheck, checked}
use Rattle.calls.specs.Checks.{Standing, ticket_checks, feed_own, draw_own, check_own}
use Rattle.hub.specs.declared.Hub.{Hub}
use Rattle.hub.specs.Hub.{no_record, put_at, standing_of}

-- ---- where a ticket's record is

-- the first place that has the ticket, if any has
abbrev pub found : ℕ → Hub → Option ℕ
found t h = position (λ (r : Record). r.ticket == t) h.records

-- the record in a place
abbrev pub record_at : ℕ → Hub → Record
record_at p h = slice_index_or h.records p no_record

-- the ticket in a place is closed after so many runs
abbrev pub released_at : ℕ → ℕ → Hub → Hub
released_at p runs h = record { records = (put_at p vacant h).records; issued = h.issued; closed = sum64 h.closed runs }

-- ---- the number of the first check that fails, or 0

abbrev pub first_failing : List OneCheck → ℕ
first_failing cs = checked (λ (n : ℕ). n) cs 0

-- 11, 12
unfoldable pub ticket_refusal : ℕ → Hub → ℕ
ticket_refusal t h = first_failing (ticket_checks (standing_of t h))

-- what the checks of a call ask of an open ticket's record
abbrev pub standing_as : Record → Standing
standing_as r = record { issued = true; is_open = true; mode = r.mode; feeding = r.feeding; fed = r.fed; drawn = r.drawn }

-- 15, 16
unfoldable pub feed_refusal : List ℕ → Record → ℕ
feed_refusal bytes r = first_failing (feed_own (standing_as r) bytes)

-- 3, 17
unfoldable pub draw_refusal : List ℕ → ℕ → ℕ → Record → ℕ
draw_refusal buffer place count r = first_failing (draw_own (standing_as r) buffer place count)

-- 18, 4
unfoldable pub check_refusal : List ℕ → Record → ℕ
check_refusal tag r = first_failing (check_own (standing_as r) tag)
