-- The hub, and what each call makes of it. The calls promise these definitions, for every hub; the law over lists of calls is about them too.
-- Assumes nothing.
use Rattle.std.specs.Prelude.{ℕ, ◌+◌, Bool, false, not, ◌&&◌, List, [], length, replicate, ◌==◌, nat_le, slice_index_or, slice_set, Option, Some, None}
use Rattle.mode.specs.declared.Mode.{Mode}
use Rattle.mode.specs.declared.Mode.TheVariants.{Prf}
use Rattle.sponge.specs.declared.record.Record.{Record}
use Rattle.mode.specs.Mode.{named}
use Rattle.sponge.specs.Record.{sum64, vacant, fresh, absorbed, finished, next_bytes, squeezed, tag_matches}
use Rattle.calls.specs.Answer.{opened, counted, judged, summed}
use Rattle.checks.specs.Checks.{checked}
use Rattle.checks.specs.Buffers.{written}
use Rattle.calls.specs.Checks.{most_open, Standing, open_checks, ticket_checks, feed_checks, draw_checks, check_checks}
use Rattle.calls.specs.Call.{Call, Open, Feed, Draw, Check, Close, Sum, Step, step, refuse}
use Rattle.calls.specs.Keyed.{find, total}
use Rattle.hub.specs.declared.Hub.{Hub}

-- no ticket issued, sum 0
unfoldable pub empty_hub : Hub
empty_hub = record { records = replicate most_open vacant; issued = 0; closed = 0 }

-- ---- places

-- the first place whose record has ticket t, or as many as there are. A place is free where the ticket is 0
unfoldable pub place_of : ℕ → Hub → ℕ
place_of t h = find (λ (r : Record). r.ticket) t h.records

-- no place has ticket t
unfoldable pub absent : ℕ → Hub → Bool
absent t h = nat_le (length h.records) (place_of t h)

-- what is read past the last place, which no code does and on which no answer depends: every field 0, and no words
abbrev pub no_record : Record
no_record = record { words = []; runs = 0; ticket = 0; mode = Prf; fed = 0; drawn = 0; feeding = false }

-- the first record that has ticket t
unfoldable pub record_of : ℕ → Hub → Record
record_of t h = slice_index_or h.records (place_of t h) no_record

-- the hub with another record in place p
abbrev pub put_at : ℕ → Record → Hub → Hub
put_at p r h = record { records = slice_set h.records p r; issued = h.issued; closed = h.closed }

-- and in place of the first that has ticket t
unfoldable pub put : ℕ → Record → Hub → Hub
put t r h = put_at (place_of t h) r h

-- a ticket is closed after so many runs: its place is free again and holds nothing of its record, and the runs are kept for the sum
unfoldable pub release : ℕ → ℕ → Hub → Hub
release t runs h = record { records = (put t vacant h).records; issued = h.issued; closed = sum64 h.closed runs }

-- what the checks ask about a ticket: it was issued if its number is 1 to `issued`, and it is open if a place has it
unfoldable pub standing_of : ℕ → Hub → Standing
standing_of t h =
    let r : Record = record_of t h in
    record { issued = not (t == 0) && nat_le t h.issued; is_open = not (absent t h); mode = r.mode; feeding = r.feeding; fed = r.fed; drawn = r.drawn }

-- ---- the calls

-- a new record in the first free place. That no mode is named does not occur: check 1
unfoldable pub admit : Option Mode → List ℕ → Hub → Step Hub
admit (Some mode) key h =
    let t : ℕ = h.issued + 1 in
    let r : Record = fresh t mode key in
    step (record { records = (put 0 r h).records; issued = t; closed = h.closed }) (opened t r.runs) []
admit None key h = refuse h [] 1

unfoldable pub open_hub : ℕ → List ℕ → ℕ → Hub → Step Hub
open_hub mode key tagLength h =
    let meant : Option Mode = named mode tagLength in
    checked (refuse h []) (open_checks meant key tagLength h.issued (absent 0 h)) (admit meant key h)

unfoldable pub feed_hub : ℕ → List ℕ → Hub → Step Hub
feed_hub t bytes h =
    let r : Record = absorbed bytes (record_of t h) in
    checked (refuse h []) (feed_checks (standing_of t h) bytes) (step (put t r h) (counted r.runs) [])

unfoldable pub draw_hub : ℕ → List ℕ → ℕ → ℕ → Hub → Step Hub
draw_hub t buffer place count h =
    let ended : Record = finished (record_of t h) in
    let r : Record = squeezed count ended in
    checked (refuse h buffer) (draw_checks (standing_of t h) buffer place count)
    (step (put t r h) (counted r.runs) (written buffer place (next_bytes count ended)))

-- whatever the verdict, the ticket is closed (request K4)
unfoldable pub check_hub : ℕ → List ℕ → Hub → Step Hub
check_hub t tag h =
    let r : Record = finished (record_of t h) in
    checked (refuse h []) (check_checks (standing_of t h) tag) (step (release t r.runs h) (judged (tag_matches tag r) r.runs) [])

unfoldable pub close_hub : ℕ → Hub → Step Hub
close_hub t h =
    let r : Record = record_of t h in
    checked (refuse h []) (ticket_checks (standing_of t h)) (step (release t r.runs h) (counted r.runs) [])

-- the runs of the closed tickets and of all places
unfoldable pub sum_hub : Hub → Step Hub
sum_hub h = step h (summed (sum64 h.closed (total (λ (r : Record). r.runs) h.records))) []

unfoldable pub on_hub : Call → Hub → Step Hub
on_hub (Open mode key tagLength) h = open_hub mode key tagLength h
on_hub (Feed t bytes) h = feed_hub t bytes h
on_hub (Draw t buffer place count) h = draw_hub t buffer place count h
on_hub (Check t tag) h = check_hub t tag h
on_hub (Close t) h = close_hub t h
on_hub Sum h = sum_hub h
