-- The hub after a list of calls, computed by the checker: the place of a ticket that a check has closed is free and holds nothing, and serves the next open.
-- Assumes nothing.
use Rattle.std.proofs.Common.{◌≡◌, ℕ, List, [], ◌∷◌, map, take, replicate, refl}
use Rattle.mode.specs.Mode.{named}
use Rattle.sponge.specs.Record.{sum64, vacant, fresh, finished, end_feeding, in_words, after_run}
use Rattle.calls.specs.Call.{Call, Open, Check, final}
use Rattle.calls.specs.Checks.{open_checks, ticket_checks, check_own, check_checks}
use Rattle.calls.specs.Keyed.{find}
use Rattle.hub.specs.declared.Hub.{Hub}
use Rattle.hub.specs.Hub.{empty_hub, place_of, absent, record_of, put, release, standing_of, admit, open_hub, check_hub, on_hub}
use Rattle.hub.specs.Records.{record_at}
use Rattle.hub.proofs.Tickets.{ticket}

-- two MACs and a check of the first, whose verdict is left as it is, and then these calls
abbrev after : List Call → Hub
after calls = final on_hub empty_hub (Open 2 (replicate 16 0) 8 ∷ Open 2 (replicate 16 0) 8 ∷ Check 1 (replicate 8 0) ∷ calls)

-- the tickets of the first three places
abbrev tickets : Hub → List ℕ
tickets h = map ticket (take 3 h.records)

pub serves_again :
    (tickets (after []) ≡ 0 ∷ 2 ∷ 0 ∷ []) × (record_at 0 (after []) ≡ vacant) × ((after []).closed ≡ 2)
    × (tickets (after (Open 3 [] 0 ∷ [])) ≡ 3 ∷ 2 ∷ 0 ∷ [])
unfolding vacant final on_hub empty_hub open_hub open_checks named admit absent place_of find put check_hub check_checks ticket_checks check_own standing_of record_of release fresh after_run finished end_feeding in_words sum64
serves_again = (refl, refl, refl, refl)
