-- The answers that are kept of rounds, as the calls that they answer and as what is listed of these: this is how the code goes about it, and only private promises cite
-- it. That of `list` speaks of the calls alone.
-- Assumes nothing.
use Rattle.std.specs.Prelude.{Bool, true, ◌&&◌, List, [], ◌∷◌, ◌++◌, ℕ, suc}
use Rattle.calls.specs.Answer.{Answer, answer_of, of_count}
use Rattle.calls.specs.Call.{Feed, Close, Event}
use Rattle.listing.specs.Listing.{line, lines}
use Rattle.mainloop.specs.declared.Answered.{Answered}
use Rattle.mainloop.specs.Rounds.{feed_ticket, close_ticket}

-- the two calls of round i, with what they were answered: no buffer is lent to them
abbrev pub round_events : ℕ → List ℕ → Answer → Answer → List Event
round_events i bytes fed closed =
    record { call = Feed (feed_ticket i) bytes; response = record { answer = fed; buffer = [] } } ∷
    record { call = Close (close_ticket i); response = record { answer = closed; buffer = [] } } ∷ []

-- and of rounds, from number i on, by those that are kept
unfoldable pub events_kept : ℕ → List ℕ → List Answered → List Event
events_kept i bytes [] = []
events_kept i bytes (a ∷ more) = round_events i bytes (answer_of a.fed) (answer_of a.closed) ++ events_kept (suc i) bytes more

-- each of them is an answer of its call's kind
unfoldable pub of_their_calls : List Answered → Bool
of_their_calls [] = true
of_their_calls (a ∷ more) = (of_count a.fed && of_count a.closed) && of_their_calls more

-- what is listed of a round by its two answers
unfoldable pub round_text : ℕ → List ℕ → Answer → Answer → List ℕ
round_text i bytes fed closed =
    line (record { call = Feed (feed_ticket i) bytes; response = record { answer = fed; buffer = [] } }) ++
    line (record { call = Close (close_ticket i); response = record { answer = closed; buffer = [] } })

-- and of rounds, from number i on, by those that are kept
abbrev pub rounds_text : ℕ → List ℕ → List Answered → List ℕ
rounds_text i bytes kept = lines (events_kept i bytes kept)
