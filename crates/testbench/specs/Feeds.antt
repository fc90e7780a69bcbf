-- Feeds through the hub, as the benchmarks and the tests make them.
-- Assumes nothing.
use Rattle.std.specs.Prelude.{List, [], ◌∷◌, ℕ, length, take, drop, replicate}
use Rattle.calls.specs.Checks.{most_open}
use Rattle.calls.specs.Call.{Call, Open, Feed, Response, final}
use Rattle.hub.specs.declared.Hub.{Hub}
use Rattle.hub.specs.Hub.{empty_hub, feed_hub, draw_hub, on_hub}

-- MAC tickets in all places, under a key of zeros, with tags of sixteen bytes
unfoldable pub sixteen : Hub
sixteen = final on_hub empty_hub (replicate most_open (Open 2 (replicate 16 0) 16))

-- a ticket's run count after so many feeds of the same bytes, as a feed of none answers; 0 where it is refused
unfoldable pub feeds_runs : ℕ → List ℕ → ℕ → ℕ
feeds_runs ticket bytes times = (feed_hub ticket [] (final on_hub sixteen (replicate times (Feed ticket bytes)))).response.answer.runs

-- ticket 1 is fed a message in three parts, the first and the second of so many bytes, or of all that are left
abbrev pub feed_in_three : ℕ → ℕ → List ℕ → List Call
feed_in_three first second message =
    let rest : List ℕ = drop first message in
    Feed 1 (take first message) ∷ Feed 1 (take second rest) ∷ Feed 1 (drop second rest) ∷ []

-- what a draw of as many bytes as are lent gets from ticket 1, which was opened in an empty hub and fed a message in three parts
unfoldable pub drawn_of_parts : ℕ → List ℕ → ℕ → List ℕ → List ℕ → ℕ → ℕ → Response
drawn_of_parts mode key tagLength message out first second =
    (draw_hub 1 out 0 (length out) (final on_hub empty_hub (Open mode key tagLength ∷ feed_in_three first second message))).response
