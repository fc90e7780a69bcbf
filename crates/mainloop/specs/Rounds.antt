-- The calls of the main loop, and the list that is printed of them.
-- Assumes nothing.
use Rattle.std.specs.Prelude.{List, [], ◌∷◌, ◌++◌, ℕ, zero, suc, ◌*◌, ◌/◌, ◌%◌, replicate}
use Rattle.calls.specs.Call.{Call, Open, Feed, Draw, Check, Close, Sum, events}
use Rattle.hub.specs.Hub.{empty_hub, on_hub}
use Rattle.script.specs.Text.{text}
use Rattle.listing.specs.Listing.{lines}

-- ---- the rounds

-- the ticket that round i feeds, and the one that it closes. 1 to 16 are issued
abbrev pub feed_ticket : ℕ → ℕ
feed_ticket i = i % 18

abbrev pub close_ticket : ℕ → ℕ
close_ticket i = i / 16 * 3 % 13

-- so many are made of a message
abbrev pub rounds : ℕ
rounds = 150

-- the calls of n rounds from number i on
unfoldable pub rounds_from : ℕ → ℕ → List ℕ → List Call
rounds_from i zero bytes = []
rounds_from i (suc n) bytes = Feed (feed_ticket i) bytes ∷ Close (close_ticket i) ∷ rounds_from (suc i) n bytes

-- ---- the list

-- a buffer as it is lent to draws
abbrev pub lent_out : List ℕ
lent_out = replicate 16 170

-- an empty hub gets eight MAC tickets under a key and eight of the hash, one of which gives bytes and takes no more
unfoldable pub opening : List ℕ → List Call
opening key = replicate 8 (Open 2 key 16) ++ replicate 8 (Open 3 [] 16) ++ (Draw 14 lent_out 0 3 ∷ [])

-- draws of 16 bytes from n tickets, from number t on
unfoldable pub draws_from : ℕ → ℕ → List Call
draws_from t zero = []
draws_from t (suc n) = Draw t lent_out 0 16 ∷ draws_from (suc t) n

-- eight tickets come into the places of closed ones; then draws from every ticket, from closed ones too, and from 25, which was never issued; and the sum
unfoldable pub ending : List ℕ → List Call
ending key = replicate 8 (Open 1 key 16) ++ draws_from 1 25 ++ (Sum ∷ [])

-- a message of a few bytes is fed by all rounds; a check, with the key for a tag, closes ticket 4; and then another message is fed by as many rounds
unfoldable pub all_calls : List ℕ → List ℕ → List ℕ → List Call
all_calls key few message = opening key ++ rounds_from 0 rounds few ++ (Check 4 key ∷ []) ++ rounds_from 0 rounds message ++ ending key

-- their list, from an empty hub
unfoldable pub list_text : List ℕ → List ℕ → List ℕ → List ℕ
list_text key few message = text "empty\n" ++ lines (events on_hub empty_hub (all_calls key few message))

-- one list by value and one in place
unfoldable pub both_texts : List ℕ → List ℕ → List ℕ → List ℕ
both_texts key few message = text "by value\n" ++ list_text key few message ++ text "in place\n" ++ list_text key few message
