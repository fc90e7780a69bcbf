-- What a plan of steps prints: the lines of its calls.
-- Assumes nothing.
use Rattle.std.specs.Prelude.{cond, List, [], ◌∷◌, ◌++◌, ℕ, zero, suc, ◌+◌, ◌-◌, ◌*◌, ◌/◌, ◌%◌, ltb, take, replicate}
use Rattle.calls.specs.Call.{Call, Open, Feed, Draw, Check, Close, Sum, events, final}
use Rattle.hub.specs.declared.Hub.{Hub}
use Rattle.hub.specs.Hub.{empty_hub, on_hub}
use Rattle.script.specs.Text.{text, newline, part}
use Rattle.listing.specs.Listing.{number_field, three_fields, lines}
use Rattle.day.specs.declared.Planned.{Planned}
use Rattle.day.specs.declared.Planned.TheVariants as planned
use Rattle.day.specs.declared.Step.{Step}
use Rattle.day.specs.declared.Step.TheVariants.{Begin, Make, Turns, FeedOften}

-- a buffer of n bytes, at most 48, as it is lent to draws; and n equal bytes, at most 4,096, as they are fed often
abbrev pub lent : ℕ → List ℕ
lent n = take n (replicate 48 170)

abbrev pub alike : ℕ → ℕ → List ℕ
alike byte n = take n (replicate 4096 byte)

-- the call that is planned
unfoldable pub call_of : Planned → List ℕ → Call
call_of (planned.Open mode start n tagLength) sample = Open mode (part start n sample) tagLength
call_of (planned.Feed ticket start n) sample = Feed ticket (part start n sample)
call_of (planned.Draw ticket n place count) sample = Draw ticket (lent n) place count
call_of (planned.Check ticket start n) sample = Check ticket (part start n sample)
call_of (planned.Close ticket) sample = Close ticket
call_of planned.Sum sample = Sum

-- turn number i: sixteen lines open, feed, draw and close by turns. Modes 1 and 2 get a key and a tag length
unfoldable pub turn_at : ℕ → Planned
turn_at i =
    cond (ltb i 16) (cond (ltb (i % 6) 2) (planned.Open (i % 6 + 1) i 16 (i % 9 + 8)) (planned.Open (i % 6 + 1) i 0 0))
    (cond (ltb i 96) (planned.Feed (i % 16 + 1) (i % 12) (i % 37 * 5 % 37))
    (cond (ltb i 192) (planned.Draw (i % 16 + 1) 48 (i % 41) (i % 23 * 7 % 23)) (planned.Close (i / 2 % 20))))

-- the calls of n turns from number i on
unfoldable pub turns_from : ℕ → ℕ → List ℕ → List Call
turns_from i zero sample = []
turns_from i (suc n) sample = call_of (turn_at i) sample ∷ turns_from (suc i) n sample

-- the line of an empty hub
abbrev pub begin_text : List ℕ
begin_text = text "empty\n"

-- the line of a feed that is made so many times and whose answers are not listed
unfoldable pub often_text : ℕ → List ℕ → ℕ → List ℕ
often_text ticket bytes times = three_fields (text "often") ticket bytes ++ number_field times ++ (newline ∷ [])

-- the hub after a step
unfoldable pub step_after : Step → List ℕ → Hub → Hub
step_after Begin sample h = empty_hub
step_after (Make p) sample h = final on_hub h (call_of p sample ∷ [])
step_after (Turns first end) sample h = final on_hub h (turns_from first (end - first) sample)
step_after (FeedOften ticket byte n times) sample h = final on_hub h (replicate times (Feed ticket (alike byte n)))

-- what is listed of it
unfoldable pub step_text : Step → List ℕ → Hub → List ℕ
step_text Begin sample h = begin_text
step_text (Make p) sample h = lines (events on_hub h (call_of p sample ∷ []))
step_text (Turns first end) sample h = lines (events on_hub h (turns_from first (end - first) sample))
step_text (FeedOften ticket byte n times) sample h = often_text ticket (alike byte n) times

-- what a whole plan prints
unfoldable pub plan_text : List Step → List ℕ → Hub → List ℕ
plan_text [] sample h = []
plan_text (s ∷ ss) sample h = step_text s sample h ++ plan_text ss sample (step_after s sample h)
