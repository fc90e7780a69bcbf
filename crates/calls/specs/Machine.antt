-- Document 01's plain machine: it is fed the calls' arguments and nothing else, and knows no words and no hub. Its output and its run counts are the papers'
-- one-shot function (sponge/specs/Sponge.antt) and document 01's formula.
-- Assumes nothing.
use Rattle.std.specs.Prelude.{Bool, true, false, cond, List, [], ◌∷◌, ◌++◌, ℕ, ◌+◌, leb, ltb, length, drop, get_or, set, Option, Some, None}
use Rattle.mode.specs.declared.Mode.{Mode}
use Rattle.mode.specs.declared.Mode.TheVariants.{Prf}
use Rattle.mode.specs.Mode.{row, named}
use Rattle.sponge.specs.Sponge.{start, one_shot, runs_feeding, runs_ended}
use Rattle.calls.specs.Answer.{opened, counted, judged, summed}
use Rattle.checks.specs.Checks.{checked}
use Rattle.checks.specs.Buffers.{written}
use Rattle.checks.specs.Equality.{same}
use Rattle.calls.specs.Checks.{Standing, most_open, open_checks, ticket_checks, feed_checks, draw_checks, check_checks}
use Rattle.calls.specs.Call.{Call, Open, Feed, Draw, Check, Close, Sum, Step, step, refuse}
use Rattle.calls.specs.Keyed.{find, total}

-- ---- what it holds

-- an entry: number, open or closed, what its open named, all bytes fed, whether feeding lasts, and d, how many bytes are drawn
pub record Entry : Type 0 where
  pub number : ℕ
  pub is_open : Bool
  pub mode : Mode
  pub key : List ℕ
  pub fed : List ℕ
  pub feeding : Bool
  pub drawn : ℕ

-- the next number, and one entry for each ticket issued
pub record Machine : Type 0 where
  pub next : ℕ
  pub entries : List Entry

unfoldable pub empty_machine : Machine
empty_machine = record { next = 1; entries = [] }

-- ---- an entry

-- document 01's run count for n bytes fed and d drawn. The key is there since where feeding starts takes it; the count does not depend on it (`formula-is`)
unfoldable pub formula : Mode → List ℕ → Bool → ℕ → ℕ → ℕ
formula mode key feeding n d =
    cond feeding (runs_feeding (row mode) (start (row mode) key).runs n) (runs_ended (row mode) (start (row mode) key).runs n d)

unfoldable pub runs_of : Entry → ℕ
runs_of e = formula e.mode e.key e.feeding (length e.fed) e.drawn

-- the first d bytes of its output, over all bytes fed
unfoldable pub output_of : Entry → ℕ → List ℕ
output_of e d = one_shot (row e.mode) e.key e.fed d

-- open, feeding, with nothing fed or drawn
unfoldable pub new_entry : ℕ → Mode → List ℕ → Entry
new_entry number mode key = record { number = number; is_open = true; mode = mode; key = key; fed = []; feeding = true; drawn = 0 }

unfoldable pub after_feed : List ℕ → Entry → Entry
after_feed bytes e =
    record { number = e.number; is_open = e.is_open; mode = e.mode; key = e.key; fed = e.fed ++ bytes; feeding = e.feeding; drawn = e.drawn }

-- feeding has ended, and count more bytes are drawn
unfoldable pub after_draw : ℕ → Entry → Entry
after_draw count e =
    record { number = e.number; is_open = e.is_open; mode = e.mode; key = e.key; fed = e.fed; feeding = false; drawn = e.drawn + count }

unfoldable pub after_close : Entry → Entry
after_close e =
    record { number = e.number; is_open = false; mode = e.mode; key = e.key; fed = e.fed; feeding = e.feeding; drawn = e.drawn }

-- feeding has ended, nothing more is drawn, and the entry is closed (request K4)
unfoldable pub after_check : Entry → Entry
after_check e = after_close (after_draw 0 e)

-- ---- the entry of a ticket

unfoldable pub place_of : ℕ → Machine → ℕ
place_of t m = find (λ (e : Entry). e.number) t m.entries

-- where there is none: an entry that is not open, which no check lets through
unfoldable pub entry_of : ℕ → Machine → Entry
entry_of t m = get_or m.entries (place_of t m) (after_close (new_entry 0 Prf []))

unfoldable pub standing_of : ℕ → Machine → Standing
standing_of t m =
    let e : Entry = entry_of t m in
    record { issued = ltb (place_of t m) (length m.entries); is_open = e.is_open; mode = e.mode; feeding = e.feeding; fed = length e.fed; drawn = e.drawn }

unfoldable pub put : ℕ → Entry → Machine → Machine
put t e m = record { next = m.next; entries = set m.entries (place_of t m) e }

-- how many tickets are open
unfoldable pub open_count : Machine → ℕ
open_count m = total (λ (e : Entry). cond e.is_open 1 0) m.entries

-- ---- the calls

-- one more entry under the next number, which goes up by one. That no mode is named does not occur: check 1
unfoldable pub admit : Option Mode → List ℕ → Machine → Step Machine
admit (Some mode) key m =
    let e : Entry = new_entry m.next mode key in
    step (record { next = m.next + 1; entries = m.entries ++ (e ∷ []) }) (opened m.next (runs_of e)) []
admit None key m = refuse m [] 1

unfoldable pub open_machine : ℕ → List ℕ → ℕ → Machine → Step Machine
open_machine mode key tagLength m =
    let meant : Option Mode = named mode tagLength in
    checked (refuse m []) (open_checks meant key tagLength (length m.entries) (leb most_open (open_count m))) (admit meant key m)

unfoldable pub feed_machine : ℕ → List ℕ → Machine → Step Machine
feed_machine t bytes m =
    let e : Entry = after_feed bytes (entry_of t m) in
    checked (refuse m []) (feed_checks (standing_of t m) bytes) (step (put t e m) (counted (runs_of e)) [])

-- output bytes d to d + count - 1 are written from place on
unfoldable pub draw_machine : ℕ → List ℕ → ℕ → ℕ → Machine → Step Machine
draw_machine t buffer place count m =
    let before : Entry = entry_of t m in
    let e : Entry = after_draw count before in
    checked (refuse m buffer) (draw_checks (standing_of t m) buffer place count)
    (step (put t e m) (counted (runs_of e)) (written buffer place (drop before.drawn (output_of before (before.drawn + count)))))

-- the tag passes if it equals the MAC, whole: all the output that may be drawn. Whatever the verdict, the entry is closed
unfoldable pub check_machine : ℕ → List ℕ → Machine → Step Machine
check_machine t tag m =
    let e : Entry = after_check (entry_of t m) in
    checked (refuse m []) (check_checks (standing_of t m) tag) (step (put t e m) (judged (same tag (output_of e (row e.mode).most_drawn)) (runs_of e)) [])

unfoldable pub close_machine : ℕ → Machine → Step Machine
close_machine t m =
    let e : Entry = after_close (entry_of t m) in
    checked (refuse m []) (ticket_checks (standing_of t m)) (step (put t e m) (counted (runs_of e)) [])

-- the formula over all entries, added up
unfoldable pub sum_machine : Machine → Step Machine
sum_machine m = step m (summed (total runs_of m.entries)) []

unfoldable pub machine : Call → Machine → Step Machine
machine (Open mode key tagLength) m = open_machine mode key tagLength m
machine (Feed t bytes) m = feed_machine t bytes m
machine (Draw t buffer place count) m = draw_machine t buffer place count m
machine (Check t tag) m = check_machine t tag m
machine (Close t) m = close_machine t m
machine Sum m = sum_machine m
