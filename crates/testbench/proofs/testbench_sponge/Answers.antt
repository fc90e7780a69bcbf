-- `testbench::testbench_sponge` meets its contract: by the theorem on streaming the cuts make no difference.
-- Assumes nothing.
use mathlib.Core.Path.{◌≡◌, sym, ap, ap₂, ◌∙◌}
use mathlib.Core.List.{List, ◌++◌, append-nil}
use Prim.Native.Nat.{ℕ, ◌^◌, ◌<◌, min}
use native.Mathlib.Omega.{arith}
use lib.ListN.{length, take, drop, take-append-drop}
use Rattle.std.specs.Prelude.{Some}
use Rattle.mode.specs.declared.Mode.{Mode}
use Rattle.mode.specs.Mode.{row, named}
use Rattle.sponge.specs.Sponge.{start, one_shot, runs_ended}
use Rattle.sponge.specs.Record.{fresh, finished}
use Rattle.checks.specs.Joined.{joined}
use Rattle.sponge.specs.Streaming.{total, absorbed_parts, next_parts, squeezed_parts}
use Rattle.sponge.proofs.Streaming.{runs_fit, streaming-calls}
use Rattle.testbench.specs.Sponge.{parts_at, counts_at}
use borrow.Author.Rules.{rules}
use Rattle.testbench.proofs.testbench_sponge.Goals as goal

-- the parts are the message, and the counts the output's length
parts-joined : (cut : ℕ) (m : List ℕ) → joined (parts_at cut m) ≡ m
parts-joined cut m = ap (λ (t : List ℕ). take (min cut (length m)) m ++ t) (append-nil (drop (min cut (length m)) m)) ∙ take-append-drop (min cut (length m)) m

counts_summed : (first n : ℕ) → total (counts_at first n) ≡ n
counts_summed first n = omega arith

-- a message through the calls in two parts
module _ (mode : Mode) (key m : List ℕ) (cut first n : ℕ) where
  bytes-drawn : n < 2 ^ 64
      → next_parts (counts_at first n) (finished (absorbed_parts (parts_at cut m) (fresh 1 mode key))) ≡ one_shot (row mode) key m n
  bytes-drawn fits =
      (streaming-calls 1 mode key (parts_at cut m) (counts_at first n)).bytes (rw counts_summed fits)
      ∙ ap₂ (one_shot (row mode) key) (parts-joined cut m) (counts_summed first n)

  runs-made : length m < 2 ^ 64 → n < 2 ^ 64
      → (squeezed_parts (counts_at first n) (finished (absorbed_parts (parts_at cut m) (fresh 1 mode key)))).runs ≡ runs_ended (row mode) 1 (length m) n
  unfolding start
  runs-made few fits =
      let count : total (counts_at first n) ≡ n = counts_summed first n in
      let fed : length (joined (parts_at cut m)) ≡ length m = ap length (parts-joined cut m) in
      (streaming-calls 1 mode key (parts_at cut m) (counts_at first n)).ended-runs (rw count fits) (rw (fed, count) (runs_fit mode (length m) n few fits))
      ∙ ap₂ (runs_ended (row mode) 1) fed count

pub returns : goal.returns
returns c =
    let a = c.args in
    let m : Mode = c.in-Some.known in
    let known : named a.mode a.tag_length ≡ Some m = sym c.of_number.ensures.named ∙ c.in-Some.is in
    let drawn = c.squeeze_in_two-drawn.ensures in
    let ended = c.finish-ended.ensures in
    let fed = c.absorb_in_two-fed.ensures in
    let begun = c.fresh-fresh.ensures in
    let few : length a.message.now < 2 ^ 64 = search rules in
    let fits : length a.out.now < 2 ^ 64 = search rules in
    record {
      answer = rw known (c.runs.ensures ∙ rw (drawn.after, ended, fed, begun) (runs-made m a.key.now a.message.now a.cut a.first (length a.out.now) few fits));
      after = rw known (drawn.written ∙ rw (ended, fed, begun) (bytes-drawn m a.key.now a.message.now a.cut a.first (length a.out.now) fits));
    }
