-- `vectors::counting` meets its contract.
-- Assumes nothing.
use Rattle.std.proofs.Common.{ℕ, ◌%◌, rules}
use Rattle.std.proofs.lemmas.List.FromFn.{fill_by_all}
use Rattle.vectors.specs.Messages.{counting_from}
use Rattle.vectors.proofs.counting.Goals as goal

pub returns : goal.returns
unfolding counting_from
returns c =
    let made = c.from_fn.ensures.items in
    fill_by_all (λ (k : ℕ). k % 256) c.from_fn.result 1024 0 made.long (λ k h. let byte = made.at k 0 h in search rules)
