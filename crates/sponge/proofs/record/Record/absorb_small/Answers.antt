-- `sponge::Record::absorb_small` meets its contract.
-- Assumes nothing.
use Rattle.std.proofs.Common.{ℕ, List, length, sym, ap, ◌∙◌, arith}
use Rattle.sponge.specs.declared.record.Record.{Record}
use Rattle.sponge.specs.Record.{vacant}
use Rattle.sponge.specs.Parts.{after_feed}
use Rattle.sponge.proofs.Parts.{absorbed-few, absorbed-bare}
use Rattle.sponge.proofs.record.Record.absorb_small.Goals as goal

pub returns-then-bytes-le8 : goal.returns-then-bytes-le8
returns-then-bytes-le8 c =
    let a = c.args in
    let place = c.place-place in
    c.after_feed.ensures
    ∙ ap (λ (ws : List ℕ). after_feed ws a.self.runs (length a.bytes.now) a.self) c.xor_few.ensures
    ∙ sym (absorbed-few a.bytes.now a.self place.result (sym place.ensures) (omega (arith, c.feed_rate.ensures)))

pub returns : goal.returns
unfolding vacant
returns c =
    let a = c.args in
    let absorbed = rw c.vacant.ensures at c.absorb-absorbed.ensures in
    c.after_feed-2.ensures
    ∙ ap (λ (r : Record). after_feed r.words r.runs (length a.bytes.now) a.self) absorbed
    ∙ sym (absorbed-bare a.bytes.now a.self)
