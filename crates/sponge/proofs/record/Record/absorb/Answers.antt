-- `sponge::Record::absorb` meets its contract.
-- Assumes nothing.
use Rattle.std.proofs.Common.{◌≡◌, length, sym, ap, ◌∙◌, arith, rules}
use Rattle.mode.specs.declared.Mode.{Mode}
use Rattle.mode.specs.Mode.{row}
use Rattle.sponge.specs.declared.record.Record.{Record}
use Rattle.sponge.specs.Parts.{filled, after_feed}
use Rattle.sponge.proofs.Parts.{feeding-next, feeding-last, absorbed-fed}
use Rattle.sponge.proofs.record.Record.absorb.Goals as goal

pub loop-left-preserved : goal.loop-left-preserved
loop-left-preserved c =
    let r = c.args.self in
    let now = c.loop-left in
    let before = now.invariant in
    let rate = c.feed_rate-rate.ensures in
    let parts = c.split_at.ensures.by_index.0 in
    let part = c.split_at.result.0.now in
    let filled : c.fill-current.result ≡ filled (row r.mode) now.place part now.current =
    c.fill-current.ensures ∙ ap (λ (m : Mode). filled (row m) now.place part now.current) before.1.kept in (
      omega (arith, before.0),
      rw filled (feeding-next (row r.mode) _ r.mode now.place part _ now.current (omega (arith, before.0, rate)) (rw parts at before.1)
          (omega (arith, c.split_at.ensures.front_len, c.min.ensures, rate, ap length parts))),
    )

pub returns : goal.returns
returns c =
    let r = c.args.self in
    let all = feeding-last _ _ r.mode _ _ _ c.loop-left.invariant.1 (search rules) in
    c.after_feed.ensures ∙ ap (λ (x : Record). after_feed x.words x.runs (length c.args.bytes.now) r) all ∙ sym (absorbed-fed c.args.bytes.now r)
