-- `vectors::output` meets its contract: by the theorem on streaming, what the calls give is the one-shot output.
-- Assumes nothing.
use lib.ListN.{length}
use Rattle.sponge.proofs.Streaming.{calls-all-bytes}
use Rattle.vectors.proofs.output.Goals as goal

pub returns : goal.returns
returns c =
    let a = c.args in
    rw (
      c.squeeze.ensures.written,
      c.finish-ended.ensures,
      c.absorb_in_pieces-fed.ensures,
      c.fresh-fresh.ensures,
    )
    (calls-all-bytes 1 a.mode a.key.now a.message.now (length a.out.now))
