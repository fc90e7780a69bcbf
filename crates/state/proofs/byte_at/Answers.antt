-- `state::byte_at` meets its contract.
-- Assumes nothing.
use Rattle.word.specs.Bytes.{weight, byte_at}
use Rattle.state.proofs.byte_at.Goals as goal

pub returns : goal.returns
unfolding byte_at weight
returns c = rw c.word_of-w.ensures
