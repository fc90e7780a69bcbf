-- `sponge::Record::fresh` meets its contract.
-- Assumes nothing.
use Rattle.std.proofs.Common.{◌^◌, ◌<◌, refl, arith}
use Rattle.word.proofs.Bytes.{Bytes}
use Rattle.word.proofs.Lists.{take_min}
use Rattle.mode.specs.Mode.{row}
use Rattle.sponge.specs.Record.{fresh, vacant}
use Rattle.sponge.proofs.Initial.{initial-words}
use Rattle.sponge.proofs.record.Record.fresh.Goals as goal

pub returns : goal.returns
unfolding fresh vacant
returns c =
    let a = c.args in
    let bytes : Bytes a.key.now = λ i. omega (arith, c.shared_slice_known-1.given i) in
    let word = c.start_word in
    let fits : (row a.mode).start_word < 2 ^ 64 = omega (arith, word.type_inv, word.ensures) in
    rw (c.run.ensures, c.vacant.ensures, c.word_of_bytes-2.ensures, c.word_of_bytes.ensures, c.start_word.ensures, c.min.ensures, c.key_length.ensures, take_min (row a.mode).key_length a.key.now, initial-words a.mode a.key.now bytes fits) refl
