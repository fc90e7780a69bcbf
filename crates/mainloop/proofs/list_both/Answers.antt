-- `mainloop::list_both` meets its contract.
-- Assumes nothing.
use Rattle.std.proofs.Common.{rules}
use Rattle.script.proofs.Texts.{puts_more}
use Rattle.mainloop.specs.Rounds.{both_texts}
use Rattle.mainloop.proofs.list_both.Goals as goal

pub returns : goal.returns
unfolding both_texts
returns c =
    let all = puts_more (puts_more (puts_more c.put_bytes.ensures c.list.ensures) c.put_bytes-2.ensures) c.list-2.ensures in
    search rules
