-- `hub::in_place::open` meets its contract.
-- Assumes nothing.
use Rattle.std.proofs.Common.{rules, ◌+◌, sym, ap, ◌∙◌}
use Rattle.calls.specs.Answer.{opened}
use Rattle.calls.specs.Call.{Step}
use Rattle.hub.specs.declared.Hub.{Hub}
use Rattle.hub.proofs.Locating.{found_is}
use Rattle.hub.proofs.Calls.{open_done}
use Rattle.hub.proofs.in_place.open.Goals as goal

pub returns-clause-answer : goal.returns-clause-answer
returns-clause-answer c =
    let done = open_done c.args.mode c.args.key.now c.args.tag_length c.args.hub.now c.in-Some.named c.in-Some.ensures.named (search rules) (search rules) (search rules)
    (search (rules, found_is)) c.in-Some-find.place (search (rules, found_is)) c.fresh-fresh.result c.fresh-fresh.ensures in
    ap (opened (c.args.hub.now.issued + 1)) c.runs.ensures ∙ ap (λ (s : Step Hub). s.response.answer) (sym done)
