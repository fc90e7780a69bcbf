-- `hub::in_place::check` meets its contract.
-- Assumes nothing.
use Rattle.std.proofs.Common.{rules}
use Rattle.hub.proofs.Calls.{check_refused}
use Rattle.hub.proofs.in_place.check.Goals as goal

pub returns-in_err-ended : goal.returns-in_err-ended
returns-in_err-ended c =
    rw (check_refused c.args.ticket c.args.hub.now c.in_ok-place.ensures.number _ c.in_ok-place.ensures.place.0 c.args.tag.now _ c.in_err-ended.ensures.number)
    (search rules)
