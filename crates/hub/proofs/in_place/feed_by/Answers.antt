-- `hub::in_place::feed_by` meets its contract.
-- Assumes nothing.
use Rattle.std.proofs.Common.{rules}
use Rattle.hub.proofs.Calls.{feed_refused}
use Rattle.hub.proofs.in_place.feed_by.Goals as goal

pub returns-in_err-after : goal.returns-in_err-after
returns-in_err-after g c =
    rw (feed_refused c.args.ticket c.args.hub.now c.in_ok-place.ensures.number _ c.in_ok-place.ensures.place.0 c.args.part.now _ c.in_err-after.ensures.number)
    (search rules)
