-- `hub::in_place::draw` meets its contract.
-- Assumes nothing.
use Rattle.std.proofs.Common.{rules}
use Rattle.hub.proofs.Calls.{draw_refused}
use Rattle.hub.proofs.in_place.draw.Goals as goal

pub returns-in_err-after : goal.returns-in_err-after
returns-in_err-after c =
    rw (draw_refused c.args.ticket c.args.hub.now c.in_ok-at.ensures.number _ c.in_ok-at.ensures.place.0 c.args.buffer.now c.args.place c.args.count _ c.in_err-after.ensures.number)
    (search rules)
