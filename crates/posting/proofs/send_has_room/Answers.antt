-- `posting::send_has_room` meets its contract: by the items. Assumes nothing.
use Rattle.posting.proofs.Rooms.{send_below}
use Rattle.posting.proofs.send_has_room.Goals as goal

pub returns : goal.returns
returns c = send_below c.args.s c.args.node.now c.args.q
