-- `posting::task_has_room` meets its contract: by the items and the gap flag. Assumes nothing.
use Rattle.posting.proofs.Rooms.{task_below, task_flag}
use Rattle.posting.proofs.task_has_room.Goals as goal

pub returns-then-node-q : goal.returns-then-node-q
returns-then-node-q c = task_below c.args.s c.args.node.now c.args.q c.requires c.if-node-q.true

pub returns : goal.returns
returns c = task_flag c.args.s c.args.node.now c.args.q c.requires c.if-node-q.false
