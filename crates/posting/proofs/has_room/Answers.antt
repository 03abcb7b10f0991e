-- `posting::has_room_lem` meets its contract: by which queue the goal is. Assumes nothing.
use Rattle.posting.proofs.Rooms.{queued_task, queued-node, room_task, room-node}
use Rattle.posting.proofs.has_room.Goals as goal

pub task_at-requires : goal.task_at-requires
task_at-requires c = record { in_range = c.requires.stretch.range; q_bound = (queued_task c.args.s c.args.node.now c.args.goal c.requires.queue _ c.in-Task.is).0 }

pub task_has_room-requires : goal.task_has_room-requires
task_has_room-requires c = rw c.task_at.ensures.is (queued_task c.args.s c.args.node.now c.args.goal c.requires.queue _ c.in-Task.is).1

pub send_at-requires : goal.send_at-requires
send_at-requires c = record { in_range = c.requires.stretch.range; k_bound = (queued-node c.args.s c.args.node.now c.args.goal c.requires.queue _ c.in-Node.is).0 }

pub send_has_room-requires : goal.send_has_room-requires
send_has_room-requires c = rw c.send_at.ensures.is (queued-node c.args.s c.args.node.now c.args.goal c.requires.queue _ c.in-Node.is).1

pub returns-in-Task : goal.returns-in-Task
returns-in-Task c = room_task c.args.s c.args.node.now c.args.goal _ _ c.in-Task.is (rw c.task_at.ensures.is at c.task_has_room.ensures)

pub returns-in-Node : goal.returns-in-Node
returns-in-Node c = room-node c.args.s c.args.node.now c.args.goal _ _ c.in-Node.is (rw c.send_at.ensures.is at c.send_has_room.ensures)
