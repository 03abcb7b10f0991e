-- `posting::count_full` meets its contract: by which queue the goal is. Assumes nothing.
use Rattle.posting.proofs.Frames.{full_task, full_node}
use Rattle.posting.proofs.Rooms.{queued_task, queued-node}
use Rattle.posting.proofs.count_full.Goals as goal

pub task_at-at-requires : goal.task_at-at-requires
task_at-at-requires c = record { in_range = c.requires.stretch.range; q_bound = (queued_task c.args.s c.args.node.now c.args.goal c.requires.queue _ c.in-Task.is).0 }

pub send_at-at-requires : goal.send_at-at-requires
send_at-at-requires c = record { in_range = c.requires.stretch.range; k_bound = (queued-node c.args.s c.args.node.now c.args.goal c.requires.queue _ c.in-Node.is).0 }

pub returns-in-Task : goal.returns-in-Task
returns-in-Task c = full_task c.args.s c.args.node.now c.args.goal _ _ _ c.in-Task.is c.task_at-at.ensures.is c.count_up.ensures

pub returns-in-Node : goal.returns-in-Node
returns-in-Node c = full_node c.args.s c.args.node.now c.args.goal _ _ _ c.in-Node.is c.send_at-at.ensures.is c.count_up-in-Node.ensures
