-- `posting::append_to` meets its contract: by which queue the goal is. Assumes nothing.
use Rattle.posting.proofs.Frames.{appended_task, appended-node}
use Rattle.posting.proofs.Rooms.{queued_task, queued-node}
use Rattle.posting.proofs.append_to.Goals as goal

pub task_at-at-requires : goal.task_at-at-requires
task_at-at-requires c = record { in_range = c.requires.stretch.range; q_bound = (queued_task c.args.s c.args.node.now c.args.goal c.requires.queue _ c.in-Task.is).0 }

pub append-requires : goal.append-requires
append-requires c = rw c.task_at-at.ensures.is (queued_task c.args.s c.args.node.now c.args.goal c.requires.queue _ c.in-Task.is).1.queue

pub send-requires : goal.send-requires
send-requires c = record { in_range = c.requires.stretch.range; k_bound = (queued-node c.args.s c.args.node.now c.args.goal c.requires.queue _ c.in-Node.is).0 }

pub append-requires-in-Node : goal.append-requires-in-Node
append-requires-in-Node c = rw (c.send.ensures.kind, c.send.ensures.at.is) (queued-node c.args.s c.args.node.now c.args.goal c.requires.queue _ c.in-Node.is).1

pub returns-in-Task : goal.returns-in-Task
returns-in-Task c = appended_task c.args.s c.args.node.now c.args.goal _ _ _ c.args.b c.in-Task.is c.task_at-at.ensures.is c.append.ensures.0

pub returns-in-Node : goal.returns-in-Node
returns-in-Node c = appended-node c.args.s c.args.node.now c.args.goal _ _ _ c.args.b c.in-Node.is c.send.ensures.at.is (rw c.send.ensures.kind at c.append-in-Node.ensures.0)
