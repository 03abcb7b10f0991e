-- `stages::put_task` meets its contract. Assumes nothing.
use Rattle.stages.proofs.Putting.{holds_addressed, holds-queue, queued_is}
use Rattle.stages.proofs.put_task.Goals as goal

pub queue_for-q-requires : goal.queue_for-q-requires
queue_for-q-requires c = holds_addressed c.args.s c.args.memory.now c.args.j c.args.c c.requires

pub append_task-done-requires : goal.append_task-done-requires
append_task-done-requires c = holds-queue c.args.s c.args.memory.now c.args.j c.args.c c.requires c.queue_for-q.ensures

pub returns : goal.returns
returns c = queued_is c.args.s c.args.memory.now c.args.j c.args.c c.requires c.queue_for-q.ensures c.append_task-done.ensures.0 c.append_task-done.ensures.1 c.stage_of.ensures
