-- `stages::drop_send` meets its contract. Assumes nothing.
use Rattle.lending.proofs.Queues.{first-queue}
use Rattle.stages.proofs.Copying.{first_some}
use Rattle.stages.proofs.drop_send.Goals as goal

pub drop_in-requires : goal.drop_in-requires
drop_in-requires c = record { has_queue = first-queue c.args.s c.args.memory.now c.args.i c.args.j c.requires c.send.ensures.kind c.send.ensures.at.is; q_nonzero = first_some c.args.s c.args.memory.now c.args.i c.args.j c.requires c.send.ensures.kind c.send.ensures.at.is }
