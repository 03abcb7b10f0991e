-- `carrying::deliver` meets its contract. Assumes nothing.
use Rattle.carrying.proofs.Asks.{deliver_hand}
use Rattle.carrying.proofs.deliver.Goals as goal

pub hand_on-requires : goal.hand_on-requires
hand_on-requires c = deliver_hand c.args.s c.args.memory.now c.args.j c.args.i c.args.c c.args.r c.requires c.put_task-how.ensures c.in-Done.is
