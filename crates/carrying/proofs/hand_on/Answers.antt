-- `carrying::hand_on` meets its contract. Assumes nothing.
use Rattle.carrying.proofs.Asks.{hand_first}
use Rattle.carrying.proofs.hand_on.Goals as goal

pub drop_send-requires : goal.drop_send-requires
drop_send-requires c = hand_first c.args.s c.args.memory.now c.args.j c.args.i c.requires c.put_ack-how.ensures
