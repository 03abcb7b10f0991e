-- `carrying::carry` meets its contract. Assumes nothing.
use Rattle.carrying.proofs.Asks.{rest_lent, carry_deliver}
use Rattle.carrying.proofs.carry.Goals as goal

pub first_free-c-requires : goal.first_free-c-requires
first_free-c-requires c = rest_lent c.args.s c.args.memory.now c.args.j c.requires.waits.stands

pub deliver-requires : goal.deliver-requires
deliver-requires c = carry_deliver c.args.s c.args.memory.now c.args.j c.args.i c.args.r c.requires c.first_free-c.ensures c.copy_in-how.ensures c.in-Done.is
