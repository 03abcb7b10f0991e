-- `carrying::collect` meets its contract. Assumes nothing.
use Rattle.carrying.proofs.Asks.{gave}
use Rattle.carrying.proofs.collect.Goals as goal

pub returns : goal.returns
returns c = gave c.args.s c.args.memory.now c.args.j c.args.i c.args.r c.give_back-n.ensures c.blocks_back.ensures
