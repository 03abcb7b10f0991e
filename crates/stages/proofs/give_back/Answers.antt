-- `stages::give_back` meets its contract. Assumes nothing.
use Rattle.stages.proofs.Giving.{owes-range, owes-queue, owes-begins, owes-small, owes-returns, gave_back}
use Rattle.stages.proofs.give_back.Goals as goal

pub ack-requires : goal.ack-requires
ack-requires c = let both = owes-range c.args.s c.args.memory.now c.args.j c.args.i c.requires in record { in_range = both.0; k_bound = both.1 }

pub drop_in-x-requires : goal.drop_in-x-requires
drop_in-x-requires c = let both = owes-queue c.args.s c.args.memory.now c.args.j c.args.i c.requires c.ack.ensures.kind c.ack.ensures.at.is in record { has_queue = both.0; q_nonzero = both.1 }

pub length_of-length-requires : goal.length_of-length-requires
length_of-length-requires c = owes-begins c.args.s c.args.memory.now c.args.j c.args.i c.requires c.ack.ensures.kind c.ack.ensures.at.is c.drop_in-x.ensures.0 c.drop_in-x.ensures.1

pub needs_of-n-requires : goal.needs_of-n-requires
needs_of-n-requires c = let both = owes-small c.args.s c.args.memory.now c.args.j c.args.i c.requires c.ack.ensures.kind c.ack.ensures.at.is c.drop_in-x.ensures.0 c.drop_in-x.ensures.1 c.length_of-length.ensures in record { in_range = both.0; n_bound = both.1 }

pub return_chain-requires : goal.return_chain-requires
return_chain-requires c = owes-returns c.args.s c.args.memory.now c.args.j c.args.i c.requires c.ack.ensures.kind c.ack.ensures.at.is c.drop_in-x.ensures.0 c.drop_in-x.ensures.1 c.length_of-length.ensures c.needs_of-n.ensures

pub returns : goal.returns
returns c = gave_back c.args.s c.args.memory.now c.args.j c.args.i c.requires c.ack.ensures.kind c.ack.ensures.at.is c.drop_in-x.ensures.0 c.drop_in-x.ensures.1 c.length_of-length.ensures c.needs_of-n.ensures c.return_chain.ensures
