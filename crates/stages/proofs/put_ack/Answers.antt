-- `stages::put_ack` meets its contract. Assumes nothing.
use Rattle.stages.proofs.Putting.{stands_first, stands-range, stands_ack, acknowledged_is}
use Rattle.stages.proofs.put_ack.Goals as goal

pub first_of-x-requires : goal.first_of-x-requires
first_of-x-requires c = stands_first c.args.s c.args.memory.now c.args.j c.args.i c.requires

pub ack-requires : goal.ack-requires
ack-requires c = let both = stands-range c.args.s c.args.memory.now c.args.j c.args.i c.requires in record { in_range = both.0; k_bound = both.1 }

pub append_in-done-requires : goal.append_in-done-requires
append_in-done-requires c = stands_ack c.args.s c.args.memory.now c.args.j c.args.i c.requires c.ack.ensures.kind c.ack.ensures.at.is

pub returns : goal.returns
returns c = acknowledged_is c.args.s c.args.memory.now c.args.j c.args.i c.requires c.ack.ensures.kind c.ack.ensures.at.is c.first_of-x.ensures c.append_in-done.ensures.0 c.append_in-done.ensures.1 c.stage_of.ensures
