-- `stages::copy_in` meets its contract. Assumes nothing.
use Rattle.stages.proofs.Copying.{waits_first, waits-begins, waits-small, waits-takes, short_lent, short_is, first_copies, first_is}
use Rattle.stages.proofs.copy_in.Goals as goal

pub first_of-x-requires : goal.first_of-x-requires
first_of-x-requires c = waits_first c.args.s c.args.memory.now c.args.j c.args.i c.requires

pub length_of-length-requires : goal.length_of-length-requires
length_of-length-requires c = waits-begins c.args.s c.args.memory.now c.args.j c.args.i c.requires c.first_of-x.ensures

pub needs_of-n-requires : goal.needs_of-n-requires
needs_of-n-requires c = let both = waits-small c.args.s c.args.memory.now c.args.j c.args.i c.requires c.first_of-x.ensures c.length_of-length.ensures in record { in_range = both.0; n_bound = both.1 }

pub take_space-requires : goal.take_space-requires
take_space-requires c = waits-takes c.args.s c.args.memory.now c.args.j c.args.i c.requires c.first_of-x.ensures c.length_of-length.ensures c.needs_of-n.ensures

pub count_room-requires : goal.count_room-requires
count_room-requires c = short_lent c.args.s c.args.memory.now c.args.j c.args.i c.requires c.first_of-x.ensures c.length_of-length.ensures c.needs_of-n.ensures c.take_space.ensures.0 c.take_space.ensures.1 c.in_default.is

pub returns-in_default : goal.returns-in_default
returns-in_default c = short_is c.args.s c.args.memory.now c.args.j c.args.i c.requires c.first_of-x.ensures c.length_of-length.ensures c.needs_of-n.ensures c.take_space.ensures.0 c.take_space.ensures.1 c.in_default.is c.count_room.ensures

pub copy-requires : goal.copy-requires
copy-requires c = first_copies c.args.s c.args.memory.now c.args.j c.args.i c.requires c.first_of-x.ensures c.length_of-length.ensures c.needs_of-n.ensures c.take_space.ensures.0 c.take_space.ensures.1 c.in-Some.is

pub returns : goal.returns
returns c = first_is c.args.s c.args.memory.now c.args.j c.args.i c.requires c.first_of-x.ensures c.length_of-length.ensures c.needs_of-n.ensures c.take_space.ensures.0 c.take_space.ensures.1 c.in-Some.is c.copy.ensures
