-- `receive::body_length` meets its contract. Assumes nothing.
use Rattle.receive.proofs.Bodies.{lies-header, body_told}
use Rattle.receive.proofs.body_length.Goals as goal

pub told_length-requires : goal.told_length-requires
told_length-requires c = lies-header c.args.s c.args.node.now c.args.b c.requires

pub overflow_sub-result : goal.overflow_sub-result
overflow_sub-result c = (body_told c.args.s c.args.node.now c.args.b c.requires c.told_length.ensures).0

pub returns : goal.returns
returns c = (body_told c.args.s c.args.node.now c.args.b c.requires c.told_length.ensures).1
