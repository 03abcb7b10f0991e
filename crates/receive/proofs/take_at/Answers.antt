-- `receive::take_at` meets its contract: by whether there is room. Assumes nothing.
use Rattle.receive.proofs.Outcomes.{holds-whole, at_short, at_done}
use Rattle.receive.proofs.Bodies.{lies_first}
use Rattle.receive.proofs.take_at.Goals as goal

pub returns-then-out-n : goal.returns-then-out-n
returns-then-out-n c = at_short c.args.s c.args.node.now c.args.q c.args.k c.requires c.first_block-b.ensures c.body_length-length.ensures c.args.out.now c.if-out-n.true

pub word_of-source-requires : goal.word_of-source-requires
word_of-source-requires c = lies_first c.args.s c.args.node.now _ (holds-whole c.args.s c.args.node.now c.args.q c.args.k c.requires c.first_block-b.ensures)

pub returns : goal.returns
returns c = at_done c.args.s c.args.node.now c.args.q c.args.k c.requires c.first_block-b.ensures c.body_length-length.ensures c.args.out.now c.if-out-n.false c.word_of-source.ensures c.empty.ensures c.read_body.ensures
