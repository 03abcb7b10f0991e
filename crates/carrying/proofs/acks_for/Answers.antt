-- `carrying::acks_for` meets its contract. Assumes nothing.
use Rattle.carrying.proofs.Asks.{acks}
use Rattle.carrying.proofs.acks_for.Goals as goal

pub items-requires : goal.items-requires
items-requires c = rw (c.stretch.ensures.0, c.ack.ensures.kind, c.ack.ensures.at.is) (acks c.args.s c.args.memory.now c.args.j c.requires.sound_at c.args.i c.requires.i_lt_nodes)
