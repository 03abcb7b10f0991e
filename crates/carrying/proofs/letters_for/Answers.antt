-- `carrying::letters_for` meets its contract. Assumes nothing.
use Rattle.carrying.proofs.Asks.{sends}
use Rattle.carrying.proofs.letters_for.Goals as goal

pub items-requires : goal.items-requires
items-requires c = rw (c.stretch.ensures.0, c.send.ensures.kind, c.send.ensures.at.is) (sends c.args.s c.args.memory.now c.args.j c.requires.sound_at c.args.i c.requires.i_lt_nodes)
