-- `receive::empty` meets its contract: the chain stays where the item leaves. Assumes nothing.
use Rattle.receive.proofs.Chains.{leaves_most, leaves_walks, leaves_is}
use mathlib.Core.Path.{refl}
use native.Mathlib.Omega.{arith}
use Rattle.receive.proofs.empty.Goals as goal

pub overflow_add-n : goal.overflow_add-n
overflow_add-n c = omega (arith, leaves_most c.args.s c.args.node.now c.args.q c.args.k c.args.b c.args.n c.requires)

pub needs_of-owed-requires : goal.needs_of-owed-requires
needs_of-owed-requires c = record { in_range = c.requires.holds.letter.stretch.range; n_bound = omega (arith, leaves_most c.args.s c.args.node.now c.args.q c.args.k c.args.b c.args.n c.requires) }

pub give_back-requires : goal.give_back-requires
give_back-requires c = let both = leaves_walks c.args.s c.args.node.now c.args.q c.args.k c.args.b c.args.n c.requires c.needs_of-owed.ensures c.task_at-at.ensures.is c.take_out.ensures (omega arith) (omega arith) in record { walks = both.0; le_owed = both.1 }

pub returns : goal.returns
returns c = leaves_is c.args.s c.args.node.now c.args.q c.args.k c.args.b c.args.n c.requires c.needs_of-owed.ensures c.task_at-at.ensures.is c.take_out.ensures refl c.give_back.ensures
