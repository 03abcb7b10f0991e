-- `posting::has_blocks` meets its contract: by the n-th block of the free list. Assumes nothing.
use Rattle.posting.proofs.Rooms.{blocks-there}
use Rattle.blocks.proofs.Taking.{front_within}
use Rattle.blocks.proofs.Steps.{head_fits}
use native.Mathlib.Omega.{arith}
use Rattle.posting.proofs.has_blocks.Goals as goal

pub bounds-node-0 : goal.bounds-node-0
bounds-node-0 c = let p = c.requires in omega (arith, head_fits c.args.s)

pub reach-requires : goal.reach-requires
reach-requires c = record { stretch = c.requires.stretch; some = c.requires.some; within = front_within c.args.s c.args.node.now c.args.n c.requires }

pub returns : goal.returns
returns c = blocks-there c.args.s c.args.node.now c.args.n c.requires c.reach.ensures c.is_some.ensures
