-- `blocks::give_back` meets its contract. Assumes nothing.
use native.Mathlib.Omega.{arith}
use Rattle.blocks.specs.Moves.{given_back}
use Rattle.blocks.proofs.Steps.{is_block_lem, head_fits, last_in}
use Rattle.blocks.proofs.give_back.Goals as goal

pub bounds-node-0 : goal.bounds-node-0
bounds-node-0 c = omega (arith, head_fits c.args.s)

pub set_link-requires : goal.set_link-requires
set_link-requires c =
    is_block_lem _ _ _ c.requires.walks.stretch (rw c.last_of-last.ensures (last_in c.args.s c.args.node.now c.args.s.m c.args.owed c.args.b c.requires.le_owed c.requires.walks.within))

pub bounds-node-0-2 : goal.bounds-node-0-2
bounds-node-0-2 c = omega (arith, head_fits c.args.s)

pub returns : goal.returns
unfolding given_back
returns c = cc
