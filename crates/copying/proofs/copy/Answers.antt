-- `copying::copy` meets its contract: what is still to be copied from here on makes the whole copy. Assumes nothing.
use native.Mathlib.Nat.{sub-add-eq}
use native.Mathlib.Omega.{arith}
use Rattle.copying.proofs.Moving.{way_starts, way_block, way_goes, way-ends}
use Rattle.copying.proofs.copy.Goals as goal

pub loop-init : goal.loop-init
loop-init c = way_starts c.args.s c.args.memory.now c.args.n c.args.i c.args.b c.args.j c.args.c c.requires _ (omega (arith, c.needs_of-owed.ensures))

pub link_in-behind_x-requires-clause-block : goal.link_in-behind_x-requires-clause-block
link_in-behind_x-requires-clause-block c = (way_block _ _ _ _ _ _ _ c.requires _ _ _ _ _ c.loop.invariant (omega arith)).from

pub link_in-behind_y-requires-clause-block : goal.link_in-behind_y-requires-clause-block
link_in-behind_y-requires-clause-block c = (way_block _ _ _ _ _ _ _ c.requires _ _ _ _ _ c.loop.invariant (omega arith)).to

pub copy_block-k-requires : goal.copy_block-k-requires
copy_block-k-requires c = way_block _ _ _ _ _ _ _ c.requires _ _ _ _ _ c.loop.invariant (omega arith)

pub loop-preserved : goal.loop-preserved
loop-preserved c =
    let k = c.copy_block-k.ensures in
    rw (sub-add-eq c.needs_of-owed.result c.loop.counter 1)
    (way_goes _ _ _ _ _ _ _ c.requires _ _ _ _ _ c.loop.invariant (omega arith) _ _ _ _ k.answer c.link_in-behind_x.ensures c.link_in-behind_y.ensures k.stored)

pub returns : goal.returns
returns c = way-ends _ _ _ _ _ _ _ c.requires _ _ _ _ _ c.loop.invariant (omega arith)
