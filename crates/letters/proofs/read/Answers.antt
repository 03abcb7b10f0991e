-- `letters::read` meets its contract: what stands and what is left to read make the whole. Assumes nothing.
use native.Mathlib.Omega.{arith}
use Rattle.letters.proofs.Steps.{stepped, first_block}
use Rattle.letters.proofs.UnderWay.{read_starts, read_passes, read_inside, read_goes}
use Rattle.letters.proofs.read.Goals as goal

pub overflow_sub-before : goal.overflow_sub-before
overflow_sub-before c = (first_block c.args.s c.requires.walks.stretch.range _ c.block_at-before.ensures.is).0

pub loop-done-init : goal.loop-done-init
loop-done-init c = read_starts c.args.s c.args.node.now c.args.b c.args.at c.args.out.now c.requires

pub overflow_cast-before : goal.overflow_cast-before
overflow_cast-before c = omega (arith, (first_block c.args.s c.requires.walks.stretch.range _ c.block_at-before.ensures.is).1)

pub read_block-requires : goal.read_block-requires
read_block-requires c =
    let i = c.loop-done.invariant in
    read_inside _ _ _ _ _ _ _ _ _ i _ _ (stepped _ _ _ _ _ _ _ _ _ _ i.covers c.block_at-before.ensures.is c.first.ensures c.in-Some.is) c.if-step-eq0.false

pub loop-done-preserved-then-step-eq0 : goal.loop-done-preserved-then-step-eq0
loop-done-preserved-then-step-eq0 c =
    let i = c.loop-done.invariant in
    (read_passes _ _ _ _ _ _ _ _ _ i _ _ (stepped _ _ _ _ _ _ _ _ _ _ i.covers c.block_at-before.ensures.is c.first.ensures c.in-Some.is) c.if-step-eq0.true).1

pub loop-done-preserved : goal.loop-done-preserved
loop-done-preserved c =
    let i = c.loop-done.invariant in
    read_goes _ _ _ _ _ _ _ _ _ i _ _ (stepped _ _ _ _ _ _ _ _ _ _ i.covers c.block_at-before.ensures.is c.first.ensures c.in-Some.is) c.if-step-eq0.false _ c.read_block.ensures.got
