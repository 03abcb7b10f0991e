-- `letters::write_block` meets its contract: after i turns the first i words stand. Assumes nothing.
use Prim.Native.Nat.{◌-◌}
use native.Mathlib.Omega.{arith}
use Rattle.letters.proofs.UnderWay.{block_more, block_all}
use Rattle.letters.proofs.write_block.Goals as goal

pub loop-i-preserved : goal.loop-i-preserved
loop-i-preserved c =
    let l = c.loop-i in
    block_more c.args.h c.args.body.now c.args.k _ (c.args.s.b - 1) c.min-n.ensures c.args.node.now l.node _ l.i _ (omega arith) l.invariant c.letter_word.ensures

pub returns : goal.returns
returns c =
    let l = c.loop-i in
    block_all c.args.h c.args.body.now c.args.k _ (c.args.s.b - 1) c.min-n.ensures c.args.node.now l.node _ _ l.i c.block_at-a.ensures.is (omega arith) l.invariant
