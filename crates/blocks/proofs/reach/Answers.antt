-- `blocks::reach` meets its contract: what is left to walk from here on leads to the same block. Assumes nothing.
use mathlib.Core.Path.{sym, ◌∙◌}
use native.Mathlib.Omega.{arith}
use Prim.Native.Nat.{◌-◌}
use Rattle.blocks.proofs.Named.{block_none, block_some}
use Rattle.blocks.proofs.Steps.{is_block_lem, nth_none, nth_last, nth_step, within-list}
use Rattle.blocks.proofs.reach.Goals as goal

pub returns-then-at-eq0 : goal.returns-then-at-eq0
returns-then-at-eq0 c =
    let i = c.loop.invariant in
    block_none (sym i.same ∙ nth_none c.args.s c.args.node.now i.rest c.loop.at c.if-at-eq0.true)

pub link_of-at-requires : goal.link_of-at-requires
link_of-at-requires c =
    let x = c.args in
    let i = c.loop.invariant in
    is_block_lem x.s x.node.now c.loop.at i.reaches.stretch (within-list x.s x.node.now x.s.m i.rest c.loop.at i.reaches.some c.if-at-eq0.false i.reaches.within).0

pub loop-preserved : goal.loop-preserved
loop-preserved c =
    let x = c.args in
    let i = c.loop.invariant in
    let w = (within-list x.s x.node.now x.s.m i.rest c.loop.at i.reaches.some c.if-at-eq0.false i.reaches.within).1 in
    let n = nth_step x.s x.node.now i.rest c.loop.at (omega (arith, i.left)) c.if-at-eq0.false in
    record {
      rest = i.rest - 1;
      left = omega (arith, i.left);
      reaches = record { stretch = i.reaches.stretch; some = omega (arith, i.left); within = rw c.link_of-at.ensures w };
      same = rw c.link_of-at.ensures (sym n ∙ i.same);
    }

pub returns-then-at-eq0-2 : goal.returns-then-at-eq0-2
returns-then-at-eq0-2 c =
    let x = c.args in
    let i = c.loop.invariant in
    block_none (sym i.same ∙ nth_last x.s x.node.now i.rest c.loop.at (omega (arith, i.left, i.reaches.some)) ∙ c.if-at-eq0-2.true)

pub returns-else-at-eq0-2 : goal.returns-else-at-eq0-2
returns-else-at-eq0-2 c =
    let x = c.args in
    let i = c.loop.invariant in
    block_some (sym (nth_last x.s x.node.now i.rest c.loop.at (omega (arith, i.left, i.reaches.some))) ∙ i.same) c.if-at-eq0-2.false
