-- `gaps::gather` meets its contract: after i turns the row holds the live ones of the first i items. Assumes nothing.
use Rattle.gaps.proofs.Turns.{row_none, gather_some, gather_zero}
use Rattle.queues.specs.Queue.{run}
use native.Mathlib.Omega.{arith}
use Rattle.gaps.proofs.gather.Goals.{then-x-ne0, else-x-ne0}
use Rattle.gaps.proofs.gather.Goals as goal

pub loop-i-init : goal.loop-i-init
unfolding run
loop-i-init c = (omega arith, row_none c.requires.row_value)

pub loop-i-preserved : goal.loop-i-preserved
loop-i-preserved c =
    let x = c.args in
    let o = c.loop-i in
    let p = c.item-x.ensures in
    elim c.if-x-ne0.branch [
      | then-x-ne0 w ↦ (omega arith, rw (w.row-is, w.n-is) (gather_some x.queue.kind x.node.now x.queue.at o.i o.invariant.1 p w.if-x-ne0.true (omega arith)))
      | else-x-ne0 w ↦ (omega arith, rw (w.row-is, w.n-is) (gather_zero x.queue.kind x.node.now x.queue.at o.i o.invariant.1 p w.if-x-ne0.false))
    ]
