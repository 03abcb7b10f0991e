-- `taking::drop_zeroes` meets its contract: what is left to drop gives what is to come out. Assumes nothing.
use Rattle.queues.proofs.Views.{items-dropped, queue-dropped}
use Rattle.taking.proofs.Turns.{cleared_more, cleared-stop, cleared_none}
use native.Mathlib.Omega.{arith}
use mathlib.Core.Path.{sym, ◌∙◌}
use Rattle.taking.proofs.drop_zeroes.Goals as goal

pub loop-node-smaller : goal.loop-node-smaller
loop-node-smaller c =
    let x = c.args in
    let o = c.loop-node in
    rw c.drop_first.ensures.0 (omega (arith, items-dropped x.queue.kind o.node x.queue.at o.invariant.0 (omega arith)))

pub loop-node-preserved : goal.loop-node-preserved
loop-node-preserved c =
    let x = c.args in
    let o = c.loop-node in
    let e = c.drop_first.ensures.0 in (
      rw e (queue-dropped x.queue.kind o.node x.queue.at o.invariant.0 (omega arith)),
      rw e (rw (items-dropped x.queue.kind o.node x.queue.at o.invariant.0 (omega arith)) (sym (cleared_more x.queue.kind o.node x.queue.at _ (omega arith) (sym c.item.ensures ∙ c.if-item-eq0.true)) ∙ o.invariant.1)),
    )

pub returns-else-item-eq0 : goal.returns-else-item-eq0
returns-else-item-eq0 c =
    let x = c.args in
    let o = c.loop-node in
    sym (cleared-stop x.queue.kind o.node x.queue.at _ (λ e. c.if-item-eq0.false (c.item.ensures ∙ e))) ∙ o.invariant.1

pub returns-after-loop-node : goal.returns-after-loop-node
returns-after-loop-node c =
    let x = c.args in
    let o = c.loop-node in
    sym (cleared_none x.queue.kind o.node x.queue.at _ (omega arith)) ∙ o.invariant.1
