-- `taking::take` meets its contract, by whether the place is the first. Assumes nothing.
use Rattle.taking.proofs.Turns.{out_first, out_further}
use Rattle.queues.proofs.Views.{queue-dropped}
use native.Mathlib.Omega.{arith}
use mathlib.Core.Path.{◌∙◌}
use Rattle.taking.proofs.take.Goals as goal

pub drop_zeroes-requires : goal.drop_zeroes-requires
drop_zeroes-requires c =
    let x = c.args in
    rw c.drop_first.ensures.0 (queue-dropped x.queue.kind x.node.now x.queue.at c.requires.queue (omega arith))

pub returns-then-i-eq0 : goal.returns-then-i-eq0
returns-then-i-eq0 c =
    let x = c.args in
    c.drop_zeroes.ensures ∙ out_first x.queue.kind x.node.now x.queue.at x.i (omega arith) c.drop_first.ensures.0

pub returns : goal.returns
returns c =
    let x = c.args in
    rw c.slot.ensures.is (out_further x.queue.kind x.node.now x.queue.at x.i (λ e. omega arith))
