-- `taking::take_out` meets its contract. Assumes nothing.
use Rattle.queues.specs.Queue.{task_kind}
use Rattle.taking.proofs.Turns.{taken_is}
use Rattle.taking.proofs.Taken.{queue-out}
use Rattle.taking.proofs.take_out.Goals as goal

pub gap_flag-flag-requires : goal.gap_flag-flag-requires
gap_flag-flag-requires c =
    let x = c.args in
    rw (c.take.ensures, c.task.ensures) (queue-out (task_kind x.s) x.node.now x.q x.i c.requires)

pub returns : goal.returns
returns c =
    let x = c.args in
    taken_is x.s x.node.now x.q x.i c.task.ensures c.take.ensures c.gap_flag-flag.ensures
