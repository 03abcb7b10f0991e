-- `gaps::append` meets its contract: with gaps closed the queue is still one. Assumes nothing.
use Rattle.gaps.proofs.Closed.{queue-roomy}
use Rattle.gaps.proofs.append.Goals as goal

pub append-requires : goal.append-requires
append-requires c =
    let x = c.args in
    rw (c.task.ensures, c.make_room.ensures) (queue-roomy x.s x.node.now x.q c.requires)
