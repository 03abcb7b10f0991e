-- `gaps::close` meets its contract: the row holds the live items, and is what is laid. Assumes nothing.
use Rattle.gaps.proofs.Turns.{closed_is}
use Rattle.gaps.proofs.close.Goals as goal

pub returns : goal.returns
returns c =
    let x = c.args in
    closed_is x.s x.node.now x.q c.task.ensures c.gather-n.ensures c.lay.ensures
