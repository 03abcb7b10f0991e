-- `queues::count_up` meets its contract. Assumes nothing.
use Rattle.queues.specs.Moves.{counted}
use Rattle.queues.proofs.count_up.Goals as goal

pub returns : goal.returns
unfolding counted
returns c = rw c.one_more-count.ensures
