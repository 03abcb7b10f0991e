-- `taking::drop_zeroes` meets its contract: what is left to drop gives what is to come out. Assumes nothing.
use Rattle.taking.specs.Take.{cleared}
use Rattle.queues.specs.Queue.{Queue, items}
use mathlib.Core.Path.{◌≡◌}
use Rattle.taking.proofs.drop_zeroes.Given as goal

abbrev pub invariant-loop-node : goal.invariant-loop-node
invariant-loop-node l = Queue l.queue.kind l.node l.queue.at × (cleared l.queue.kind l.queue.at (items l.queue.kind l.node l.queue.at) l.node ≡ cleared l.queue.kind l.queue.at (items l.queue.kind l.initial.node l.queue.at) l.initial.node)

abbrev pub decreases-loop-node : goal.decreases-loop-node
decreases-loop-node l = items l.queue.kind l.node l.queue.at
