-- `shapes::are_within` meets its contract. Assumes nothing.
use mathlib.Core.Path.{◌≡◌}
use Prim.Native.Nat.{◌-◌}
use Rattle.queues.specs.Queue.{run, contents}
use Rattle.shapes.specs.Shape.{items_within}
use Rattle.shapes.proofs.are_within.Given as goal

abbrev pub invariant-loop-i : goal.invariant-loop-i
invariant-loop-i l = items_within l.least l.most (contents l.queue.kind l.node l.queue.at) ≡ items_within l.least l.most (run l.queue.kind l.node l.queue.at l.i (l.i-end - l.i))
