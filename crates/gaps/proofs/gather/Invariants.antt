-- `gaps::gather` meets its contract: after i turns the row holds the live ones of the first i items. Assumes nothing.
use Rattle.gaps.specs.Row.{Row}
use Rattle.queues.specs.Items.{live}
use Rattle.queues.specs.Queue.{run}
use Prim.Native.Nat.{◌≤◌}
use Rattle.gaps.proofs.gather.Given as goal

abbrev pub invariant-loop-i : goal.invariant-loop-i
invariant-loop-i l = (l.n ≤ l.i) × Row (live (run l.queue.kind l.node l.queue.at 0 l.i)) l.row l.n
