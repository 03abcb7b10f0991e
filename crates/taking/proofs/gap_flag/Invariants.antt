-- `taking::gap_flag` meets its contract: the flag from place i on is the flag. Assumes nothing.
use Rattle.queues.specs.Items.{gap_flag}
use Rattle.queues.specs.Queue.{run, contents}
use Prim.Native.Nat.{◌-◌}
use mathlib.Core.Path.{◌≡◌}
use Rattle.taking.proofs.gap_flag.Given as goal

abbrev pub invariant-loop-i : goal.invariant-loop-i
invariant-loop-i l = gap_flag (run l.queue.kind l.node l.queue.at l.i (l.i-end - l.i)) ≡ gap_flag (contents l.queue.kind l.node l.queue.at)
