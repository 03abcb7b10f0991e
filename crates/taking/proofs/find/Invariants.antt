-- `taking::find` meets its contract: what is found from place i on is what is found at all. Assumes nothing.
use Rattle.taking.specs.Find.{wanted, first_from, found}
use Rattle.queues.specs.Queue.{run}
use Prim.Native.Nat.{◌-◌}
use mathlib.Core.Path.{◌≡◌}
use Rattle.taking.proofs.find.Given as goal

abbrev pub invariant-loop-i : goal.invariant-loop-i
invariant-loop-i l = first_from (wanted l.s l.node l.source) l.i (run l.queue.kind l.node l.q l.i (l.i-end - l.i)) ≡ found l.s l.node l.q l.source
