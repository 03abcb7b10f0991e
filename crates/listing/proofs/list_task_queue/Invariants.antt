-- `listing::list_task_queue` meets its contract: after c turns the letters of the first c items are placed. Assumes nothing.
use mathlib.Core.Path.{◌≡◌}
use Rattle.layout.specs.Places.{task_at, node}
use Rattle.queues.specs.Queue.{task_kind, run}
use Rattle.queues.specs.Items.{live}
use Rattle.showing.specs.List.{from_task}
use Rattle.listing.specs.Asked.{placed}
use Rattle.listing.proofs.Given.{Read}
use Rattle.listing.proofs.Placing.{rows}
use Rattle.listing.proofs.list_task_queue.Given as goal

abbrev pub invariant-loop-c : goal.invariant-loop-c
invariant-loop-c l = record {
  read : Read l.s l.memory l.i (task_kind l.s) (task_at l.s l.q) l.node l.queue.kind l.queue.at l.c-end;
  laid : rows l.ranks l.out ≡ placed (from_task l.s l.memory l.task l.i (live (run (task_kind l.s) (node l.s l.memory l.i) (task_at l.s l.q) 0 l.c))) (rows l.initial.ranks l.initial.out);
}
