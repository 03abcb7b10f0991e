-- `listing::list_send_queue` meets its contract: after each turn the letters of the items from the first that is not left out up to place c are placed. Assumes nothing.
use mathlib.Core.Path.{◌≡◌}
use Prim.Native.Nat.{◌-◌, ◌≤◌}
use Rattle.layout.specs.Places.{send_at, node}
use Rattle.queues.specs.Queue.{send_kind, run}
use Rattle.listing.specs.Asked.{placed, sent_from}
use Rattle.listing.proofs.Given.{Read}
use Rattle.listing.proofs.Placing.{rows}
use Rattle.listing.proofs.list_send_queue.Given as goal

abbrev pub invariant-loop-c : goal.invariant-loop-c
invariant-loop-c l = record {
  within : l.c - l.first ≤ l.c-end - l.first;
  read : Read l.s l.memory l.j (send_kind l.s) (send_at l.s l.i) l.node l.queue.kind l.queue.at l.c-end;
  laid : rows l.ranks l.out ≡ placed (sent_from l.s l.memory l.j (run (send_kind l.s) (node l.s l.memory l.j) (send_at l.s l.i) l.first (l.c - l.first))) (rows l.initial.ranks l.initial.out);
}
