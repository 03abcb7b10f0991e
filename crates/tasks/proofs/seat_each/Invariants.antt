-- `tasks::seat_each` meets its contract: a seat is free while nobody sits there. Assumes nothing.
use Rattle.tasks.proofs.Marks.{Good}
use Rattle.tasks.proofs.seat_each.Given as goal

abbrev pub invariant-loop-id : goal.invariant-loop-id
invariant-loop-id l = Good l.table l.id l.seats
