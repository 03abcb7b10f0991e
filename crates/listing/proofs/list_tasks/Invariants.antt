-- `listing::list_tasks` meets its contract: after each turn the letters of the queues of the tasks below `task` are placed. Assumes nothing.
use mathlib.Core.Path.{◌≡◌}
use Rattle.listing.specs.Asked.{placed, kept_below}
use Rattle.listing.proofs.Placing.{rows}
use Rattle.listing.proofs.list_tasks.Given as goal

abbrev pub invariant-loop-task : goal.invariant-loop-task
invariant-loop-task l = rows l.ranks l.out ≡ placed (kept_below l.s l.memory l.task) (rows l.initial.ranks l.initial.out)
