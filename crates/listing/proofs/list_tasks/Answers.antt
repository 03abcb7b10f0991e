-- `listing::list_tasks` meets its contract: after each turn the letters of the queues of the tasks below `task` are placed. Assumes nothing.
use native.Mathlib.Omega.{arith}
use Rattle.listing.proofs.Few.{few_below}
use Rattle.listing.proofs.Letters.{tasks_more}
use Rattle.listing.proofs.Placing.{so_low}
use Rattle.listing.proofs.list_tasks.Goals as goal

pub list_task-requires-clause-low : goal.list_task-requires-clause-low
list_task-requires-clause-low c =
    let l = c.loop-task in so_low _ _ _ _ _ l.invariant _ _ c.requires.low (omega (arith, few_below _ _ c.requires.asked l.task))

pub loop-task-preserved : goal.loop-task-preserved
loop-task-preserved c = tasks_more _ _ _ _ _ c.loop-task.task c.loop-task.invariant c.list_task.ensures
