-- `listing::list_nodes` meets its contract: after c turns the letters that wait in the first c send queues are placed. Assumes nothing.
use native.Mathlib.Omega.{arith}
use Rattle.listing.proofs.Few.{few-sent}
use Rattle.listing.proofs.Letters.{queues_more}
use Rattle.listing.proofs.Placing.{so_low}
use Rattle.listing.proofs.list_nodes.Goals as goal

pub list_send_queue-requires-clause-low : goal.list_send_queue-requires-clause-low
list_send_queue-requires-clause-low c =
    let l = c.loop-c in so_low _ _ _ _ _ l.invariant _ _ c.requires.low (omega (arith, few-sent _ _ c.requires.asked l.c (omega arith)))

pub loop-c-preserved : goal.loop-c-preserved
loop-c-preserved c = queues_more _ _ _ _ _ c.loop-c.c c.loop-c.invariant c.list_send_queue.ensures
