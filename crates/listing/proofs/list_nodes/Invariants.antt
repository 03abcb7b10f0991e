-- `listing::list_nodes` meets its contract: after c turns the letters that wait in the first c send queues are placed. Assumes nothing.
use mathlib.Core.Path.{◌≡◌}
use Rattle.listing.specs.Asked.{placed, sent_below}
use Rattle.listing.proofs.Placing.{rows}
use Rattle.listing.proofs.list_nodes.Given as goal

abbrev pub invariant-loop-c : goal.invariant-loop-c
invariant-loop-c l = rows l.ranks l.out ≡ placed (sent_below l.s l.memory l.c) (rows l.initial.ranks l.initial.out)
