-- `places::are_right_letters` meets its contract. Assumes nothing.
use Rattle.places.proofs.Turns.{Turn}
use Rattle.places.proofs.are_right_letters.Given as goal

abbrev pub invariant-loop-c : goal.invariant-loop-c
invariant-loop-c l = Turn l.s l.stretch l.table l.asks l.queue.kind l.holding l.queue.at l.initial.marks l.marks l.c l.count
