-- `shapes::are_right_seats` meets its contract. Assumes nothing.
use mathlib.Core.Path.{◌≡◌}
use mathlib.Core.Bool.{true}
use lib.ListN.{get_or}
use Rattle.words.specs.Words.{every}
use Rattle.layout.specs.Places.{task_at}
use Rattle.tasks.specs.Seat.{seat_at}
use Rattle.queues.specs.Queue.{task_kind}
use Rattle.shapes.specs.Shape.{right_seat}
use Rattle.shapes.proofs.are_right_seats.Given as goal

abbrev pub invariant-loop-q : goal.invariant-loop-q
invariant-loop-q l = every l.q (λ q. right_seat (task_kind l.s) l.node (task_at l.s q) l.s.m (get_or l.seats (seat_at l.i q) 0)) ≡ true
