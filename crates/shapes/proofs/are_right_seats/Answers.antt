-- `shapes::are_right_seats` meets its contract. Assumes nothing.
use native.Mathlib.Omega.{arith}
use Rattle.sound.proofs.Tests.{every_none, turn_no, turn_more, turn_all}
use Rattle.shapes.specs.Shape.{right_seats}
use Rattle.shapes.proofs.are_right_seats.Goals as goal

pub loop-q-init : goal.loop-q-init
loop-q-init c = every_none _

pub returns-then-not-is_right_seat : goal.returns-then-not-is_right_seat
unfolding right_seats
returns-then-not-is_right_seat c =
    turn_no _ 64 c.loop-q.q (omega arith) c.is_right_seat.result
    (rw (← c.task.ensures.kind, ← c.task.ensures.at.is) c.is_right_seat.ensures)
    (c.if-not-is_right_seat.true)

pub loop-q-preserved : goal.loop-q-preserved
loop-q-preserved c =
    turn_more _ 64 c.loop-q.q c.loop-q.invariant c.is_right_seat.result
    (rw (← c.task.ensures.kind, ← c.task.ensures.at.is) c.is_right_seat.ensures)
    (c.if-not-is_right_seat.false)

pub returns : goal.returns
unfolding right_seats
returns c = turn_all _ 64 c.loop-q.q (omega arith) c.loop-q.invariant
