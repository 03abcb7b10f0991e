-- `tasks::seat_each` meets its contract: a seat is free while nobody sits there. Assumes nothing.
use mathlib.Core.Path.{sym, ◌∙◌}
use native.Mathlib.Omega.{arith}
use Rattle.tasks.proofs.Marks.{good_start, good_none, good-seat}
use Rattle.tasks.proofs.seat_each.Goals as goal

pub loop-id-init : goal.loop-id-init
loop-id-init c = good_start _ _ c.requires.seats_value

pub loop-id-preserved-then-holds_none : goal.loop-id-preserved-then-holds_none
loop-id-preserved-then-holds_none c = good_none _ _ _ c.loop-id.invariant (sym c.holds_none.ensures ∙ c.if-holds_none.true)

pub loop-id-preserved : goal.loop-id-preserved
loop-id-preserved c =
    good-seat _ _ _ c.loop-id.invariant (sym c.holds_none.ensures ∙ c.if-holds_none.false) (omega arith) (omega arith) (omega arith) c.requires.table_value c.if-seats-seat-ne0.false
