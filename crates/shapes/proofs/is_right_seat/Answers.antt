-- `shapes::is_right_seat` meets its contract. Assumes nothing.
use mathlib.Core.Path.{sym, ap, ◌∙◌}
use Prim.Native.Nat.{ℕ, ◌+◌}
use lib.Dec.{eqb}
use lib.ListN.{get_or}
use Rattle.shapes.proofs.Steps.{seat_shape, seat_empty, seat-unbound, seat-gap, seat-high, seat-flag}
use Rattle.shapes.proofs.is_right_seat.Goals.{then-task-eq0-via-then-task-eq0, then-task-eq0-via-else-task-eq0+then-item-eq0}
use Rattle.shapes.proofs.is_right_seat.Goals as goal

pub returns-then-not-is_in_shape : goal.returns-then-not-is_in_shape
returns-then-not-is_in_shape c = seat_shape _ _ _ _ _ (sym c.is_in_shape.ensures ∙ c.if-not-is_in_shape.true)

pub returns-then-items-eq0 : goal.returns-then-items-eq0
returns-then-items-eq0 c =
    seat_empty _ _ _ _ _ (sym c.is_in_shape.ensures ∙ c.if-not-is_in_shape.false) (sym c.items.ensures ∙ c.if-items-eq0.true)

pub returns-then-task-eq0 : goal.returns-then-task-eq0
returns-then-task-eq0 c =
    let e = sym c.is_in_shape.ensures ∙ c.if-not-is_in_shape.false in
    let some = rw c.items.ensures at c.if-items-eq0.false in
    elim c.then-task-eq0.branch [
      | then-task-eq0-via-then-task-eq0 w ↦ seat-unbound _ _ _ _ _ e some w.if-task-eq0.true
      | then-task-eq0-via-else-task-eq0+then-item-eq0 w ↦ seat-gap _ _ _ _ _ e some (sym w.item.ensures ∙ w.if-item-eq0.true)
    ]

pub returns-then-are_within : goal.returns-then-are_within
returns-then-are_within c =
    let x = c.args in
    seat-flag _ _ _ _ _ (sym c.is_in_shape.ensures ∙ c.if-not-is_in_shape.false) (rw c.items.ensures at c.if-items-eq0.false) c.if-task-eq0.false (rw c.item.ensures at c.if-item-eq0.false) (sym c.are_within.ensures ∙ c.if-are_within.true) _
    (ap (λ (n : ℕ). eqb (get_or x.node.now (x.queue.at + 2) 0) n) c.gap_flag.ensures)

pub returns-else-are_within : goal.returns-else-are_within
returns-else-are_within c =
    c.if-are_within.false ∙ seat-high _ _ _ _ _ (sym c.is_in_shape.ensures ∙ c.if-not-is_in_shape.false) (rw c.items.ensures at c.if-items-eq0.false) (sym c.are_within.ensures ∙ c.if-are_within.false)
