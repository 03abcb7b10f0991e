-- `shapes::is_in_shape` meets its contract. Assumes nothing.
use native.Mathlib.Omega.{arith}
use Rattle.shapes.proofs.Steps.{shape_start, shape_items, shape_clear}
use Rattle.shapes.proofs.is_in_shape.Goals.{then-first-slots, else-first-slots}
use Rattle.shapes.proofs.is_in_shape.Goals as goal

pub returns-then-count-slots : goal.returns-then-count-slots
returns-then-count-slots c = shape_clear _ _ _ c.if-count-slots.true.0 c.if-count-slots.true.1 _ c.is_clear.ensures

pub returns-else-count-slots : goal.returns-else-count-slots
returns-else-count-slots c =
    let x = c.args in
    elim c.if-first-slots.branch [
      | then-first-slots w ↦ cc (shape_items x.queue.kind x.node.now x.queue.at (omega arith))
      | else-first-slots w ↦ cc (shape_start x.queue.kind x.node.now x.queue.at (omega arith))
    ]
