-- `soundness::is_right_memory` meets its contract. Assumes nothing.
use mathlib.Core.Path.{sym, ◌∙◌}
use native.Mathlib.Omega.{arith}
use Rattle.layout.proofs.Fits.{nodes_fit}
use Rattle.sound.specs.Reading.{table_in}
use Rattle.shapes.proofs.Bound.{row-seats}
use Rattle.soundness.proofs.is_right_memory.Goals as goal

pub table-requires : goal.table-requires
table-requires c = omega (arith, c.requires.long, nodes_fit c.args.s)

pub is_right_seated-requires-clause-seats : goal.is_right_seated-requires-clause-seats
is_right_seated-requires-clause-seats c =
    let e = rw c.table.ensures at c.seat_tasks.ensures in
    row-seats (table_in c.args.memory.now) (sym e.answer ∙ c.if-seat_tasks.true) _ (e.row c.if-seat_tasks.true)
