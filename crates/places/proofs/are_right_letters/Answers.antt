-- `places::are_right_letters` meets its contract. Assumes nothing.
use mathlib.Core.Path.{refl}
use native.Mathlib.Omega.{arith}
use Rattle.layout.proofs.Fits.{nodes_fit}
use Rattle.places.proofs.Begun.{judged_lent}
use Rattle.places.proofs.Turns.{turn_start, turn_end, turn_bad, turn_next}
use Rattle.places.proofs.are_right_letters.Goals as goal

pub returns-then-count-eq0 : goal.returns-then-count-eq0
returns-then-count-eq0 c =
    let x = c.args in
    judged_lent x.s x.memory.now x.i x.place _ _ _ refl refl c.stretch-holding.ensures.0 x.marks.now _ _
    (turn_end _ _ _ _ _ _ _ _ _ _ _ 0 (turn_start _ _ _ _ _ _ _ _ _ c.items-count.ensures) (omega arith))

pub table-table-requires : goal.table-table-requires
table-table-requires c = omega (arith, c.requires.looked.sized.long, nodes_fit c.args.s)

pub returns-then-not-is_right_letter : goal.returns-then-not-is_right_letter
returns-then-not-is_right_letter c =
    let x = c.args in
    judged_lent x.s x.memory.now x.i x.place _ _ _ c.stretch-stretch.ensures.0 c.table-table.ensures c.stretch-holding.ensures.0 x.marks.now _ _
    (turn_bad _ _ _ _ _ _ _ _ _ _ _ _ c.loop-c.invariant (omega arith) c.item-b.ensures _ _ c.is_right_letter.ensures c.if-not-is_right_letter.true)

pub loop-c-preserved : goal.loop-c-preserved
loop-c-preserved c = turn_next _ _ _ _ _ _ _ _ _ _ _ _ c.loop-c.invariant (omega arith) c.item-b.ensures _ _ c.is_right_letter.ensures c.if-not-is_right_letter.false

pub returns : goal.returns
returns c =
    let x = c.args in
    judged_lent x.s x.memory.now x.i x.place _ _ _ c.stretch-stretch.ensures.0 c.table-table.ensures c.stretch-holding.ensures.0 x.marks.now _ _
    (turn_end _ _ _ _ _ _ _ _ _ _ _ 0 c.loop-c.invariant (omega arith))
