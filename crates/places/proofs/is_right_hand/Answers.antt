-- `places::is_right_hand` meets its contract. Assumes nothing.
use native.Mathlib.Omega.{arith}
use Rattle.layout.proofs.Fits.{nodes_fit}
use Rattle.visits.specs.declared.Asks.TheVariants.{Any}
use Rattle.places.proofs.Seen.{hand_range}
use Rattle.places.proofs.Begun.{judged_place, hand_asks, hand_none, begun-held}
use Rattle.places.proofs.is_right_hand.Goals as goal

pub bounds-memory-at : goal.bounds-memory-at
bounds-memory-at c = let x = c.args in omega (arith, c.requires.i_lt_nodes, c.requires.looked.sized.long, nodes_fit x.s)

pub returns-then-memory-at-ne2 : goal.returns-then-memory-at-ne2
returns-then-memory-at-ne2 c = let x = c.args in hand_range x.s x.memory.now x.i x.marks.now _ _ (hand_none x.s x.memory.now x.i c.requires.looked c.requires.i_lt_nodes x.marks.now c.if-memory-at-ne2.true)

pub bounds-memory-at-2 : goal.bounds-memory-at-2
bounds-memory-at-2 c = let x = c.args in omega (arith, c.requires.i_lt_nodes, c.requires.looked.sized.long, nodes_fit x.s)

pub table-requires : goal.table-requires
table-requires c = let x = c.args in omega (arith, c.requires.looked.sized.long, nodes_fit x.s)

pub returns : goal.returns
returns c =
    let x = c.args in
    hand_range x.s x.memory.now x.i x.marks.now _ _
    (judged_place x.s x.memory.now x.i 0 Any (hand_asks x.s x.memory.now x.i c.requires.looked c.requires.i_lt_nodes) x.marks.now _ _ _ (begun-held x.s x.memory.now x.i c.requires.looked c.requires.i_lt_nodes c.if-memory-at-ne2.false) (rw (c.stretch-stretch.ensures.0, c.table.ensures) at c.is_right_letter.ensures))
