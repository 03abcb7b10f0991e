-- `copies::is_right_copy` meets its contract. Assumes nothing.
use native.Mathlib.Omega.{arith}
use Rattle.layout.proofs.Fits.{nodes_fit}
use Rattle.copies.proofs.Copied.{copy_none, other-small, queue_is, both_read, copy_is}
use Rattle.copies.proofs.is_right_copy.Goals as goal

pub bounds-memory-at : goal.bounds-memory-at
bounds-memory-at c = let x = c.args in omega (arith, c.requires.j_lt_nodes, c.requires.lettered.looked.sized.long, nodes_fit x.s)

pub returns-then-memory-at-ne2 : goal.returns-then-memory-at-ne2
returns-then-memory-at-ne2 c = let x = c.args in copy_none x.s x.memory.now c.requires.lettered x.j c.requires.j_lt_nodes c.if-memory-at-ne2.true

pub bounds-memory-at-2 : goal.bounds-memory-at-2
bounds-memory-at-2 c = let x = c.args in omega (arith, c.requires.j_lt_nodes, c.requires.lettered.looked.sized.long, nodes_fit x.s)

pub bounds-memory-at-3 : goal.bounds-memory-at-3
bounds-memory-at-3 c = let x = c.args in omega (arith, c.requires.j_lt_nodes, c.requires.lettered.looked.sized.long, nodes_fit x.s)

pub stretch-theirs-requires : goal.stretch-theirs-requires
stretch-theirs-requires c = let x = c.args in record { sized = c.requires.lettered.looked.sized; i_lt_nodes = other-small x.s x.memory.now c.requires.lettered x.j c.requires.j_lt_nodes c.if-memory-at-ne2.false }

pub item-first-requires : goal.item-first-requires
item-first-requires c = let x = c.args in let both = queue_is x.s x.memory.now c.requires.lettered x.j c.requires.j_lt_nodes c.if-memory-at-ne2.false _ _ _ c.send.ensures.kind c.send.ensures.at.is c.stretch-theirs.ensures.0 in record { queue = both.0; i_lt_slots = both.1 }

pub is_same_letter-requires : goal.is_same_letter-requires
is_same_letter-requires c = let x = c.args in let both = both_read x.s x.memory.now c.requires.lettered x.j c.requires.j_lt_nodes c.if-memory-at-ne2.false _ _ _ _ _ c.stretch-own.ensures.0 c.stretch-theirs.ensures.0 c.send.ensures.kind c.send.ensures.at.is c.item-first.ensures in record { readable = both.0; readable_2 = both.1 }

pub returns : goal.returns
returns c = let x = c.args in copy_is x.s x.memory.now c.requires.lettered x.j c.requires.j_lt_nodes c.if-memory-at-ne2.false _ _ _ _ _ c.stretch-own.ensures.0 c.stretch-theirs.ensures.0 c.send.ensures.kind c.send.ensures.at.is c.item-first.ensures _ c.is_same_letter.ensures
