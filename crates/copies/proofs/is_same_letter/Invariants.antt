-- `copies::is_same_letter` meets its contract. Assumes nothing.
use Rattle.copies.proofs.Copied.{Comparing}
use Rattle.copies.proofs.is_same_letter.Given as goal

abbrev pub invariant-loop-left : goal.invariant-loop-left
invariant-loop-left l = Comparing l.s l.a l.b l.c l.d l.left l.x l.y

abbrev pub decreases-loop-left : goal.decreases-loop-left
decreases-loop-left l = l.left
