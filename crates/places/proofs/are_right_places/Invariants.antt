-- `places::are_right_places` meets its contract. Assumes nothing.
use Rattle.places.proofs.Seen.{Seen}
use Rattle.places.proofs.are_right_places.Given as goal

abbrev pub invariant-loop-p : goal.invariant-loop-p
invariant-loop-p l = Seen l.s l.memory l.i l.fn.marks l.marks l.p
