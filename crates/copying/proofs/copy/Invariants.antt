-- `copying::copy` meets its contract: what is still to be copied from here on makes the whole copy. Assumes nothing.
use Prim.Native.Nat.{◌-◌}
use Rattle.copying.proofs.Moving.{UnderWay}
use Rattle.copying.proofs.copy.Given as goal

abbrev pub invariant-loop : goal.invariant-loop
invariant-loop l = UnderWay l.s l.initial.memory l.n l.i l.b l.j l.c l.memory (l.owed - l.counter) l.left l.x l.y
