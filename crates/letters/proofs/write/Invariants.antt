-- `letters::write` meets its contract: what is still to be laid from here on makes the whole letter. Assumes nothing.
use Prim.Native.Nat.{◌-◌}
use Rattle.letters.specs.Made.{letter_of}
use Rattle.letters.proofs.UnderWay.{Writing}
use Rattle.letters.proofs.write.Given as goal

abbrev pub invariant-loop : goal.invariant-loop
invariant-loop l = Writing l.s l.initial.node l.b (letter_of l.h l.body) l.node (l.owed - l.counter) l.block l.k
