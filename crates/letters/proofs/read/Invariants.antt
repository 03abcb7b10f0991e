-- `letters::read` meets its contract: what stands and what is left to read make the whole. Assumes nothing.
use Prim.Native.Nat.{◌+◌, ◌-◌}
use Rattle.letters.proofs.UnderWay.{Reading}
use Rattle.letters.proofs.read.Given as goal

abbrev pub invariant-loop-done : goal.invariant-loop-done
invariant-loop-done l = Reading l.s l.node l.b l.at l.initial.out l.out l.block l.skip l.done

abbrev pub decreases-loop-done : goal.decreases-loop-done
decreases-loop-done l = l.end - l.done + l.skip
