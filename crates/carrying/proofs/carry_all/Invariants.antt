-- `carrying::carry_all` meets its contract: what is left from here on is the whole. Assumes nothing.
use mathlib.Core.Path.{◌≡◌}
use Prim.Native.Nat.{◌-◌}
use Rattle.stages_keep.specs.Steps.{carried_all}
use Rattle.carrying.specs.Asked.{Carries}
use Rattle.carrying.proofs.carry_all.Given as goal

abbrev pub invariant-loop-letter : goal.invariant-loop-letter
invariant-loop-letter l =
    (Carries l.s l.memory l.j l.i (l.k - l._letter) l.a) × (carried_all l.s l.j (l.k - l._letter) l.memory l.i l.a ≡ carried_all l.s l.j l.k l.initial.memory l.i l.initial.a)
