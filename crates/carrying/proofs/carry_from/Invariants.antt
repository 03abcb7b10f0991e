-- `carrying::carry_from` meets its contract: what is left from a node on is the whole. Assumes nothing.
use mathlib.Core.Path.{◌≡◌}
use Prim.Native.Nat.{◌-◌}
use Rattle.stages_keep.specs.Steps.{carried_from}
use Rattle.carrying.specs.Asked.{CarriesFrom}
use Rattle.carrying.proofs.carry_from.Given as goal

abbrev pub invariant-loop-other : goal.invariant-loop-other
invariant-loop-other l =
    (CarriesFrom l.s l.memory l.j l.other l.a)
    × (carried_from l.s l.j (6 - l.other) l.memory l.other l.a ≡ carried_from l.s l.j (6 - l.i) l.initial.memory l.i l.initial.a)
