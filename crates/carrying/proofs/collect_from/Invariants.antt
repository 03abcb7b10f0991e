-- `carrying::collect_from` meets its contract: what is left from a node on is the whole. Assumes nothing.
use mathlib.Core.Path.{◌≡◌}
use Prim.Native.Nat.{◌-◌}
use Rattle.stages_keep.specs.Steps.{collected_from}
use Rattle.carrying.specs.Asked.{CollectsFrom}
use Rattle.carrying.proofs.collect_from.Given as goal

abbrev pub invariant-loop-other : goal.invariant-loop-other
invariant-loop-other l =
    (CollectsFrom l.s l.memory l.j l.other l.a)
    × (collected_from l.s l.j (6 - l.other) l.memory l.other l.a ≡ collected_from l.s l.j (6 - l.i) l.initial.memory l.i l.initial.a)
