-- `carrying::collect_all` meets its contract: what is left from here on is the whole. Assumes nothing.
use mathlib.Core.Path.{◌≡◌}
use Prim.Native.Nat.{◌-◌}
use Rattle.stages_keep.specs.Steps.{collected_all}
use Rattle.carrying.specs.Asked.{Collects}
use Rattle.carrying.proofs.collect_all.Given as goal

abbrev pub invariant-loop-item : goal.invariant-loop-item
invariant-loop-item l =
    (Collects l.s l.memory l.j l.i (l.k - l._item) l.a) × (collected_all l.s l.j (l.k - l._item) l.memory l.i l.a ≡ collected_all l.s l.j l.k l.initial.memory l.i l.initial.a)
