-- `carrying::collect_all` meets its contract: what is left from here on is the whole. Assumes nothing.
use mathlib.Core.Path.{◌≡◌, refl, ◌∙◌}
use Prim.Native.Nat.{◌+◌, ◌-◌}
use native.Mathlib.Omega.{arith}
use Rattle.carrying.proofs.Asks.{back_next}
use Rattle.carrying.proofs.Ways.{back_go}
use Rattle.carrying.proofs.collect_all.Goals as goal

pub loop-item-preserved : goal.loop-item-preserved
loop-item-preserved c =
    let x = c.args in
    let l = c.loop-item in
    let e = c.collect-a.ensures in
    let left : x.k - l._item ≡ x.k - (l._item + 1) + 1 = omega arith in (
      back_next x.s l.memory x.j x.i (x.k - l._item) l.a l.invariant.0 (x.k - (l._item + 1)) left e,
      back_go x.s x.j l.memory x.i l.a (x.k - l._item) _ left e refl ∙ l.invariant.1,
    )
