-- `carrying::carry_all` meets its contract: what is left from here on is the whole. Assumes nothing.
use mathlib.Core.Path.{◌≡◌, refl, ◌∙◌}
use Prim.Native.Nat.{◌+◌, ◌-◌}
use native.Mathlib.Omega.{arith}
use Rattle.carrying.proofs.Asks.{all_next}
use Rattle.carrying.proofs.Ways.{all-stop, all_go}
use Rattle.carrying.proofs.carry_all.Goals as goal

pub returns-in_default : goal.returns-in_default
returns-in_default c =
    let x = c.args in
    let l = c.loop-letter in
    let left : x.k - l._letter ≡ x.k - (l._letter + 1) + 1 = omega arith in
    all-stop x.s x.j (x.k - l._letter) l.memory x.i l.a _ left c.carry-a.ensures c.in_default.is ∙ l.invariant.1

pub loop-letter-preserved : goal.loop-letter-preserved
loop-letter-preserved c =
    let x = c.args in
    let l = c.loop-letter in
    let e = c.carry-a.ensures in
    let d = c.in-Done.is in
    let left : x.k - l._letter ≡ x.k - (l._letter + 1) + 1 = omega arith in (
      all_next x.s l.memory x.j x.i (x.k - l._letter) (x.k - (l._letter + 1)) l.a l.invariant.0 left e d,
      all_go x.s x.j (x.k - l._letter) l.memory x.i l.a _ left e d refl ∙ l.invariant.1,
    )
