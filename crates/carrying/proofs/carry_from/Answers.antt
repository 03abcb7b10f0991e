-- `carrying::carry_from` meets its contract: what is left from a node on is the whole. Assumes nothing.
use mathlib.Core.Path.{refl, ◌∙◌}
use native.Mathlib.Omega.{arith}
use Rattle.carrying.proofs.Asks.{from_all, from_next}
use Rattle.carrying.proofs.Ways.{nodes-stop, nodes_go}
use Rattle.carrying.proofs.carry_from.Goals as goal

pub carry_all-a-requires : goal.carry_all-a-requires
carry_all-a-requires c =
    let x = c.args in
    let l = c.loop-other in
    from_all x.s l.memory x.j l.other l.a l.invariant.0 (omega arith) c.letters_for-k.ensures

pub returns-in_default : goal.returns-in_default
returns-in_default c =
    let x = c.args in
    let l = c.loop-other in
    nodes-stop x.s x.j l.memory l.other l.a (omega arith) c.letters_for-k.ensures c.carry_all-a.ensures c.in_default.is
    ∙ l.invariant.1

pub loop-other-preserved : goal.loop-other-preserved
loop-other-preserved c =
    let x = c.args in
    let l = c.loop-other in
    let k = c.letters_for-k.ensures in
    let e = c.carry_all-a.ensures in
    let d = c.in-Done.is in (
      from_next x.s l.memory x.j l.other l.a l.invariant.0 (omega arith) k e d,
      nodes_go x.s x.j l.memory l.other l.a (omega arith) k e d refl ∙ l.invariant.1,
    )
