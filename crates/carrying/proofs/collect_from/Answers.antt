-- `carrying::collect_from` meets its contract: what is left from a node on is the whole. Assumes nothing.
use mathlib.Core.Path.{refl, ◌∙◌}
use native.Mathlib.Omega.{arith}
use Rattle.carrying.proofs.Asks.{backs_all, backs_next}
use Rattle.carrying.proofs.Ways.{backs_go}
use Rattle.carrying.proofs.collect_from.Goals as goal

pub collect_all-a-requires : goal.collect_all-a-requires
collect_all-a-requires c =
    let x = c.args in
    let l = c.loop-other in
    backs_all x.s l.memory x.j l.other l.a l.invariant.0 (omega arith) c.acks_for-k.ensures

pub loop-other-preserved : goal.loop-other-preserved
loop-other-preserved c =
    let x = c.args in
    let l = c.loop-other in
    let k = c.acks_for-k.ensures in
    let e = c.collect_all-a.ensures in (
      backs_next x.s l.memory x.j l.other l.a l.invariant.0 (omega arith) k e,
      backs_go x.s x.j l.memory l.other l.a (omega arith) k e refl ∙ l.invariant.1,
    )
