-- `visits::visit_on` meets its contract. Assumes nothing.
use native.Mathlib.Omega.{arith}
use Rattle.visits.proofs.Walks.{walk_end, walk_none, walk_above, walk_marked, walk_next}
use Rattle.visits.proofs.+visit_on.Goals.{then-owed-eq0-via-then-owed-eq0, then-owed-eq0-via-else-owed-eq0+then-m-at}
use Rattle.visits.proofs.+visit_on.Goals as goal

pub returns-then-b-eq0 : goal.returns-then-b-eq0
returns-then-b-eq0 t c = let x = c.args in walk_end x.node.now.now x.before x.width x.m x.owed x.b x.marks.now c.if-b-eq0.true

pub returns-then-owed-eq0 : goal.returns-then-owed-eq0
returns-then-owed-eq0 t c =
    let x = c.args in
    elim c.then-owed-eq0.branch [
      | then-owed-eq0-via-then-owed-eq0 w ↦
          walk_none x.node.now.now x.before x.width x.m x.owed x.b x.marks.now c.if-b-eq0.false w.if-owed-eq0.true
      | then-owed-eq0-via-else-owed-eq0+then-m-at w ↦
          walk_above x.node.now.now x.before x.width x.m x.owed x.b x.marks.now c.if-b-eq0.false w.if-owed-eq0.false w.if-m-at.true
    ]

pub returns-then-marks-at-ne0 : goal.returns-then-marks-at-ne0
returns-then-marks-at-ne0 t c = let x = c.args in walk_marked x.node.now.now x.before x.width x.m x.owed x.b x.marks.now c.if-b-eq0.false (omega arith) c.if-marks-at-ne0.true

pub returns : goal.returns
returns t c =
    let x = c.args in
    walk_next x.node.now.now x.before x.width x.m x.owed x.b x.marks.now c.if-b-eq0.false c.if-owed-eq0.false (omega arith) c.if-marks-at-ne0.false _ _ c.visit_on.ensures
