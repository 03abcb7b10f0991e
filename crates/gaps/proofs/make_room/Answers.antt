-- `gaps::make_room` meets its contract, by its two tests. Assumes nothing.
use mathlib.Core.Path.{◌∙◌}
use Rattle.gaps.proofs.Turns.{roomy_short, roomy-whole, roomy-closed}
use Rattle.gaps.proofs.make_room.Goals.{else-node-q-via-then-node-q+else-node-q-eq1, else-node-q-via-else-node-q}
use Rattle.gaps.proofs.make_room.Goals as goal

pub returns-then-node-q-eq1 : goal.returns-then-node-q-eq1
returns-then-node-q-eq1 c =
    let x = c.args in
    c.close.ensures ∙ roomy-closed x.s x.node.now x.q c.if-node-q.true c.if-node-q-eq1.true

pub returns-else-node-q : goal.returns-else-node-q
returns-else-node-q c =
    let x = c.args in
    elim c.else-node-q.branch [
      | else-node-q-via-then-node-q+else-node-q-eq1 w ↦ roomy-whole x.s x.node.now x.q w.if-node-q.true w.if-node-q-eq1.false
      | else-node-q-via-else-node-q w ↦ roomy_short x.s x.node.now x.q w.if-node-q.false
    ]
