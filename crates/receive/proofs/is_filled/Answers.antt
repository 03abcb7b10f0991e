-- `receive::is_filled` meets its contract: by its two tests. Assumes nothing.
use Rattle.receive.proofs.Outcomes.{filled_any, filled_one}
use Rattle.receive.proofs.is_filled.Goals as goal

pub returns-then-source-eq0 : goal.returns-then-source-eq0
returns-then-source-eq0 c = let x = c.args in filled_any x.s x.node.now x.q x.source c.if-source-eq0.true

pub returns : goal.returns
returns c = let x = c.args in filled_one x.s x.node.now x.q x.source c.if-source-eq0.false c.task.ensures.at.is c.items.ensures
