-- `send::goal_of` meets its contract: by whether the nodes are the same. Assumes nothing.
use Rattle.send.proofs.Outcomes.{goal_same, goal_other}
use Rattle.send.proofs.goal_of.Goals as goal

pub returns-then-from-to : goal.returns-then-from-to
returns-then-from-to c = goal_same c.args.from c.args.to c.args.queue c.if-from-to.true

pub returns-else-from-to : goal.returns-else-from-to
returns-else-from-to c = goal_other c.args.from c.args.to c.args.queue c.if-from-to.false
