-- `soundness::is_right_seated` meets its contract. Assumes nothing.
use mathlib.Core.Path.{sym, ◌∙◌}
use native.Mathlib.Omega.{arith}
use Rattle.soundness.proofs.Rules.{seated_no, queued, looked, lettered, seated_copies}
use Rattle.soundness.proofs.is_right_seated.Goals as goal

pub are_standing-requires : goal.are_standing-requires
are_standing-requires c = queued c.args.s c.args.memory.now (sym c.are_right_queues.ensures ∙ c.if-are_right_queues.true) c.requires.sized

pub are_right_nodes-requires-clause-looked : goal.are_right_nodes-requires-clause-looked
are_right_nodes-requires-clause-looked c = looked c.args.s c.args.memory.now (grind arith) (grind arith) c.requires.sized c.requires.memory_value

pub are_right_copies-requires : goal.are_right_copies-requires
are_right_copies-requires c = lettered c.args.s c.args.memory.now (grind arith) (grind arith) (grind arith) c.requires.sized c.requires.memory_value

pub returns-then-are_right_nodes : goal.returns-then-are_right_nodes
returns-then-are_right_nodes c = seated_copies c.args.s c.args.memory.now (grind arith) (grind arith) (grind arith) _ c.are_right_copies.ensures

pub returns-else-are_right_nodes : goal.returns-else-are_right_nodes
returns-else-are_right_nodes c = c.if-are_right_nodes.false ∙ seated_no c.args.s c.args.memory.now (grind arith)
