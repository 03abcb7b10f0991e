-- `soundness::are_right_nodes` meets its contract. Assumes nothing.
use Rattle.soundness.specs.Parts.{node_right}
use Rattle.sound.proofs.Tests.{every_none, turn_no, turn_more}
use native.Mathlib.Omega.{arith}
use Rattle.soundness.proofs.are_right_nodes.Goals as goal

pub loop-i-init : goal.loop-i-init
loop-i-init c = every_none _

pub returns-then-not-is_right_node : goal.returns-then-not-is_right_node
unfolding node_right
returns-then-not-is_right_node c = turn_no (node_right c.args.s c.args.memory.now) 6 c.loop-i.i (omega arith) _ c.is_right_node.ensures (c.if-not-is_right_node.true)

pub loop-i-preserved : goal.loop-i-preserved
unfolding node_right
loop-i-preserved c = turn_more (node_right c.args.s c.args.memory.now) 6 c.loop-i.i c.loop-i.invariant _ c.is_right_node.ensures (c.if-not-is_right_node.false)
