-- `soundness::are_right_queues` meets its contract. Assumes nothing.
use mathlib.Core.Path.{◌∙◌}
use native.Mathlib.Omega.{arith}
use Rattle.sound.specs.Queues.{right_queues}
use Rattle.sound.proofs.Tests.{every_none, turn_no, turn_more}
use Rattle.shapes.proofs.Rule.{stretch-queues}
use Rattle.soundness.proofs.are_right_queues.Goals as goal

pub loop-i-init : goal.loop-i-init
loop-i-init c = every_none _

pub returns-then-not-is_right_stretch : goal.returns-then-not-is_right_stretch
returns-then-not-is_right_stretch c = let x = c.args in turn_no (right_queues x.s x.memory.now) 6 c.loop-i.i (omega arith) _ (rw c.stretch.ensures.0 at c.is_right_stretch.ensures ∙ stretch-queues x.s x.memory.now x.seats.now c.loop-i.i (omega arith) c.requires.seats) (c.if-not-is_right_stretch.true)

pub loop-i-preserved : goal.loop-i-preserved
loop-i-preserved c = let x = c.args in turn_more (right_queues x.s x.memory.now) 6 c.loop-i.i c.loop-i.invariant _ (rw c.stretch.ensures.0 at c.is_right_stretch.ensures ∙ stretch-queues x.s x.memory.now x.seats.now c.loop-i.i (omega arith) c.requires.seats) (c.if-not-is_right_stretch.false)
