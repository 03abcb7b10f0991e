-- `copies::are_right_copies` meets its contract. Assumes nothing.
use Rattle.copies.specs.Copy.{copy_right}
use Rattle.sound.proofs.Tests.{every_none, turn_no, turn_more}
use native.Mathlib.Omega.{arith}
use Rattle.copies.proofs.are_right_copies.Goals as goal

pub loop-j-init : goal.loop-j-init
loop-j-init c = every_none _

pub returns-then-not-is_right_copy : goal.returns-then-not-is_right_copy
returns-then-not-is_right_copy c = turn_no (copy_right c.args.s c.args.memory.now) 6 c.loop-j.j (omega arith) _ c.is_right_copy.ensures (c.if-not-is_right_copy.true)

pub loop-j-preserved : goal.loop-j-preserved
loop-j-preserved c = turn_more (copy_right c.args.s c.args.memory.now) 6 c.loop-j.j c.loop-j.invariant _ c.is_right_copy.ensures (c.if-not-is_right_copy.false)
