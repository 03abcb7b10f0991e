-- `soundness::are_standing` meets its contract. Assumes nothing.
use Rattle.places.specs.Given.{stands_right}
use Rattle.sound.proofs.Tests.{every_none, turn_no, turn_more}
use native.Mathlib.Omega.{arith}
use Rattle.soundness.proofs.are_standing.Goals as goal

pub loop-j-init : goal.loop-j-init
loop-j-init c = every_none _

pub returns-then-not-is_standing : goal.returns-then-not-is_standing
returns-then-not-is_standing c = turn_no (stands_right c.args.s c.args.memory.now) 6 c.loop-j.j (omega arith) _ c.is_standing.ensures (c.if-not-is_standing.true)

pub loop-j-preserved : goal.loop-j-preserved
loop-j-preserved c = turn_more (stands_right c.args.s c.args.memory.now) 6 c.loop-j.j c.loop-j.invariant _ c.is_standing.ensures (c.if-not-is_standing.false)
