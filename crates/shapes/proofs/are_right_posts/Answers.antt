-- `shapes::are_right_posts` meets its contract. Assumes nothing.
use native.Mathlib.Omega.{arith}
use Rattle.sound.proofs.Tests.{every_none, turn_no, turn_more}
use Rattle.shapes.proofs.are_right_posts.Goals as goal

pub loop-k-init : goal.loop-k-init
loop-k-init c = every_none _

pub returns-then-not-is_right_post : goal.returns-then-not-is_right_post
returns-then-not-is_right_post c = turn_no _ 6 c.loop-k.k (omega arith) _ c.is_right_post.ensures c.if-not-is_right_post.true

pub loop-k-preserved : goal.loop-k-preserved
loop-k-preserved c = turn_more _ 6 c.loop-k.k c.loop-k.invariant _ c.is_right_post.ensures c.if-not-is_right_post.false
