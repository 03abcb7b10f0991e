-- `posting::put_in` meets its contract: the goal is as it was after blocks are taken and the words written. Assumes nothing.
use Rattle.letters.specs.Made.{letter_of}
use Rattle.letters.proofs.UnderWay.{made_long, needs_made}
use Rattle.posting.proofs.Frames.{posts-takes, never_short, put-lies, put-aims, put_is}
use mathlib.Core.Path.{sym, ◌∙◌}
use Rattle.posting.proofs.put_in.Goals as goal

pub take-requires : goal.take-requires
take-requires c = rw c.needs_of-n.ensures (posts-takes c.args.s c.args.node.now c.args.goal _ c.requires.posts)

pub unreachable-requires : goal.unreachable-requires
unreachable-requires c = never_short c.args.s c.args.node.now c.args.goal (letter_of c.args.header c.args.body.now) (rw (made_long c.args.header c.args.body.now) c.requires) (rw (c.needs_of-n.ensures ∙ needs_made c.args.header c.args.body.now c.args.s) at (sym c.take.ensures.answer ∙ c.in_default.is))

pub write-requires : goal.write-requires
write-requires c = rw (made_long c.args.header c.args.body.now) at (put-lies c.args.s c.args.node.now c.args.goal (letter_of c.args.header c.args.body.now) (rw (made_long c.args.header c.args.body.now) c.requires) _ _ (rw (c.needs_of-n.ensures ∙ needs_made c.args.header c.args.body.now c.args.s) at (sym c.take.ensures.answer ∙ c.in-Some.is)) (rw (c.needs_of-n.ensures ∙ needs_made c.args.header c.args.body.now c.args.s) at c.take.ensures.stored))

pub append_to-requires : goal.append_to-requires
append_to-requires c = put-aims c.args.s c.args.node.now c.args.goal (letter_of c.args.header c.args.body.now) (rw (made_long c.args.header c.args.body.now) c.requires) _ _ (rw (c.needs_of-n.ensures ∙ needs_made c.args.header c.args.body.now c.args.s) at (sym c.take.ensures.answer ∙ c.in-Some.is)) (rw (c.needs_of-n.ensures ∙ needs_made c.args.header c.args.body.now c.args.s) at c.take.ensures.stored) _ c.write.ensures

pub returns : goal.returns
returns c = put_is c.args.s c.args.node.now c.args.goal (letter_of c.args.header c.args.body.now) (rw (made_long c.args.header c.args.body.now) c.requires) _ _ (rw (c.needs_of-n.ensures ∙ needs_made c.args.header c.args.body.now c.args.s) at (sym c.take.ensures.answer ∙ c.in-Some.is)) (rw (c.needs_of-n.ensures ∙ needs_made c.args.header c.args.body.now c.args.s) at c.take.ensures.stored) _ _ c.write.ensures c.append_to.ensures
