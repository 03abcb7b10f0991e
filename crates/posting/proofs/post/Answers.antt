-- `posting::post` meets its contract: by the two tests. Assumes nothing.
use Rattle.letters.specs.Made.{letter_of}
use Rattle.letters.proofs.UnderWay.{needs_made}
use Rattle.posting.proofs.Frames.{posts-takes, post-few, post_full, post-done}
use Rattle.blocks.proofs.Steps.{head_fits}
use native.Mathlib.Omega.{arith}
use mathlib.Core.Path.{sym, ◌∙◌}
use Rattle.posting.proofs.post.Goals as goal

pub has_blocks-requires : goal.has_blocks-requires
has_blocks-requires c = rw c.needs_of-n.ensures (posts-takes c.args.s c.args.node.now c.args.goal _ c.requires)

pub count_up-requires : goal.count_up-requires
count_up-requires c = omega (arith, head_fits c.args.s, c.requires.aims.stretch.long)

pub returns-then-not-has_blocks : goal.returns-then-not-has_blocks
returns-then-not-has_blocks c = post-few c.args.s c.args.node.now c.args.goal (letter_of c.args.header c.args.body.now) _ (c.needs_of-n.ensures ∙ needs_made c.args.header c.args.body.now c.args.s) _ (sym (c.if-not-has_blocks.true) ∙ c.has_blocks.ensures) c.count_up.ensures

pub returns-then-not-has_room : goal.returns-then-not-has_room
returns-then-not-has_room c = post_full c.args.s c.args.node.now c.args.goal (letter_of c.args.header c.args.body.now) _ (c.needs_of-n.ensures ∙ needs_made c.args.header c.args.body.now c.args.s) _ (sym (c.if-not-has_blocks.false) ∙ c.has_blocks.ensures) (sym (c.if-not-has_room.true) ∙ c.has_room.ensures) c.count_full.ensures

pub returns : goal.returns
returns c = post-done c.args.s c.args.node.now c.args.goal (letter_of c.args.header c.args.body.now) _ (c.needs_of-n.ensures ∙ needs_made c.args.header c.args.body.now c.args.s) _ (sym (c.if-not-has_blocks.false) ∙ c.has_blocks.ensures) (sym (c.if-not-has_room.false) ∙ c.has_room.ensures) c.put_in.ensures
