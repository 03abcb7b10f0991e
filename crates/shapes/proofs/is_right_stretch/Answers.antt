-- `shapes::is_right_stretch` meets its contract. Assumes nothing.
use mathlib.Core.Path.{sym, ◌∙◌}
use Rattle.sound.proofs.Tests.{no_first, yes_first}
use Rattle.shapes.specs.Shape.{right_stretch}
use Rattle.shapes.proofs.Posts.{placed_sends, placed_acks, sends_are, acks_are}
use Rattle.shapes.proofs.is_right_stretch.Goals.{then-are_right_posts, else-are_right_posts}
use Rattle.shapes.proofs.is_right_stretch.Goals as goal

pub are_right_posts-requires : goal.are_right_posts-requires
are_right_posts-requires c = placed_sends _ _ _ _ c.requires.stretch c.send.ensures.kind c.send.ensures.at.is

pub are_right_posts-requires-then-are_right_posts : goal.are_right_posts-requires-then-are_right_posts
are_right_posts-requires-then-are_right_posts c = placed_acks _ _ _ _ c.requires.stretch c.ack.ensures.kind c.ack.ensures.at.is

pub returns-then-are_right_posts-2 : goal.returns-then-are_right_posts-2
unfolding right_stretch
returns-then-are_right_posts-2 c =
    let x = c.args in
    let a = sends_are x.s x.node.now _ _ x.i _ c.are_right_posts.ensures c.send.ensures.kind c.send.ensures.at.is in
    elim c.if-are_right_posts.branch [
      | then-are_right_posts w ↦
          let b = acks_are x.s x.node.now _ _ x.i _ w.are_right_posts-then-are_right_posts.ensures w.ack.ensures.kind w.ack.ensures.at.is in
          yes_first _ _ _ (sym a ∙ w.if-are_right_posts.true) (yes_first _ _ _ (sym b ∙ sym w.value-is ∙ c.if-are_right_posts-2.true) c.are_right_seats.ensures)
      | else-are_right_posts w ↦ absurd (let z = sym w.if-are_right_posts.false ∙ sym w.value-is ∙ c.if-are_right_posts-2.true in cc)
    ]

pub returns-else-are_right_posts-2 : goal.returns-else-are_right_posts-2
unfolding right_stretch
returns-else-are_right_posts-2 c =
    let x = c.args in
    let a = sends_are x.s x.node.now _ _ x.i _ c.are_right_posts.ensures c.send.ensures.kind c.send.ensures.at.is in
    elim c.if-are_right_posts.branch [
      | then-are_right_posts w ↦
          let b = acks_are x.s x.node.now _ _ x.i _ w.are_right_posts-then-are_right_posts.ensures w.ack.ensures.kind w.ack.ensures.at.is in
          c.if-are_right_posts-2.false ∙ yes_first _ _ _ (sym a ∙ w.if-are_right_posts.true) (no_first _ _ (sym b ∙ sym w.value-is ∙ c.if-are_right_posts-2.false))
      | else-are_right_posts w ↦ c.if-are_right_posts-2.false ∙ no_first _ _ (sym a ∙ w.if-are_right_posts.false)
    ]
