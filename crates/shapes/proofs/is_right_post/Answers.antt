-- `shapes::is_right_post` meets its contract. Assumes nothing.
use mathlib.Core.Path.{sym, ap, ◌∙◌}
use lib.Dec.{eqb}
use Rattle.shapes.proofs.Steps.{post_shape, post_own, post_other}
use Rattle.shapes.proofs.is_right_post.Goals as goal

pub returns-then-not-is_in_shape : goal.returns-then-not-is_in_shape
returns-then-not-is_in_shape c = post_shape _ _ _ _ _ (sym c.is_in_shape.ensures ∙ c.if-not-is_in_shape.true)

pub returns-then-own : goal.returns-then-own
returns-then-own c =
    ap (λ n. eqb n 0) c.items.ensures
    ∙ post_own _ _ _ _ _ (sym c.is_in_shape.ensures ∙ c.if-not-is_in_shape.false) c.if-own.true

pub returns-else-own : goal.returns-else-own
returns-else-own c = post_other _ _ _ _ _ (sym c.is_in_shape.ensures ∙ c.if-not-is_in_shape.false) c.if-own.false _ c.are_within.ensures
