-- `shapes::is_clear` meets its contract. Assumes nothing.
use mathlib.Core.Path.{sym, ◌∙◌}
use native.Mathlib.Omega.{arith}
use Rattle.sound.proofs.Tests.{no_first, yes_first}
use Rattle.shapes.proofs.Clear.{clear_none, clear_straight, clear_round}
use Rattle.shapes.proofs.is_clear.Goals as goal

pub returns-then-count-eq0 : goal.returns-then-count-eq0
returns-then-count-eq0 c =
    c.are_zero.ensures ∙ clear_none _ _ _ _ _ c.requires.first_value c.requires.count_value c.if-count-eq0.true

pub returns-then-slots-end : goal.returns-then-slots-end
returns-then-slots-end c =
    c.are_zero-then-slots-end.ensures ∙ clear_round _ _ _ _ _ c.requires.first_value c.requires.count_value (omega arith)

pub returns-then-are_zero : goal.returns-then-are_zero
returns-then-are_zero c =
    yes_first _ _ _ (sym c.are_zero-2.ensures ∙ c.if-are_zero.true) c.are_zero-then-are_zero.ensures
    ∙ clear_straight _ _ _ _ _ c.requires.first_value c.requires.count_value (omega arith)

pub returns-else-are_zero : goal.returns-else-are_zero
returns-else-are_zero c =
    c.if-are_zero.false ∙ no_first _ _ (sym c.are_zero-2.ensures ∙ c.if-are_zero.false)
    ∙ clear_straight _ _ _ _ _ c.requires.first_value c.requires.count_value (omega arith)
