-- `places::is_right_node` meets its contract. Assumes nothing.
use mathlib.Core.Path.{sym, ◌∙◌}
use Rattle.places.proofs.Once.{free_no, places_no, node_is}
use Rattle.places.proofs.is_right_node.Goals.{then-is_right_free, else-is_right_free}
use Rattle.places.proofs.is_right_node.Goals as goal

pub returns-then-are_right_places : goal.returns-then-are_right_places
returns-then-are_right_places c =
    let x = c.args in
    let f = rw c.stretch.ensures.0 at c.is_right_free.ensures in
    elim c.if-is_right_free.branch [
      | then-is_right_free w ↦
          let e = sym w.value-is ∙ c.if-are_right_places.true in
          node_is x.s x.memory.now x.i c.requires.looked (sym f.is ∙ w.if-is_right_free.true) _ (f.marks w.if-is_right_free.true) (sym w.are_right_places.ensures.is ∙ e) _ (w.marks-is ∙ w.are_right_places.ensures.marks e) _ c.are_all_marked.ensures
      | else-is_right_free w ↦ cc
    ]

pub returns-else-are_right_places : goal.returns-else-are_right_places
returns-else-are_right_places c =
    let x = c.args in
    let f = rw c.stretch.ensures.0 at c.is_right_free.ensures in
    elim c.if-is_right_free.branch [
      | then-is_right_free w ↦
          c.if-are_right_places.false
          ∙ places_no x.s x.memory.now x.i c.requires.looked (sym f.is ∙ w.if-is_right_free.true) _ (f.marks w.if-is_right_free.true) (sym w.are_right_places.ensures.is ∙ sym w.value-is ∙ c.if-are_right_places.false)
      | else-is_right_free w ↦ c.if-are_right_places.false ∙ free_no x.s x.memory.now x.i c.requires.looked (sym f.is ∙ w.if-is_right_free.false)
    ]
