-- `visits::is_right_letter` meets its contract. Assumes nothing.
use mathlib.Core.Path.{sym, ◌∙◌}
use Rattle.visits.proofs.Judge.{its_whole, its_readable, letter_short, letter_head}
use Rattle.visits.proofs.is_right_letter.Goals as goal

pub is_right_length-requires : goal.is_right_length-requires
is_right_length-requires c = let x = c.args in its_whole x.s x.node.now x.b x.marks.now _ _ c.visit.ensures _ c.in-Some.is c.requires

pub is_right_header-requires : goal.is_right_header-requires
is_right_header-requires c = let x = c.args in its_readable x.s x.node.now x.b x.marks.now _ _ c.visit.ensures _ c.in-Some.is c.requires (sym c.is_right_length.ensures ∙ c.if-is_right_length.true)

pub returns-then-is_right_length : goal.returns-then-is_right_length
returns-then-is_right_length c = let x = c.args in letter_head x.s x.node.now x.table.now x.asks x.marks.now x.b c.if-b-eq0.false _ _ c.visit.ensures _ c.in-Some.is (sym c.is_right_length.ensures ∙ c.if-is_right_length.true) _ c.is_right_header.ensures

pub returns-else-is_right_length : goal.returns-else-is_right_length
returns-else-is_right_length c = let x = c.args in letter_short x.s x.node.now x.table.now x.asks x.marks.now x.b c.if-b-eq0.false _ _ c.visit.ensures _ c.in-Some.is _ c.is_right_length.ensures c.if-is_right_length.false
