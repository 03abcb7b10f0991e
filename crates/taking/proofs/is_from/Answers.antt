-- `taking::is_from` meets its contract. Assumes nothing.
use mathlib.Core.Path.{◌∙◌}
use borrow.Author.Tests.{eq-eqb}
use Rattle.taking.proofs.Turns.{from_any, from_one}
use Rattle.taking.proofs.is_from.Goals as goal

pub returns-then-source-eq0 : goal.returns-then-source-eq0
returns-then-source-eq0 c = let x = c.args in eq-eqb x.source 0 c.if-source-eq0.true ∙ from_any x.s x.node.now x.source x.b c.if-source-eq0.true

pub returns-else-source-eq0 : goal.returns-else-source-eq0
returns-else-source-eq0 c =
    let x = c.args in
    from_one x.s x.node.now x.source x.b c.if-source-eq0.false c.block_at.result c.block_at.ensures.is
