-- `shapes::are_within` meets its contract. Assumes nothing.
use Rattle.std.proofs.Common.{rules}
use native.Mathlib.Omega.{arith}
use Rattle.shapes.proofs.Steps.{within_no, within_more, within_none}
use Rattle.shapes.proofs.are_within.Goals as goal

pub returns-then-not-contains : goal.returns-then-not-contains
returns-then-not-contains c = within_no _ _ _ _ _ _ _ _ c.loop-i.invariant (omega arith) _ c.item.ensures (search rules)

pub loop-i-preserved : goal.loop-i-preserved
loop-i-preserved c = within_more _ _ _ _ _ _ _ _ c.loop-i.invariant (omega arith) _ c.item.ensures (search rules)

pub returns : goal.returns
returns c = within_none _ _ _ _ _ _ _ _ c.loop-i.invariant (omega arith)
