-- `blocks::last_on` meets its contract. Assumes nothing.
use mathlib.Core.Path.{sym, ◌∙◌}
use Prim.Native.Nat.{◌-◌}
use native.Mathlib.Omega.{arith}
use Rattle.blocks.proofs.Steps.{after_none, follow_fits, follow_step, follow_after}
use Rattle.blocks.proofs.+last_on.Goals as goal

pub returns-then-owed-eq1 : goal.returns-then-owed-eq1
returns-then-owed-eq1 t c = λ s f. sym (after_none s c.args.node.now.now (c.args.owed - 1) c.args.b (omega arith))

pub overflow_add-next : goal.overflow_add-next
overflow_add-next t c = let p = c.requires in omega (arith, follow_fits _ _ _ _ _ _ p.1)

pub offset_bounds-node-before : goal.offset_bounds-node-before
offset_bounds-node-before t c = let p = c.requires in omega (arith, follow_fits _ _ _ _ _ _ p.1)

pub bounds-node-before : goal.bounds-node-before
bounds-node-before t c = let p = c.requires in omega (arith, follow_fits _ _ _ _ _ _ p.1)

pub last_on-requires : goal.last_on-requires
last_on-requires t c = let p = c.requires in (omega (arith, p.1.some), (p.0, follow_step _ _ _ _ _ _ p.1 c.if-owed-eq1.false))

pub returns : goal.returns
returns t c = λ s f. c.last_on.ensures s (follow_step _ _ _ _ _ _ f c.if-owed-eq1.false) ∙ sym (follow_after _ _ _ _ _ _ f c.if-owed-eq1.false)
