-- `visits::visit` meets its contract. Assumes nothing.
use mathlib.Core.Path.{ap}
use Prim.Native.Nat.{◌-◌}
use native.Mathlib.Omega.{arith}
use Rattle.letters.proofs.Steps.{first_block}
use Rattle.visits.proofs.Walks.{told_bad, told_ended, linked, visited_as}
use Rattle.visits.proofs.visit.Goals as goal

pub overflow_sub-before : goal.overflow_sub-before
overflow_sub-before c = (first_block c.args.s c.requires.range _ c.block_at-before.ensures.is).0

pub visit_on-left-requires : goal.visit_on-left-requires
visit_on-left-requires c = let x = c.args in record { linked = linked x.s x.node.now c.requires _ (ap (λ n. n - 1) c.block_at-before.ensures.is); owed_le_m = omega arith }

pub returns-then-left-eq0 : goal.returns-then-left-eq0
returns-then-left-eq0 c =
    let x = c.args in
    visited_as x.s x.node.now c.requires _ (ap (λ n. n - 1) c.block_at-before.ensures.is) x.s.m x.b x.marks.now _ _ _ (told_bad _ c.if-left-eq0.true) c.visit_on-left.ensures

pub returns-else-left-eq0 : goal.returns-else-left-eq0
returns-else-left-eq0 c =
    let x = c.args in
    visited_as x.s x.node.now c.requires _ (ap (λ n. n - 1) c.block_at-before.ensures.is) x.s.m x.b x.marks.now _ _ _ (told_ended _ c.if-left-eq0.false) c.visit_on-left.ensures
