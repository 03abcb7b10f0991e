-- `taking::gap_flag` meets its contract: the flag from place i on is the flag. Assumes nothing.
use Rattle.taking.proofs.Turns.{flag-gap, flag-live, flag_none}
use native.Mathlib.Omega.{arith}
use mathlib.Core.Path.{sym, ◌∙◌}
use Rattle.taking.proofs.gap_flag.Goals as goal

pub returns-then-item-eq0 : goal.returns-then-item-eq0
returns-then-item-eq0 c = sym (flag-gap _ _ _ _ _ (omega arith) (sym c.item.ensures ∙ c.if-item-eq0.true)) ∙ c.loop-i.invariant

pub loop-i-preserved : goal.loop-i-preserved
loop-i-preserved c = sym (flag-live _ _ _ _ _ (omega arith) (λ e. c.if-item-eq0.false (c.item.ensures ∙ e))) ∙ c.loop-i.invariant

pub returns : goal.returns
returns c = sym (flag_none _ _ _ _ _ (omega arith)) ∙ c.loop-i.invariant
