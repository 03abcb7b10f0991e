-- `taking::find` meets its contract: what is found from place i on is what is found at all. Assumes nothing.
use Rattle.taking.proofs.Turns.{first_here, first-later, first_none, wanted-gap, wanted_from}
use Rattle.taking.specs.Find.{wanted}
use native.Mathlib.Omega.{arith}
use mathlib.Core.Bool.{false}
use mathlib.Core.Path.{◌≡◌, sym, ◌∙◌}
use Rattle.taking.proofs.find.Goals.{else-b-ne0-via-then-b-ne0+else-is_from, else-b-ne0-via-else-b-ne0}
use Rattle.taking.proofs.find.Goals as goal

pub returns-then-is_from : goal.returns-then-is_from
returns-then-is_from c =
    let x = c.args in
    let e = wanted_from x.s x.node.now x.source c.item-b.result c.if-b-ne0.true ∙ sym c.is_from.ensures ∙ c.if-is_from.true in
    sym (first_here _ _ _ _ _ (omega arith) (wanted x.s x.node.now x.source) (rw c.item-b.ensures at e)) ∙ c.loop-i.invariant

pub loop-i-preserved : goal.loop-i-preserved
loop-i-preserved c =
    let x = c.args in
    let b = c.item-b.result in
    let e : wanted x.s x.node.now x.source b ≡ false = elim c.else-b-ne0.branch [
      | else-b-ne0-via-then-b-ne0+else-is_from w ↦ wanted_from x.s x.node.now x.source b w.if-b-ne0.true ∙ sym w.is_from.ensures ∙ w.if-is_from.false
      | else-b-ne0-via-else-b-ne0 w ↦ wanted-gap x.s x.node.now x.source b w.if-b-ne0.false
    ] in
    sym (first-later _ _ _ _ _ (omega arith) (wanted x.s x.node.now x.source) (rw c.item-b.ensures at e)) ∙ c.loop-i.invariant

pub returns : goal.returns
returns c =
    let x = c.args in
    sym (first_none _ _ _ _ _ (omega arith) (wanted x.s x.node.now x.source)) ∙ c.loop-i.invariant
