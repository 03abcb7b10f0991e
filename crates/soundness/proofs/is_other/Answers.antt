-- `soundness::is_other` meets its contract. Assumes nothing.
use native.Mathlib.Omega.{arith}
use Rattle.soundness.proofs.Places.{other-high, other_own, other-queue, other_is}
use Rattle.soundness.proofs.is_other.Goals.{then-other-gt5-via-then-other-gt5, then-other-gt5-via-else-other-gt5+then-other-j}
use Rattle.soundness.proofs.is_other.Goals as goal

pub returns-then-other-gt5 : goal.returns-then-other-gt5
returns-then-other-gt5 c =
    let x = c.args in
    elim c.then-other-gt5.branch [
      | then-other-gt5-via-then-other-gt5 w ↦ other-high x.s x.memory.now x.j x.other w.if-other-gt5.true
      | then-other-gt5-via-else-other-gt5+then-other-j w ↦ other_own x.s x.memory.now x.j x.other w.if-other-j.true
    ]

pub items-requires : goal.items-requires
items-requires c = let x = c.args in other-queue x.s x.memory.now x.j x.other c.requires.queued c.requires.j_bound (omega arith) _ _ _ c.send.ensures.kind c.send.ensures.at.is c.stretch-theirs.ensures.0

pub returns : goal.returns
returns c = let x = c.args in other_is x.s x.memory.now x.j x.other c.requires.queued c.requires.j_bound (omega arith) _ _ _ c.send.ensures.kind c.send.ensures.at.is c.stretch-theirs.ensures.0 c.if-other-j.false _ c.items.ensures
