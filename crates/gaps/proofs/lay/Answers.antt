-- `gaps::lay` meets its contract: after i turns the first i slots are laid. Assumes nothing.
use mathlib.Core.Path.{refl}
use Rattle.gaps.proofs.Turns.{laid_more}
use Rattle.gaps.specs.Close.{laid}
use Rattle.gaps.proofs.lay.Goals as goal

pub loop-i-init : goal.loop-i-init
unfolding laid
loop-i-init c = refl

pub loop-i-preserved : goal.loop-i-preserved
loop-i-preserved c =
    let x = c.args in
    laid_more x.queue.kind x.node.now x.queue.at x.row.now c.loop-i.i c.loop-i.invariant c.slot.ensures.is
