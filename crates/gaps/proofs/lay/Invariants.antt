-- `gaps::lay` meets its contract: after i turns the first i slots are laid. Assumes nothing.
use Rattle.gaps.specs.Close.{laid}
use mathlib.Core.Path.{◌≡◌}
use Rattle.gaps.proofs.lay.Given as goal

abbrev pub invariant-loop-i : goal.invariant-loop-i
invariant-loop-i l = l.node ≡ laid l.queue.kind l.initial.node l.queue.at l.row l.i
