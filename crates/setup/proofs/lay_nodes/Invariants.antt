-- `setup::lay_nodes` meets its contract: after i turns i stretches are laid. Assumes nothing.
use mathlib.Core.Path.{◌≡◌}
use lib.ListN.{take}
use Rattle.layout.specs.Places.{nodes_at}
use Rattle.setup.proofs.Laws.{laid_nodes}
use Rattle.setup.proofs.lay_nodes.Given as goal

abbrev pub invariant-loop-i : goal.invariant-loop-i
invariant-loop-i l = l.memory ≡ laid_nodes l.s (take nodes_at l.initial.memory) l.initial.memory l.i
