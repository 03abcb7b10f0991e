-- `setup::lay_node` meets its contract: before the turn of block b, the b - 1 blocks before it are linked. Assumes nothing.
use mathlib.Core.Path.{◌≡◌}
use Prim.Native.Nat.{◌-◌}
use Rattle.setup.proofs.Laws.{linked}
use Rattle.setup.proofs.lay_node.Given as goal

abbrev pub invariant-loop-b : goal.invariant-loop-b
invariant-loop-b l = l.node ≡ linked l.s (l.b - 1)
