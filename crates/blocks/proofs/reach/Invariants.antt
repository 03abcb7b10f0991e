-- `blocks::reach` meets its contract: what is left to walk from here on leads to the same block. Assumes nothing.
use mathlib.Core.Path.{◌≡◌}
use Prim.Native.Nat.{ℕ, ◌+◌, ◌-◌}
use lib.ListN.{get_or}
use Rattle.blocks.specs.Chain.{list}
use Rattle.blocks.specs.Asked.{Reaches}
use Rattle.blocks.proofs.reach.Given as goal

abbrev pub invariant-loop : goal.invariant-loop
invariant-loop l = record {
  rest : ℕ;
  left : rest + l.counter ≡ l.n + 1;
  reaches : Reaches l.s l.node rest l.at;
  same : get_or (list l.s l.node rest l.at) (rest - 1) 0 ≡ get_or (list l.s l.node l.n l.b) (l.n - 1) 0;
}
