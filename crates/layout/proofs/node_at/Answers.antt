-- `layout::node_at` meets its contract. Assumes nothing.
use native.Mathlib.Omega.{arith}
use mathlib.Core.Path.{refl}
use Rattle.layout.specs.Places.{node_at}
use Rattle.layout.proofs.MemoryRows.{stretch-fits}
use Rattle.layout.proofs.node_at.Goals as goal

pub returns : goal.returns
unfolding node_at
returns c = let e = c.node_size.ensures.is in rw e (record { is = refl; fits = stretch-fits c.args.s c.args.i (omega arith) })
