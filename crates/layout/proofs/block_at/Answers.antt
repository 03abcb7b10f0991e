-- `layout::block_at` meets its contract. Assumes nothing.
use native.Mathlib.Omega.{arith}
use mathlib.Core.Path.{refl}
use Rattle.layout.specs.Places.{block_at, blocks_at}
use Rattle.layout.proofs.Fits.{block-fits}
use Rattle.layout.proofs.block_at.Goals as goal

pub returns : goal.returns
unfolding block_at blocks_at
returns c = record { is = refl; fits = block-fits c.args.s c.args.b (omega arith) (omega arith) }
