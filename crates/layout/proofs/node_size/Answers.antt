-- `layout::node_size` meets its contract. Assumes nothing.
use mathlib.Core.Path.{refl}
use Rattle.layout.specs.Places.{node_size}
use Rattle.layout.proofs.Fits.{node-small}
use Rattle.layout.proofs.node_size.Goals as goal

pub returns : goal.returns
unfolding node_size
returns c = record { is = refl; most = node-small c.args.s c.requires }
