-- `layout::ack_at` meets its contract. Assumes nothing.
use native.Mathlib.Omega.{arith}
use mathlib.Core.Path.{refl}
use Rattle.layout.specs.Places.{ack_at}
use Rattle.layout.proofs.Fits.{ack_fits}
use Rattle.layout.proofs.ack_at.Goals as goal

pub returns : goal.returns
unfolding ack_at
returns c = record { is = refl; fits = ack_fits c.args.s c.args.k (omega arith) }
