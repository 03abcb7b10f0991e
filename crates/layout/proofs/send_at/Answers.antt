-- `layout::send_at` meets its contract. Assumes nothing.
use native.Mathlib.Omega.{arith}
use mathlib.Core.Path.{refl}
use Rattle.layout.specs.Places.{send_at}
use Rattle.layout.proofs.Fits.{send-fits}
use Rattle.layout.proofs.send_at.Goals as goal

pub returns : goal.returns
unfolding send_at
returns c = record { is = refl; fits = send-fits c.args.s c.args.k (omega arith) }
