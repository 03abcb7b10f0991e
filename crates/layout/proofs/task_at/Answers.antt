-- `layout::task_at` meets its contract. Assumes nothing.
use native.Mathlib.Omega.{arith}
use mathlib.Core.Path.{refl}
use Rattle.layout.specs.Places.{task_at}
use Rattle.layout.proofs.Fits.{task_fits}
use Rattle.layout.proofs.task_at.Goals as goal

pub returns : goal.returns
unfolding task_at
returns c = record { is = refl; fits = task_fits c.args.s c.args.q (omega arith) }
