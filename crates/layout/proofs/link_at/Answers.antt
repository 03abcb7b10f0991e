-- `layout::link_at` meets its contract. Assumes nothing.
use native.Mathlib.Omega.{arith}
use Rattle.layout.proofs.Fits.{node-small}
use Rattle.layout.proofs.link_at.Goals as goal

pub overflow_add-result : goal.overflow_add-result
overflow_add-result c = omega (arith, node-small c.args.s c.requires.in_range)
