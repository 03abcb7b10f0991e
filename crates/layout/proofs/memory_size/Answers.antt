-- `layout::memory_size` meets its contract. Assumes nothing.
use native.Mathlib.Omega.{arith}
use Rattle.layout.specs.Places.{memory_size}
use Rattle.layout.proofs.memory_size.Goals as goal

pub returns : goal.returns
unfolding memory_size
returns c = omega arith
