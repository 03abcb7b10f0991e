-- `places::is_right_free` meets its contract. Assumes nothing.
use native.Mathlib.Omega.{arith}
use Rattle.blocks.proofs.Steps.{head_fits}
use Rattle.places.proofs.Once.{free_told}
use Rattle.places.proofs.is_right_free.Goals as goal

pub bounds-stretch-0 : goal.bounds-stretch-0
bounds-stretch-0 c = let x = c.args in omega (arith, c.requires.long, head_fits x.s)

pub returns : goal.returns
returns c = let x = c.args in free_told x.s x.stretch.now x.marks.now _ _ c.visit.ensures c.is_some.ensures
