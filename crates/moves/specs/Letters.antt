-- A queue's letters without its gaps.
use Rattle.std.specs.Prelude.{List, [], ◌∷◌, cond, eqb}
use Rattle.machine.specs.Machine.{Letter, first}

-- the letters that are no gaps, in their order
unfoldable pub live_ones : List Letter → List Letter
live_ones [] = []
live_ones (L ∷ ls) = cond (eqb (first L) 0) (live_ones ls) (L ∷ live_ones ls)
