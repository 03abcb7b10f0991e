-- `listing::lay` meets its contract: six words laid where there is room for them. Assumes nothing.
use mathlib.Core.Path.{◌∙◌}
use Prim.Native.Nat.{◌*◌}
use Rattle.layout.specs.Numbers.{list_words}
use Rattle.listing.proofs.Laying.{six, letter-room}
use Rattle.listing.proofs.lay.Goals as goal

pub returns-then-at-out : goal.returns-then-at-out
returns-then-at-out c = let x = c.args in six x.x x.out.now (x.n * list_words) _ c.copy.ensures c.if-at-out.true ∙ letter-room x.x x.n x.out.now c.if-at-out.true
