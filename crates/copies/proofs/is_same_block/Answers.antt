-- `copies::is_same_block` meets its contract. Assumes nothing.
use mathlib.Core.Path.{◌∙◌}
use Rattle.copies.proofs.Copied.{pointwise_alike}
use Rattle.copies.proofs.is_same_block.Goals as goal

pub returns : goal.returns
returns c = rw (← c.block_at-p.ensures.is, ← c.block_at-q.ensures.is) (c.eq.ensures ∙ pointwise_alike _ _)
