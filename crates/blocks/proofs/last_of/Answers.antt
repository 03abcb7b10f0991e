-- `blocks::last_of` meets its contract: the walk by numbers, begun in a stretch. Assumes nothing.
use native.Mathlib.Omega.{arith}
use Rattle.blocks.proofs.Steps.{first_word}
use Rattle.blocks.proofs.last_of.Goals as goal

pub overflow_sub-before : goal.overflow_sub-before
overflow_sub-before c = omega (arith, first_word c.args.s)
