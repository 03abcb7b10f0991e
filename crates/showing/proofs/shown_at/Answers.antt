-- `showing::shown_at` meets its contract. Assumes nothing.
use native.Mathlib.Omega.{arith}
use Rattle.showing.proofs.Given.{begins-lies, told-least, shown_is}
use Rattle.showing.proofs.shown_at.Goals as goal

pub word_of-requires : goal.word_of-requires
word_of-requires c = begins-lies _ _ _ _ c.requires _ c.stretch-node.ensures.0 1 (omega arith)

pub told_length-requires : goal.told_length-requires
told_length-requires c = begins-lies _ _ _ _ c.requires _ c.stretch-node.ensures.0 5 (omega arith)

pub overflow_sub-result : goal.overflow_sub-result
overflow_sub-result c = told-least _ _ _ _ c.requires _ c.stretch-node.ensures.0 _ c.told_length.ensures

pub returns : goal.returns
returns c = shown_is _ _ _ _ c.requires _ c.stretch-node.ensures.0 _ _ _ _ c.word_of.ensures c.told_length.ensures
