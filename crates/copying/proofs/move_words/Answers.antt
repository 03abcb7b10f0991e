-- `copying::move_words` meets its contract: after k turns the first k words stand. Assumes nothing.
use mathlib.Core.Path.{◌∙◌}
use native.Mathlib.Omega.{arith}
use lib.ListN.{length-set}
use Rattle.copying.proofs.Moving.{moved_more, moved_all}
use Rattle.copying.proofs.move_words.Goals as goal

pub loop-k-preserved : goal.loop-k-preserved
loop-k-preserved c =
    let l = c.loop-k in
    let a = c.args in
    (length-set l.memory _ _ ∙ l.invariant.0, moved_more a.memory.now a.from a.to a.n c.requires l.k l.memory (omega arith) l.invariant.1)

pub returns : goal.returns
returns c =
    let l = c.loop-k in
    let a = c.args in
    moved_all a.memory.now a.from a.to a.n c.requires l.k l.memory (omega arith) l.invariant.1
