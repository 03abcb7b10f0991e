-- `words::copy` meets its contract: after i turns the first i words are those of `from`. Assumes nothing.
use mathlib.Core.Path.{◌∙◌}
use native.Mathlib.Omega.{arith}
use lib.ListN.{length-set}
use Rattle.words.proofs.Parts.{laid_more, laid_all}
use Rattle.words.proofs.copy.Goals as goal

pub loop-i-preserved : goal.loop-i-preserved
loop-i-preserved c =
    let l = c.loop-i in
    let a = c.args in
    (length-set l.to _ _ ∙ l.invariant.0, rw l.invariant.1 (laid_more l.i a.from.now a.to.now (omega arith) (omega arith)))

pub returns : goal.returns
returns c =
    let l = c.loop-i in
    let a = c.args in
    l.invariant.1 ∙ laid_all l.i a.from.now a.to.now (omega arith) (omega arith)
