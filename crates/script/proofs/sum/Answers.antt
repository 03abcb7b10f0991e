-- `script::sum` meets its contract: what is summed and what is left make the sum. Assumes nothing.
use Rattle.std.proofs.Common.{arith, rules}
use Rattle.script.specs.Words.{sum_of}
use Rattle.script.proofs.Laws.{summed_more, summed_all}
use Rattle.script.proofs.sum.Goals as goal

pub loop-word-preserved : goal.loop-word-preserved
loop-word-preserved c = let l = c.loop-word in let x = c.args.words.now in (search rules, summed_more l.h l.word-index _ x (sum_of x) (omega arith) (search rules) l.invariant.1)

pub returns : goal.returns
returns c = let l = c.loop-word in let x = c.args.words.now in summed_all l.h l.word-index x (sum_of x) (omega arith) l.invariant.1
