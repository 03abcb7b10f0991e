-- `words::one_more` meets its contract. Assumes nothing.
use Rattle.std.proofs.Common.{arith}
use Rattle.std.proofs.lemmas.Bool.Decides.{nat_tests}
use Rattle.words.specs.Words.{more}
use Rattle.words.proofs.one_more.Goals as goal

pub returns : goal.returns
unfolding more
returns c = grind (arith, nat_tests)
