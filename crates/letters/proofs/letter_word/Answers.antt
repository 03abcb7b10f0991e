-- `letters::letter_word` meets its contract: by the number of the word. Assumes nothing.
use mathlib.Core.Path.{◌≡◌}
use native.Mathlib.Omega.{arith}
use Rattle.letters.specs.Made.{letter_of}
use Rattle.letters.proofs.UnderWay.{made_body}
use Rattle.letters.proofs.letter_word.Goals as goal

pub returns-in-0 : goal.returns-in-0
unfolding letter_of
returns-in-0 c = let e : c.args.k ≡ 0 = omega arith in rw e

pub returns-in-1 : goal.returns-in-1
unfolding letter_of
returns-in-1 c = let e : c.args.k ≡ 1 = omega arith in rw e

pub returns-in-2 : goal.returns-in-2
unfolding letter_of
returns-in-2 c = let e : c.args.k ≡ 2 = omega arith in rw e

pub returns-in-3 : goal.returns-in-3
unfolding letter_of
returns-in-3 c = let e : c.args.k ≡ 3 = omega arith in rw e

pub returns-in-4 : goal.returns-in-4
unfolding letter_of
returns-in-4 c = let e : c.args.k ≡ 4 = omega arith in rw e

pub returns-in_default : goal.returns-in_default
returns-in_default c = made_body _ _ _ (omega arith)
