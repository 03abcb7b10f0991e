-- `copies::are_right_copies` meets its contract. Assumes nothing.
use Rattle.copies.specs.Copy.{copy_right}
use Rattle.words.specs.Words.{every}
use mathlib.Core.Bool.{true}
use mathlib.Core.Path.{◌≡◌}
use Rattle.copies.proofs.are_right_copies.Given as goal

abbrev pub invariant-loop-j : goal.invariant-loop-j
invariant-loop-j l = every l.j (copy_right l.s l.memory) ≡ true
