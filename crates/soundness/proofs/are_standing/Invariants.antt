-- `soundness::are_standing` meets its contract. Assumes nothing.
use Rattle.places.specs.Given.{stands_right}
use Rattle.words.specs.Words.{every}
use mathlib.Core.Bool.{true}
use mathlib.Core.Path.{◌≡◌}
use Rattle.soundness.proofs.are_standing.Given as goal

abbrev pub invariant-loop-j : goal.invariant-loop-j
invariant-loop-j l = every l.j (stands_right l.s l.memory) ≡ true
