-- `soundness::are_right_nodes` meets its contract. Assumes nothing.
use Rattle.soundness.specs.Parts.{node_right}
use Rattle.words.specs.Words.{every}
use mathlib.Core.Bool.{true}
use mathlib.Core.Path.{◌≡◌}
use Rattle.soundness.proofs.are_right_nodes.Given as goal

abbrev pub invariant-loop-i : goal.invariant-loop-i
invariant-loop-i l = every l.i (node_right l.s l.memory) ≡ true
