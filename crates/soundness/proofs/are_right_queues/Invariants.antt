-- `soundness::are_right_queues` meets its contract. Assumes nothing.
use mathlib.Core.Path.{◌≡◌}
use mathlib.Core.Bool.{true}
use Rattle.words.specs.Words.{every}
use Rattle.sound.specs.Queues.{right_queues}
use Rattle.soundness.proofs.are_right_queues.Given as goal

abbrev pub invariant-loop-i : goal.invariant-loop-i
invariant-loop-i l = every l.i (right_queues l.s l.memory) ≡ true
