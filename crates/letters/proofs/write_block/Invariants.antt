-- `letters::write_block` meets its contract: after i turns the first i words stand. Assumes nothing.
use mathlib.Core.Path.{◌≡◌}
use lib.ListN.{take, drop}
use lib.Seq.{sets}
use Rattle.letters.specs.Made.{letter_of}
use Rattle.letters.proofs.write_block.Given as goal

abbrev pub invariant-loop-i : goal.invariant-loop-i
invariant-loop-i l = l.node ≡ sets l.initial.node l.a (take l.i (drop l.k (letter_of l.h l.body)))
