-- `shapes::are_zero` meets its contract. Assumes nothing.
use mathlib.Core.Path.{◌≡◌}
use lib.Dec.{eqb}
use Rattle.shapes.specs.Shape.{zeroes}
use Rattle.shapes.proofs.are_zero.Given as goal

abbrev pub invariant-loop-i : goal.invariant-loop-i
invariant-loop-i l = eqb l.bits 0 ≡ zeroes l.node l.a l.i
