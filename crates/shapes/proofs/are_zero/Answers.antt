-- `shapes::are_zero` meets its contract. Assumes nothing.
use mathlib.Core.Path.{◌≡◌}
use native.Mathlib.Omega.{arith}
use Rattle.shapes.proofs.Clear.{zero_none, zero_more}
use Rattle.shapes.proofs.are_zero.Goals as goal

pub loop-i-init : goal.loop-i-init
loop-i-init c = zero_none _ _

pub loop-i-preserved : goal.loop-i-preserved
loop-i-preserved c = let t = c.loop-i in zero_more _ _ t.i t.bits (omega arith) t.invariant

pub returns : goal.returns
returns c = let x = c.args in let t = c.loop-i in let q : t.i ≡ x.e = omega arith in rw q at t.invariant
