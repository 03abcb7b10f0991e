-- Words joined bit by bit: what a join of 0 tells of its words. Assumes nothing.
use mathlib.Core.Path.{◌≡◌}
use mathlib.Core.Bool.{◌&&◌}
use Prim.Native.Nat.{ℕ}
use native.Mathlib.Omega.{arith}
use lib.Dec.{eqb}
use lib.Bits.{bit_or, or_zero_l, or_add_and, and_le_r}
use borrow.Author.Tests.{ne_eqb}
use Rattle.words.proofs.Lists.{same?}

-- two words joined are 0 when both are
pub or_zero : (a b : ℕ) → eqb (bit_or a b) 0 ≡ eqb a 0 && eqb b 0
or_zero a b =
    same? a 0
    (λ z e. rw (e, z, or_zero_l b))
    (λ z e. rw e (ne_eqb (bit_or a b) 0 (λ y. let s = or_add_and a b in let t = and_le_r a b in z (omega arith))))
