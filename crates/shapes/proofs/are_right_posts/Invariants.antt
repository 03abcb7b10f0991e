-- `shapes::are_right_posts` meets its contract. Assumes nothing.
use mathlib.Core.Path.{◌≡◌}
use mathlib.Core.Bool.{true}
use Prim.Native.Nat.{◌+◌, ◌*◌}
use lib.Dec.{eqb}
use Rattle.words.specs.Words.{every}
use Rattle.shapes.specs.Shape.{right_post}
use Rattle.shapes.proofs.are_right_posts.Given as goal

abbrev pub invariant-loop-k : goal.invariant-loop-k
invariant-loop-k l = every l.k (λ k. right_post l.first.kind l.node (l.first.at + k * (l.first.kind.head + l.first.kind.slots)) l.m (eqb k l.i)) ≡ true
