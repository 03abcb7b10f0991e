-- A queue in shape is a queue, and a queue is in shape. Assumes nothing.
use mathlib.Core.Path.{◌≡◌}
use mathlib.Core.Bool.{Bool, true, ◌&&◌, ◌||◌}
use mathlib.Core.List.{List}
use Prim.Native.Nat.{ℕ, ◌≤◌}
use native.Mathlib.Omega.{arith}
use lib.Dec.{eqb, ltb, leb}
use borrow.Author.Tests.{ltb-true, ltb-false, lt-ltb, leb-true, le-leb, eqb-true, eq-eqb}
use Rattle.words.specs.Words.{every}
use Rattle.words.proofs.Lists.{split, and-true, and-join, every_at, every_all}
use Rattle.queues.specs.declared.Kind.{Kind}
use Rattle.queues.specs.Queue.{start, items, item_at, Placed, Queue}
use Rattle.sound.specs.Queues.{in_shape}

module _ (k : Kind) (l : List ℕ) (q : ℕ) where
  -- the test of one slot
  abbrev slot_fine : ℕ → Bool
  slot_fine i = ltb i (items k l q) || eqb (item_at k l q i) 0

  pub shape_queue : Placed k l q → in_shape k l q ≡ true → Queue k l q
  unfolding in_shape
  shape_queue p e =
      let a = and-true (ltb (start k l q) k.slots) (leb (items k l q) k.slots && every k.slots slot_fine) e in
      let b = and-true (leb (items k l q) k.slots) (every k.slots slot_fine) a.1 in
      record {
        placed = p;
        begins = ltb-true (start k l q) k.slots a.0;
        count = leb-true (items k l q) k.slots b.0;
        rest = λ i h g. rest i h (every_at slot_fine k.slots b.1 i g);
      }
    where
      rest : (i : ℕ) → items k l q ≤ i → slot_fine i ≡ true → item_at k l q i ≡ 0
      rest i h t = split (ltb i (items k l q)) (λ u. let v = ltb-true i (items k l q) u in absurd (omega arith)) (λ u. eqb-true (item_at k l q i) 0 (rw u at t))

  pub queue_shape : Queue k l q → in_shape k l q ≡ true
  unfolding in_shape
  queue_shape w =
      and-join (ltb (start k l q) k.slots) (leb (items k l q) k.slots && every k.slots slot_fine) (lt-ltb (start k l q) k.slots w.begins)
      (and-join (leb (items k l q) k.slots) (every k.slots slot_fine) (le-leb (items k l q) k.slots w.count)
      (every_all slot_fine k.slots (λ i h. split (ltb i (items k l q)) (λ u. rw u) (λ u. rw u (eq-eqb (item_at k l q i) 0 (w.rest i (ltb-false i (items k l q) u) h))))))
