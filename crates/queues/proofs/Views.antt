-- Every operation leaves a well-formed queue, and what it does to the list of items. Assumes nothing.
use mathlib.Core.Path.{◌≡◌, sym, ap, ◌∙◌}
use mathlib.Core.Logic.{⊎_elim}
use mathlib.Core.List.{List, [], ◌∷◌, ◌++◌}
use Prim.Native.Nat.{ℕ, suc, ◌+◌, ◌-◌, ◌%◌, ◌≤◌, ◌<◌}
use native.Mathlib.Omega.{arith}
use lib.Dec.{ltb}
use lib.ListN.{length, get_or, set, length-set}
use lib.Seq.{get_or-set_other}
use Rattle.words.proofs.Lists.{le_or_lt, both}
use Rattle.queues.specs.declared.Kind.{Kind}
use Rattle.queues.specs.Queue.{start, items, slot_at, item_at, run, contents, Queue}
use Rattle.queues.specs.Moves.{counted, added, appended, dropped}
use Rattle.queues.proofs.Ring.{Ring, Off, ring_of, ring_queue, ring_contents, length_run, ring_off, ring_set, ring_counted, ring_added, ring_room, ring_full, ring_dropped}

module _ (k : Kind) (l : List ℕ) (q : ℕ) (w : Queue k l q) where
  abbrev xs : List ℕ
  xs = contents k l q

  r : Ring k l q xs
  r = ring_of k l q w

  pub length-contents : length (contents k l q) ≡ items k l q
  length-contents = length_run k l q 0 (items k l q)

  pub contents_item : (i : ℕ) → i < k.slots → item_at k l q i ≡ get_or (contents k l q) i 0
  contents_item = r.slots

  -- A STORE OUTSIDE A QUEUE, or at a word of its head behind the first two, leaves its items
  pub queue_off : (a v : ℕ) → Off k q a → Queue k (set l a v) q
  queue_off a v o = ring_queue k (set l a v) q (ring_off k l q xs r a v o)

  pub contents_off : (a v : ℕ) → Off k q a → contents k (set l a v) q ≡ contents k l q
  contents_off a v o = ring_contents k (set l a v) q (ring_off k l q xs r a v o)

  -- a store at an item's place
  pub queue-set : (i v : ℕ) → i < items k l q → Queue k (set l (slot_at k l q i) v) q
  queue-set i v h = ring_queue k (set l (slot_at k l q i) v) q (ring_set k l q xs r i v (rw length-contents h))

  pub contents-set : (i v : ℕ) → i < items k l q → contents k (set l (slot_at k l q i) v) q ≡ set (contents k l q) i v
  contents-set i v h = ring_contents k (set l (slot_at k l q i) v) q (ring_set k l q xs r i v (rw length-contents h))

  -- AN APPEND puts its item behind the others
  ring_room-added : (x : ℕ) → items k l q < k.slots → Ring k (appended k l q x) q (contents k l q ++ x ∷ [])
  ring_room-added x h =
      let n : length xs < k.slots = rw length-contents h in
      rw (ring_room k l q xs r x n) (ring_added k l q xs r x n)

  -- and at its length leaves the items as they were
  ring_full_counted : (x : ℕ) → k.slots ≤ items k l q → Ring k (appended k l q x) q (contents k l q)
  ring_full_counted x h = rw (ring_full k l q xs r x (rw length-contents h)) (ring_counted k l q xs r)

  pub queue-appended : (x : ℕ) → Queue k (appended k l q x) q
  queue-appended x =
      ⊎_elim (λ h. ring_queue k (appended k l q x) q (ring_full_counted x h)) (λ h. ring_queue k (appended k l q x) q (ring_room-added x h)) (le_or_lt k.slots (items k l q))

  pub contents-appended : (x : ℕ) → items k l q < k.slots → contents k (appended k l q x) q ≡ contents k l q ++ x ∷ []
  contents-appended x h = ring_contents k (appended k l q x) q (ring_room-added x h)

  pub contents_full : (x : ℕ) → k.slots ≤ items k l q → contents k (appended k l q x) q ≡ contents k l q
  contents_full x h = ring_contents k (appended k l q x) q (ring_full_counted x h)

  -- A DROP takes the first item and leaves the others
  module _ (h : 0 < items k l q) where
    pub contents_cons : contents k l q ≡ item_at k l q 0 ∷ run k l q 1 (items k l q - 1)
    unfolding run
    contents_cons = let e : items k l q ≡ suc (items k l q - 1) = omega arith in ap (run k l q 0) e

    ring_tail : Ring k (dropped k l q) q (run k l q 1 (items k l q - 1))
    ring_tail = ring_dropped k l q (item_at k l q 0) (run k l q 1 (items k l q - 1)) (rw contents_cons at r)

    pub queue-dropped : Queue k (dropped k l q) q
    queue-dropped = ring_queue k (dropped k l q) q ring_tail

    pub items-dropped : items k (dropped k l q) q ≡ items k l q - 1
    items-dropped = ring_tail.count ∙ length_run k l q 1 (items k l q - 1)

    pub contents-dropped : contents k l q ≡ item_at k l q 0 ∷ contents k (dropped k l q) q
    contents-dropped = contents_cons ∙ ap (λ (t : List ℕ). item_at k l q 0 ∷ t) (sym (ring_contents k (dropped k l q) q ring_tail))

-- ---- lengths stay
pub length-appended : (k : Kind) (l : List ℕ) (q x : ℕ) → length (appended k l q x) ≡ length l
unfolding appended added counted
length-appended k l q x = both (λ (m : List ℕ). length m ≡ length l) (ltb (items k l q) k.slots) _ _ (simp length-set) (simp length-set)

pub length-dropped : (k : Kind) (l : List ℕ) (q : ℕ) → length (dropped k l q) ≡ length l
unfolding dropped
length-dropped k l q = simp length-set

-- ---- a word of the head behind the first two stays, but for the full count
module _ (k : Kind) (l : List ℕ) (q i : ℕ) (lo : 2 ≤ i) (hi : i < k.head) where
  pub word_slot : (j v : ℕ) → get_or (set l (slot_at k l q j) v) (q + i) 0 ≡ get_or l (q + i) 0
  word_slot j v = get_or-set_other l (slot_at k l q j) (q + i) v 0 (λ e. omega arith)

  pub word-added : (x : ℕ) → get_or (added k l q x) (q + i) 0 ≡ get_or l (q + i) 0
  unfolding added
  word-added x =
      get_or-set_other (set l (slot_at k l q (items k l q)) x) (q + 1) (q + i) (items k l q + 1) 0 (λ e. omega arith)
      ∙ word_slot (items k l q) x

  pub word-dropped : get_or (dropped k l q) (q + i) 0 ≡ get_or l (q + i) 0
  unfolding dropped
  word-dropped =
      let l₁ : List ℕ = set l (slot_at k l q 0) 0 in
      let t : ℕ = (start k l q + 1) % k.slots in
      get_or-set_other (set l₁ q t) (q + 1) (q + i) (items k l q - 1) 0 (λ e. omega arith)
      ∙ get_or-set_other l₁ q (q + i) t 0 (λ e. omega arith)
      ∙ word_slot 0 0
