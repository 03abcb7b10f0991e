-- Taking an item out leaves the other live items in their order, and a task queue that is well-formed. Assumes nothing.
use mathlib.Core.Path.{◌≡◌, refl, ap, ◌∙◌}
use mathlib.Core.List.{List, [], ◌∷◌, ◌++◌}
use Prim.Native.Nat.{ℕ, zero, suc, ◌+◌, ◌<◌}
use native.Mathlib.Omega.{arith}
use lib.Dec.{eqb}
use lib.ListN.{length, take, drop, set, length-set}
use borrow.Author.Tests.{ne_eqb}
use Rattle.words.proofs.Lists.{both, same?}
use Rattle.settings.specs.declared.Settings.{Settings}
use Rattle.layout.specs.Places.{gap_word}
use Rattle.queues.specs.declared.Kind.{Kind}
use Rattle.queues.specs.Queue.{Queue, items, slot_at, item_at, contents, task_kind}
use Rattle.queues.specs.Moves.{dropped}
use Rattle.queues.specs.Items.{gap_flag, live, after_zeroes, without}
use Rattle.queues.specs.Tasks.{TaskQueue}
use Rattle.queues.proofs.Ring.{Ring, ring_of, ring_queue, ring_contents, ring_first, ring_dropped, ring_set}
use Rattle.queues.proofs.Items.{first-without, live-without_at}
use Rattle.queues.proofs.Views.{length-contents, length-dropped}
use Rattle.queues.proofs.Tasks.{TaskRing, task_queue, task_flagged}
use Rattle.taking.specs.Take.{cleared, first_out, out, flagged, taken_out, Place}

-- the zeroes at the front go
ring_cleared : (k : Kind) (l : List ℕ) (q : ℕ) (xs : List ℕ) → Ring k l q xs → Ring k (cleared k q (length xs) l) q (after_zeroes xs)
unfolding cleared after_zeroes
ring_cleared k l q [] r = r
ring_cleared k l q (x ∷ xs) r =
    let e = ring_first k l q x xs r in
    rw e (same? x 0 (λ z t. rw t (ring_cleared k (dropped k l q) q xs (ring_dropped k l q x xs r))) (λ z t. rw t r))

-- THE ITEM AT PLACE i TAKEN OUT
pub ring_out : (k : Kind) (l : List ℕ) (q : ℕ) (xs : List ℕ) (i : ℕ) → Ring k l q xs → i < length xs → Ring k (out k l q i) q (without i xs)
unfolding out first_out without
ring_out k l q [] i r h = absurd (omega arith)
ring_out k l q (x ∷ xs) zero r h =
    let d = ring_dropped k l q x xs r in
    rw d.count (ring_cleared k (dropped k l q) q xs d)
ring_out k l q (x ∷ xs) (suc i) r h = rw (ne_eqb (suc i) 0 (λ e. omega arith)) (ring_set k l q (x ∷ xs) r (suc i) 0 h)

pub queue-out : (k : Kind) (l : List ℕ) (q i : ℕ) → Place k l q i → Queue k (out k l q i) q
queue-out k l q i w =
    ring_queue k (out k l q i) q (ring_out k l q (contents k l q) i (ring_of k l q w.queue) (rw (length-contents k l q w.queue) w.is))

module _ (s : Settings) (l : List ℕ) (q : ℕ) (xs : List ℕ) (i : ℕ) (t : TaskRing s l q xs) (h : i < length xs) where
  pub taken_task : TaskRing s (taken_out s l q i) q (without i xs)
  unfolding flagged
  taken_task =
      let r = ring_out (task_kind s) l q xs i t.ring h in
      rw (ring_contents (task_kind s) (out (task_kind s) l q i) q r) (task_flagged s (out (task_kind s) l q i) q (without i xs) r (first-without i xs t.first))

  pub taken_keeps : TaskQueue s (taken_out s l q i) q
  taken_keeps = task_queue s (taken_out s l q i) q taken_task

  -- the live items before it and behind it stay, in their order
  pub taken_live : live (contents (task_kind s) (taken_out s l q i) q) ≡ live (take i xs) ++ live (drop (suc i) xs)
  taken_live = ap live (ring_contents (task_kind s) (taken_out s l q i) q taken_task.ring) ∙ live-without_at xs i h

-- ---- lengths stay
length-cleared : (k : Kind) (q n : ℕ) (l : List ℕ) → length (cleared k q n l) ≡ length l
unfolding cleared
length-cleared k q zero l = refl
length-cleared k q (suc n) l =
    both (λ (m : List ℕ). length m ≡ length l) (eqb (item_at k l q 0) 0) (cleared k q n (dropped k l q)) l
    (length-cleared k q n (dropped k l q) ∙ length-dropped k l q) refl

pub length-out : (k : Kind) (l : List ℕ) (q i : ℕ) → length (out k l q i) ≡ length l
unfolding out first_out
length-out k l q i =
    both (λ (m : List ℕ). length m ≡ length l) (eqb i 0) (first_out k l q) (set l (slot_at k l q i) 0)
    (length-cleared k q (items k (dropped k l q) q) (dropped k l q) ∙ length-dropped k l q) (length-set l (slot_at k l q i) 0)

pub length_taken : (s : Settings) (l : List ℕ) (q i : ℕ) → length (taken_out s l q i) ≡ length l
unfolding flagged
length_taken s l q i =
    length-set (out (task_kind s) l q i) (q + gap_word) (gap_flag (contents (task_kind s) (out (task_kind s) l q i) q)) ∙ length-out (task_kind s) l q i
