-- What a sound memory gives of its queues: each is a queue, and what its items are. Assumes nothing.
use mathlib.Core.Path.{◌≡◌, refl, ap, ◌∙◌}
use mathlib.Core.Bool.{true, ◌&&◌, ◌||◌, not, false≢true}
use mathlib.Core.List.{List, [], ◌∷◌}
use Prim.Native.Nat.{ℕ, zero, suc, ◌+◌, ◌≤◌, ◌<◌}
use native.Mathlib.Omega.{arith}
use lib.Dec.{eqb, leb}
use lib.ListN.{length}
use Rattle.words.specs.Words.{every, all}
use Rattle.words.proofs.Lists.{and-true, every_at, all_head}
use Rattle.settings.specs.declared.Settings.{Settings}
use Rattle.layout.specs.Places.{nodes, task_queues, send_at, ack_at, task_at, queue_head, task_head, node_size, node}
use Rattle.layout.specs.Asked.{Stretch, Sized}
use Rattle.layout.proofs.Fits.{send-fits, ack_fits, task_fits}
use Rattle.queues.specs.declared.Kind.{Kind}
use Rattle.queues.specs.Queue.{send_kind, ack_kind, task_kind, Placed, Queue}
use Rattle.queues.specs.Items.{live}
use Rattle.queues.proofs.Items.{live_cons}
use Rattle.letters.proofs.Copies.{node-stretch}
use Rattle.sound.specs.Reading.{send_items, ack_items}
use Rattle.sound.proofs.Shapes.{shape_queue}
use Rattle.sound.specs.Queues.{in_shape, right_send, right_ack, right_task, right_queues}

-- ---- the queues of a stretch lie in it
module _ (s : Settings) (l : List ℕ) (st : Stretch s l) (k : Kind) (at : ℕ) where
  pub placed-send : k ≡ send_kind s → at + (queue_head + s.s) ≤ node_size s → Placed k l at
  placed-send e f =
      let z = st.long in
      let r = st.range.s in
      rw e (record { lies = omega arith; some = r.low; small = r.high; low = omega arith; high = omega arith })

  pub placed_ack : k ≡ ack_kind s → at + (queue_head + s.a) ≤ node_size s → Placed k l at
  placed_ack e f =
      let z = st.long in
      let r = st.range.a in
      rw e (record { lies = omega arith; some = r.low; small = r.high; low = omega arith; high = omega arith })

  pub placed_task : k ≡ task_kind s → at + (task_head + s.t) ≤ node_size s → Placed k l at
  placed_task e f =
      let z = st.long in
      let r = st.range.t in
      rw e (record { lies = omega arith; some = r.low; small = r.high; low = omega arith; high = omega arith })

-- items that are blocks are live
pub live-blocks : (m : ℕ) (l : List ℕ) → all (λ b. leb 1 b && leb b m) l ≡ true → live l ≡ l
unfolding live
live-blocks m [] e = refl
live-blocks m (zero ∷ l) e = let h = all_head (λ b. leb 1 b && leb b m) 0 l e in absurd (false≢true h.0)
live-blocks m (suc x ∷ l) e = live_cons (suc x) l (λ z. omega arith) ∙ ap (λ (t : List ℕ). suc x ∷ t) (live-blocks m l (all_head (λ b. leb 1 b && leb b m) (suc x) l e).1)

module _ (s : Settings) (memory : List ℕ) (sized : Sized s memory) (i : ℕ) (small : i < nodes) (right : right_queues s memory i ≡ true) where
  parts : (every nodes (right_send s memory i) ≡ true) × (every nodes (right_ack s memory i) ≡ true) × (every task_queues (right_task s memory i) ≡ true)
  unfolding right_queues
  parts =
      let a = and-true (every nodes (right_send s memory i)) (every nodes (right_ack s memory i) && every task_queues (right_task s memory i)) right in
      let b = and-true (every nodes (right_ack s memory i)) (every task_queues (right_task s memory i)) a.1 in
      (a.0, b.0, b.1)

  st : Stretch s (node s memory i)
  st = node-stretch s memory sized i small

  module _ (k : ℕ) (h : k < nodes) where
    pub send-queue : Queue (send_kind s) (node s memory i) (send_at s k)
    unfolding right_send
    send-queue =
        shape_queue (send_kind s) (node s memory i) (send_at s k)
        (placed-send s (node s memory i) st (send_kind s) (send_at s k) refl (send-fits s k h))
        (and-true (in_shape (send_kind s) (node s memory i) (send_at s k)) _ (every_at (right_send s memory i) nodes parts.0 k h)).0

    pub ack_queue : Queue (ack_kind s) (node s memory i) (ack_at s k)
    unfolding right_ack
    ack_queue =
        shape_queue (ack_kind s) (node s memory i) (ack_at s k)
        (placed_ack s (node s memory i) st (ack_kind s) (ack_at s k) refl (ack_fits s k h))
        (and-true (in_shape (ack_kind s) (node s memory i) (ack_at s k)) _ (every_at (right_ack s memory i) nodes parts.1 k h)).0

    pub send-live : live (send_items s memory i k) ≡ send_items s memory i k
    unfolding right_send
    send-live =
        let a = and-true (in_shape (send_kind s) (node s memory i) (send_at s k)) _ (every_at (right_send s memory i) nodes parts.0 k h) in
        live-blocks s.m (send_items s memory i k) (and-true (not (eqb k i) || eqb (length (send_items s memory i k)) 0) _ a.1).1

    pub ack_live : live (ack_items s memory i k) ≡ ack_items s memory i k
    unfolding right_ack
    ack_live =
        let a = and-true (in_shape (ack_kind s) (node s memory i) (ack_at s k)) _ (every_at (right_ack s memory i) nodes parts.1 k h) in
        live-blocks s.m (ack_items s memory i k) (and-true (not (eqb k i) || eqb (length (ack_items s memory i k)) 0) _ a.1).1

  pub task_queue : (q : ℕ) → q < task_queues → Queue (task_kind s) (node s memory i) (task_at s q)
  unfolding right_task
  task_queue q h =
      shape_queue (task_kind s) (node s memory i) (task_at s q)
      (placed_task s (node s memory i) st (task_kind s) (task_at s q) refl (task_fits s q h))
      (and-true (in_shape (task_kind s) (node s memory i) (task_at s q)) _ (every_at (right_task s memory i) task_queues parts.2 q h)).0
