-- Whether the free list has the blocks and the goal takes one more, by the tests on the way. Assumes nothing.
use Rattle.std.specs.Prelude.{Option, is_some}
use mathlib.Core.Path.{◌≡◌, refl, sym, ap, ◌∙◌}
use mathlib.Core.Bool.{Bool, true}
use mathlib.Core.List.{List}
use Prim.Native.Nat.{ℕ, ◌+◌, ◌-◌, ◌≤◌, ◌<◌}
use native.Mathlib.Omega.{arith}
use lib.Dec.{eqb, ltb}
use lib.ListN.{length, get_or}
use Rattle.words.proofs.Lists.{split, same?}
use Rattle.settings.specs.declared.Settings.{Settings}
use Rattle.layout.specs.Places.{gap_word, send_at, task_at}
use Rattle.blocks.specs.Chain.{list, block_of}
use Rattle.blocks.specs.Moves.{enough}
use Rattle.blocks.specs.Asked.{Takes}
use Rattle.blocks.proofs.Taking.{too_few, has-enough}
use Rattle.queues.specs.Queue.{send_kind, task_kind, items, contents, Queue}
use Rattle.queues.specs.Tasks.{TaskQueue}
use Rattle.queues.specs.Moves.{append_answer}
use Rattle.queues.proofs.Items.{gap-small}
use Rattle.queues.proofs.Tasks.{TaskRing, task_of_lem}
use Rattle.gaps.specs.Close.{task_answer}
use Rattle.gaps.proofs.Closed.{append-room, append-gap, append_full}
use Rattle.posting.specs.Post.{took_it, has_room}
use Rattle.posting.specs.Asked.{Queued}
use Rattle.posting.specs.declared.Goal.{Goal}
use Rattle.posting.specs.declared.Goal.TheVariants.{Task, Node}

-- the n-th block of the free list is there, or it is 0
pub blocks-there : (s : Settings) (node : List ℕ) (n : ℕ) → Takes s node n → {x : Option ℕ} {b : Bool} → x ≡ block_of (get_or (list s node n (get_or node 0 0)) (n - 1) 0)
    → b ≡ is_some x → b ≡ enough s node n
blocks-there s node n t {x} {b} e f =
    let last : ℕ = get_or (list s node n (get_or node 0 0)) (n - 1) 0 in
    f ∙ ap is_some e
    ∙ same? last 0 (λ q y. rw y (sym (too_few s node n t last refl q))) (λ q y. rw y (sym (has-enough s node n t last refl q)))

-- a task queue: below its length, or with a gap to close
module _ (s : Settings) (node : List ℕ) (q : ℕ) (w : TaskQueue s node q) where
  abbrev xs : List ℕ
  xs = contents (task_kind s) node q

  t : TaskRing s node q xs
  t = task_of_lem s node q w

  pub task_below : items (task_kind s) node q < s.t → true ≡ took_it (task_answer s node q)
  task_below h = rw (append-room s node q xs t 1 (λ e. omega arith) (omega (arith, t.ring.count))).1

  pub task_flag : s.t ≤ items (task_kind s) node q → eqb (get_or node (q + gap_word) 0) 1 ≡ took_it (task_answer s node q)
  task_flag h =
      let e : length xs ≡ s.t = omega (arith, t.ring.count, t.ring.fits) in
      same? (get_or node (q + gap_word) 0) 1
      (λ g y. rw (y, (append-gap s node q xs t 1 (λ z. omega arith) e (sym t.flag ∙ g)).1))
      (λ g y. rw (y, (append_full s node q xs t 1 e (omega (arith, gap-small xs, t.flag))).1))

-- a send queue: below its length
pub send_below : (s : Settings) (node : List ℕ) (q : ℕ) → ltb (items (send_kind s) node q) s.s ≡ took_it (append_answer (send_kind s) node q)
unfolding append_answer
send_below s node q = split (ltb (items (send_kind s) node q) s.s) (λ e. rw e) (λ e. rw e)

-- what is known of the goal, by which it is
module _ (s : Settings) (node : List ℕ) (goal : Goal) (w : Queued s node goal) (q : ℕ) where
  pub queued_task : goal ≡ Task q → (q < 64) × TaskQueue s node (task_at s q)
  unfolding Queued
  queued_task e = rw e at w

  pub queued-node : goal ≡ Node q → (q < 6) × Queue (send_kind s) node (send_at s q)
  unfolding Queued
  queued-node e = rw e at w

module _ (s : Settings) (node : List ℕ) (goal : Goal) (q : ℕ) (r : Bool) where
  pub room_task : goal ≡ Task q → r ≡ took_it (task_answer s node (task_at s q)) → r ≡ has_room s node goal
  unfolding has_room
  room_task e f = rw e f

  pub room-node : goal ≡ Node q → r ≡ took_it (append_answer (send_kind s) node (send_at s q)) → r ≡ has_room s node goal
  unfolding has_room
  room-node e f = rw e f
