-- The goal's queue is as it was where blocks are taken and a letter is written; what each function on the goal leaves. Assumes nothing.
use Rattle.std.specs.Prelude.{Err, None, Ok, Result, Some}
use mathlib.Core.Path.{◌≡◌, refl, sym, ap, ◌∙◌}
use mathlib.Core.Bool.{true, false}
use mathlib.Core.List.{List}
use Prim.Native.Nat.{ℕ, zero, suc, ◌+◌, ◌-◌, ◌*◌, ◌≤◌, ◌<◌}
use native.Mathlib.Nat.{zero-mul}
use native.Mathlib.Omega.{arith}
use lib.ListN.{length, get_or}
use borrow.Author.Tests.{leb-true}
use Rattle.words.specs.Rows.{start}
use Rattle.words.proofs.Rows.{but_none}
use Rattle.settings.specs.declared.Settings.{Settings}
use Rattle.layout.specs.Places.{first_free_at, send_at, task_at}
use Rattle.layout.specs.Rows.{width}
use Rattle.layout.specs.Asked.{Stretch}
use Rattle.layout.proofs.NodeRows.{start-send, start_task, row_fits}
use Rattle.blocks.specs.Chain.{needs, chain, free, Within}
use Rattle.blocks.specs.Moves.{enough, taken, taken_answer}
use Rattle.blocks.specs.Asked.{Takes}
use Rattle.blocks.proofs.Rows.{rows}
use Rattle.blocks.proofs.Moves.{taken-stretch, take-answer, take_chained, take_row}
use Rattle.letters.specs.Letter.{written}
use Rattle.letters.specs.Asked.{Lies}
use Rattle.letters.proofs.Rows.{needs-enough}
use Rattle.letters.proofs.Laws.{written-stretch, write_row}
use Rattle.queues.specs.Queue.{send_kind}
use Rattle.queues.specs.Moves.{counted, appended, append_answer}
use Rattle.queues.proofs.InRow.{room-send, room_task, but_answer, queue-kept, task_kept}
use Rattle.gaps.specs.Close.{task_appended, task_answer}
use Rattle.gaps.proofs.InRow.{but_task_answer}
use Rattle.posting.specs.Post.{Posted, took_it, has_room, appended_to, full_of, put_in, posted}
use Rattle.posting.specs.Asked.{Queued, Aims, Posts, Roomy}
use Rattle.posting.specs.declared.Goal.{Goal}
use Rattle.posting.specs.declared.Goal.TheVariants.{Task, Node}
use Rattle.posting.specs.declared.Sent.{Sent}
use Rattle.posting.specs.declared.SendRefusal.{SendRefusal}
use Rattle.posting.specs.declared.SendRefusal.TheVariants.{TooFewBlocks, QueueFull}

-- stretches whose queues' rows are the same have the same queues
module _ (s : Settings) (l m : List ℕ) (u : Stretch s l) (v : Stretch s m) (e : (r : ℕ) → 1 ≤ r → r < 77 → rows s m r ≡ rows s l r) where
  in_l : (r : ℕ) → r < 77 → start (width s) r + width s r ≤ length l
  in_l r h = rw u.long (row_fits s r (omega arith))

  in_m : (r : ℕ) → r < 77 → start (width s) r + width s r ≤ length m
  in_m r h = rw v.long (row_fits s r (omega arith))

  pub queued-kept : (goal : Goal) → Queued s l goal → Queued s m goal
  unfolding Queued
  queued-kept (Task q) w =
      let h = w.0 in (
        h,
        rw (← start_task s q (omega arith))
            (task_kept (width s) l m (13 + q) (e (13 + q) (omega arith) (omega arith)) (in_l (13 + q) (omega arith)) (in_m (13 + q) (omega arith)) s
            (room_task s u.range (13 + q) (omega arith) (omega arith))
            (rw (start_task s q (omega arith)) w.1)),
      )
  queued-kept (Node k) w =
      let h = w.0 in (
        h,
        rw (← start-send s k (omega arith))
            (queue-kept (width s) l m (1 + k) (e (1 + k) (omega arith) (omega arith)) (in_l (1 + k) (omega arith)) (in_m (1 + k) (omega arith)) (send_kind s)
            (room-send s u.range (1 + k) (omega arith) (omega arith))
            (rw (start-send s k (omega arith)) w.1)),
      )

  -- and the same room
  pub room-kept : (goal : Goal) → Queued s l goal → has_room s m goal ≡ has_room s l goal
  unfolding Queued has_room
  room-kept (Task q) w =
      let h = w.0 in
      let o = room_task s u.range (13 + q) (omega arith) (omega arith) in
      let g : task_answer s m (start (width s) (13 + q)) ≡ task_answer s l (start (width s) (13 + q)) =
      but_task_answer (width s) m (13 + q) s o (but_none (width s) m (13 + q))
      ∙ ap (λ (p : List ℕ). task_answer s p 0) (e (13 + q) (omega arith) (omega arith))
      ∙ sym (but_task_answer (width s) l (13 + q) s o (but_none (width s) l (13 + q))) in
      ap took_it (rw (start_task s q (omega arith)) at g)
  room-kept (Node k) w =
      let h = w.0 in
      let o = room-send s u.range (1 + k) (omega arith) (omega arith) in
      let g : append_answer (send_kind s) m (start (width s) (1 + k)) ≡ append_answer (send_kind s) l (start (width s) (1 + k)) =
      but_answer (width s) m (1 + k) (send_kind s) o (but_none (width s) m (1 + k))
      ∙ ap (λ (p : List ℕ). append_answer (send_kind s) p 0) (e (1 + k) (omega arith) (omega arith))
      ∙ sym (but_answer (width s) l (1 + k) (send_kind s) o (but_none (width s) l (1 + k))) in
      ap took_it (rw (start-send s k (omega arith)) at g)

-- a letter needs a block at least
pub needs_some : (s : Settings) (node : List ℕ) (goal : Goal) (n : ℕ) → Posts s node goal n → 1 ≤ needs s n
needs_some s node goal n p =
    let l = p.least in
    let e = needs-enough s p.aims.stretch.range n in
    some (needs s n) (s.b - 1) (omega arith)
  where
    some : (k j : ℕ) → 1 ≤ k * j → 1 ≤ k
    some zero j h = absurd (omega (arith, zero-mul j))
    some (suc k) j h = omega arith

pub posts-takes : (s : Settings) (node : List ℕ) (goal : Goal) (n : ℕ) → Posts s node goal n → Takes s node (needs s n)
posts-takes s node goal n p = record { stretch = p.aims.stretch; free = p.free; some = needs_some s node goal n p; most = p.fits }

-- ---- a letter that is put in
module _ (s : Settings) (node : List ℕ) (goal : Goal) (ws : List ℕ) (p : Roomy s node goal (length ws)) where
  abbrev n : ℕ
  n = needs s (length ws)

  st : Stretch s node
  st = p.posts.aims.stretch

  has : n ≤ length (free s node)
  unfolding enough
  has = leb-true (needs s (length ws)) (length (free s node)) p.has

  some_n : 1 ≤ n
  some_n = needs_some s node goal (length ws) p.posts

  abbrev first : ℕ
  first = get_or node first_free_at 0

  abbrev new : List ℕ
  new = taken s node (needs s (length ws))

  -- the blocks are there, the first of the free list before them
  put-answer : taken_answer s node (needs s (length ws)) ≡ Some (get_or node first_free_at 0)
  put-answer = take-answer s node st n has

  pub never_short : taken_answer s node (needs s (length ws)) ≡ None → ⊥
  never_short e = let z : ◌≡◌ {A = ℕ} 0 1 = cc (put-answer) in omega arith

  within_new : Within s.m (chain s new (needs s (length ws)) first)
  within_new = (take_chained s node st p.posts.free n some_n has).within

  after-take : Stretch s new
  after-take = taken-stretch s node st n

  after_write : Stretch s (written s new first ws)
  after_write = written-stretch s new after-take first ws within_new

  same_rows : (r : ℕ) → 1 ≤ r → r < 77 → rows s (written s new first ws) r ≡ rows s node r
  same_rows r h k = write_row s new after-take first ws within_new r k ∙ take_row s node st p.posts.free n some_n has r h k

  -- A LETTER THAT IS PUT IN finds the room that was there before
  pub put-room : has_room s (written s (taken s node (needs s (length ws))) (get_or node first_free_at 0) ws) goal ≡ has_room s node goal
  put-room = room-kept s node (written s new first ws) st after_write same_rows goal p.posts.aims.queue

  -- the stretch a after the blocks are taken, and the first of them
  module _ (b : ℕ) (a : List ℕ) (e : taken_answer s node (needs s (length ws)) ≡ Some b) (f : a ≡ taken s node (needs s (length ws))) where
    is_first : b ≡ get_or node first_free_at 0
    is_first = cc (put-answer)

    pub put-lies : Lies s a (length ws) b
    put-lies = rw (f, is_first) (record { walks = record { stretch = after-take; within = within_new }; most = p.posts.most })

    -- THE GOAL is as it was
    pub put-aims : (w : List ℕ) → w ≡ written s a b ws → Aims s w goal
    put-aims w g =
        rw (g, f, is_first)
        (record { stretch = after_write; queue = queued-kept s node (written s new first ws) st after_write same_rows goal p.posts.aims.queue })

    pub put_is : (w c : List ℕ) → w ≡ written s a b ws → c ≡ appended_to s w goal b → c ≡ put_in s node goal ws
    unfolding put_in
    put_is w c g h = rw (h, g, f, is_first) refl

-- ---- what the functions on the goal leave
module _ (s : Settings) (node : List ℕ) (goal : Goal) (q at : ℕ) (m : List ℕ) where
  pub full_task : goal ≡ Task q → at ≡ task_at s q → m ≡ counted node (at + 3) → m ≡ counted node (full_of s goal)
  unfolding full_of
  full_task e f g = rw (e, ← f) g

  pub full_node : goal ≡ Node q → at ≡ send_at s q → m ≡ counted node (at + 2) → m ≡ counted node (full_of s goal)
  unfolding full_of
  full_node e f g = rw (e, ← f) g

  pub appended_task : (b : ℕ) → goal ≡ Task q → at ≡ task_at s q → m ≡ task_appended s node at b → m ≡ appended_to s node goal b
  unfolding appended_to
  appended_task b e f g = rw (e, ← f) g

  pub appended-node : (b : ℕ) → goal ≡ Node q → at ≡ send_at s q → m ≡ appended (send_kind s) node at b → m ≡ appended_to s node goal b
  unfolding appended_to
  appended-node b e f g = rw (e, ← f) g

-- ---- the outcome, by the tests on the way
abbrev pub left : Result Sent SendRefusal → List ℕ → Posted
left a m = record { answer = a; stretch = m }

module _ (s : Settings) (node : List ℕ) (goal : Goal) (ws : List ℕ) (n : ℕ) (q : n ≡ needs s (length ws)) (m : List ℕ) where
  pub post-few : false ≡ enough s node n → m ≡ counted node 1 → left (Err TooFewBlocks) m ≡ posted s node goal ws
  unfolding posted
  post-few e g = rw (← q, ← e, g)

  pub post_full : true ≡ enough s node n → false ≡ has_room s node goal → m ≡ counted node (full_of s goal) → left (Err QueueFull) m ≡ posted s node goal ws
  unfolding posted
  post_full e f g = rw (← q, ← e, ← f, g)

  pub post-done : true ≡ enough s node n → true ≡ has_room s node goal → m ≡ put_in s node goal ws → left (Ok (record { blocks = n })) m ≡ posted s node goal ws
  unfolding posted
  post-done e f g = rw (← q, ← e, ← f, g)
