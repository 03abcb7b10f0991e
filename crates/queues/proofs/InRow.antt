-- A queue that is a row: each operation at the row's first word changes that row alone, into what the operation at word 0 makes of it.
-- From `but_none` on, a law's `.rows` says: row wide (op l q) ≡ put (row wide l) r (op (row wide l r) 0). Assumes nothing.
use mathlib.Core.Path.{◌≡◌, refl, sym, ap, ◌∙◌}
use mathlib.Core.Bool.{Bool, true, false, cond}
use mathlib.Core.List.{List}
use Prim.Native.Nat.{ℕ, zero, suc, ◌+◌, ◌-◌, ◌%◌, ◌≤◌, ◌<◌}
use native.Mathlib.Nat.{mod-lt, add-zero}
use native.Mathlib.Omega.{arith}
use lib.Dec.{ltb}
use lib.ListN.{length, get_or, set}
use Rattle.words.specs.Words.{more}
use Rattle.words.specs.Rows as rows
use Rattle.words.proofs.Rows.{But, but_none, but_get, but_set, length-row}
use Rattle.settings.specs.declared.Settings.{Settings}
use Rattle.settings.specs.Range.{InRange}
use Rattle.layout.specs.Places.{gap_word}
use Rattle.layout.specs.Rows.{width}
use Rattle.layout.proofs.NodeRows.{width-send, width_ack, width_task}
use Rattle.queues.specs.declared.Kind.{Kind}
use Rattle.queues.specs.Queue.{start, items, slot_from, slot_at, item_at, run, contents, send_kind, ack_kind, task_kind, Queue}
use Rattle.queues.specs.Tasks.{TaskQueue}
use Rattle.queues.specs.Moves.{counted, added, appended, append_answer, dropped}
use Rattle.queues.proofs.Ring.{Ring, ring_of, ring_queue}
use Rattle.queues.proofs.Tasks.{TaskRing, task_of_lem, task_queue}

-- a row of n words has room for a queue of the kind
pub record Room (k : Kind) (n : ℕ) : Type 0 where
  pub room : k.head + k.slots ≤ n
  pub some : 2 ≤ k.slots
  pub small : k.slots ≤ 255
  pub low : 2 ≤ k.full
  pub high : k.full < k.head

module _ (s : Settings) (w : InRange s) (r : ℕ) where
  pub room-send : 1 ≤ r → r < 7 → Room (send_kind s) (width s r)
  room-send h l = rw (width-send s r h l) (record { room = omega arith; some = w.s.low; small = w.s.high; low = omega arith; high = omega arith })

  pub room_ack : 7 ≤ r → r < 13 → Room (ack_kind s) (width s r)
  room_ack h l = rw (width_ack s r h l) (record { room = omega arith; some = w.a.low; small = w.a.high; low = omega arith; high = omega arith })

  pub room_task : 13 ≤ r → r < 77 → Room (task_kind s) (width s r)
  room_task h l = rw (width_task s r h l) (record { room = omega arith; some = w.t.low; small = w.t.high; low = omega arith; high = omega arith })

module _ (wide : ℕ → ℕ) (l : List ℕ) (r : ℕ) where
  -- the row's first word
  abbrev q : ℕ
  q = rows.start wide r

  pub but_both : (b : Bool) {m m' p p' : List ℕ} → But wide l r m p → But wide l r m' p' → But wide l r (cond b m m') (cond b p p')
  but_both true x y = x
  but_both false x y = y

  module _ (k : Kind) (w : Room k (wide r)) where
    module _ {m p : List ℕ} (b : But wide l r m p) where
      pub but_word : (i : ℕ) → i < k.head → get_or m (q + i) 0 ≡ get_or p (0 + i) 0
      but_word i h = but_get wide l r b i (omega (arith, w.room))

      pub but_start : start k m q ≡ start k p 0
      but_start = ap (λ (n : ℕ). get_or m n 0) (sym (add-zero q)) ∙ but_word 0 (omega (arith, w.high))

      pub but_items : items k m q ≡ items k p 0
      but_items = but_word 1 (omega (arith, w.high, w.low))

      pub but_item : (i : ℕ) → item_at k m q i ≡ item_at k p 0 i
      but_item i =
          rw but_start
          (but_get wide l r b (k.head + (start k p 0 + i) % k.slots) (omega (arith, w.room, mod-lt (start k p 0 + i) {m = k.slots} (omega (arith, w.some)))))

      pub but_run : (i n : ℕ) → run k m q i n ≡ run k p 0 i n
      unfolding run
      but_run i zero = refl
      but_run i (suc n) = rw (but_item i, but_run (i + 1) n)

      pub but_contents : contents k m q ≡ contents k p 0
      but_contents = rw but_items (but_run 0 (items k p 0))

      pub but_store : (i v : ℕ) → i < k.head → But wide l r (set m (q + i) v) (set p (0 + i) v)
      but_store i v h = but_set wide l r b i (omega (arith, w.room)) v

      -- the start word
      pub but_begin : (v : ℕ) → But wide l r (set m q v) (set p 0 v)
      but_begin v = rw (add-zero q) at (but_store 0 v (omega (arith, w.high)))

      -- the slot at place i of a queue that starts with slot f
      pub but_place : (f i v : ℕ) → But wide l r (set m (slot_from k q f i) v) (set p (slot_from k 0 f i) v)
      but_place f i v = but_set wide l r b (k.head + (f + i) % k.slots) (omega (arith, w.room, mod-lt (f + i) {m = k.slots} (omega (arith, w.some)))) v

      pub but_slot : (i v : ℕ) → But wide l r (set m (slot_at k m q i) v) (set p (slot_at k p 0 i) v)
      but_slot i v = rw but_start (but_place (start k p 0) i v)

      pub but_counted : (i : ℕ) → i < k.head → But wide l r (counted m (q + i)) (counted p (0 + i))
      unfolding counted
      but_counted i h = rw (but_word i h) (but_store i (more (get_or p (0 + i) 0)) h)

    module _ {m p : List ℕ} (b : But wide l r m p) where
      pub but_added : (x : ℕ) → But wide l r (added k m q x) (added k p 0 x)
      unfolding added
      but_added x =
          rw (but_items b)
          (but_store (but_slot b (items k p 0) x) 1 (items k p 0 + 1) (omega (arith, w.high, w.low)))

      pub but_appended : (x : ℕ) → But wide l r (appended k m q x) (appended k p 0 x)
      unfolding appended
      but_appended x = rw (but_items b) (but_both (ltb (items k p 0) k.slots) (but_added x) (but_counted b k.full w.high))

      pub but_answer : append_answer k m q ≡ append_answer k p 0
      unfolding append_answer
      but_answer = rw (but_items b)

      pub but_dropped : But wide l r (dropped k m q) (dropped k p 0)
      unfolding dropped
      but_dropped =
          rw (but_items b)
          (rw (but_start b)
          (but_store (but_begin (but_place b (start k p 0) 0 0) ((start k p 0 + 1) % k.slots)) 1 (items k p 0 - 1) (omega (arith, w.high, w.low))))

      -- A QUEUE OF THE WORDS IS A QUEUE OF THE ROW, and the other way round
      pub ring_up : (xs : List ℕ) → q + wide r ≤ length m → Ring k p 0 xs → Ring k m q xs
      ring_up xs z g =
          record {
            placed = record { lies = omega (arith, w.room); some = w.some; small = w.small; low = w.low; high = w.high };
            begins = rw (but_start b) g.begins;
            count = but_items b ∙ g.count;
            fits = g.fits;
            slots = λ i h. but_item b i ∙ g.slots i h;
          }

      pub ring_down : (xs : List ℕ) → length p ≡ wide r → Ring k m q xs → Ring k p 0 xs
      ring_down xs z g =
          record {
            placed = record { lies = omega (arith, w.room); some = w.some; small = w.small; low = w.low; high = w.high };
            begins = rw (← but_start b) g.begins;
            count = sym (but_items b) ∙ g.count;
            fits = g.fits;
            slots = λ i h. sym (but_item b i) ∙ g.slots i h;
          }

-- the same of a task queue
module _ (wide : ℕ → ℕ) (l : List ℕ) (r : ℕ) (s : Settings) (w : Room (task_kind s) (wide r)) {m p : List ℕ} (b : But wide l r m p) (xs : List ℕ) where
  pub task_up : rows.start wide r + wide r ≤ length m → TaskRing s p 0 xs → TaskRing s m (rows.start wide r) xs
  task_up z t =
      record {
        ring = ring_up wide l r (task_kind s) w b xs z t.ring;
        first = t.first;
        flag = but_word wide l r (task_kind s) w b gap_word (omega arith) ∙ t.flag;
      }

  pub task_down : length p ≡ wide r → TaskRing s m (rows.start wide r) xs → TaskRing s p 0 xs
  task_down z t =
      record {
        ring = ring_down wide l r (task_kind s) w b xs z t.ring;
        first = t.first;
        flag = sym (but_word wide l r (task_kind s) w b gap_word (omega arith)) ∙ t.flag;
      }

-- WORDS WHOSE ROW IS THE SAME have the same queue in it
module _ (wide : ℕ → ℕ) (l m : List ℕ) (r : ℕ) (e : rows.row wide m r ≡ rows.row wide l r)
    (z : rows.start wide r + wide r ≤ length l) (y : rows.start wide r + wide r ≤ length m) where
  pub queue-kept : (k : Kind) → Room k (wide r) → Queue k l (rows.start wide r) → Queue k m (rows.start wide r)
  queue-kept k w g =
      let xs : List ℕ = contents k l (rows.start wide r) in
      ring_queue k m (rows.start wide r)
      (ring_up wide m r k w (but_none wide m r) xs y
      (rw e (ring_down wide l r k w (but_none wide l r) xs (length-row wide l r z) (ring_of k l (rows.start wide r) g))))

  pub task_kept : (s : Settings) → Room (task_kind s) (wide r) → TaskQueue s l (rows.start wide r) → TaskQueue s m (rows.start wide r)
  task_kept s w g =
      let xs : List ℕ = contents (task_kind s) l (rows.start wide r) in
      task_queue s m (rows.start wide r)
      (task_up wide m r s w (but_none wide m r) xs y
      (rw e (task_down wide l r s w (but_none wide l r) xs (length-row wide l r z) (task_of_lem s l (rows.start wide r) g))))
