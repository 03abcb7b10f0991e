-- The first item of a send queue, and the task queue for a letter. Assumes nothing.
use mathlib.Core.Path.{◌≡◌, sym, ap, ◌∙◌}
use mathlib.Core.Bool.{true, false≢true}
use mathlib.Core.List.{List}
use Prim.Native.Nat.{ℕ, ◌<◌}
use native.Mathlib.Omega.{arith}
use lib.Dec.{eqb}
use lib.ListN.{get_or}
use Rattle.words.proofs.Lists.{and-true}
use Rattle.settings.specs.declared.Settings.{Settings}
use Rattle.layout.specs.Places.{send_at, task_at, node}
use Rattle.layout.specs.Numbers.{source_task_word, source_node_word, destination_task_word}
use Rattle.tasks.specs.Table.{node_of, queue_of, is_bound}
use Rattle.tasks.specs.declared.Seat.{Seat}
use Rattle.tasks.specs.Seat.{seat_of}
use Rattle.std.specs.Prelude.{Some, None}
use Rattle.tasks.proofs.Laws.{told_at, told-unbound, seat_below}
use Rattle.queues.specs.declared.Kind.{Kind}
use Rattle.queues.specs.Queue.{send_kind, item_at}
use Rattle.queues.proofs.Views.{contents_item}
use Rattle.sound.specs.Reading.{table_in}
use Rattle.sound.specs.Letters.{words_from, right_header}
use Rattle.stages_keep.specs.Steps.{first_of, queue_for}
use Rattle.lending.specs.Asked.{Addressed, HasQueue, HasFirst}

-- ---- the first item of a send queue
module _ (s : Settings) (m : List ℕ) (i j : ℕ) (g : HasFirst s m i j) where
  pub first-queue : {k : Kind} {q : ℕ} → k ≡ send_kind s → q ≡ send_at s j → HasQueue s m i k q
  first-queue ek eq = rw (ek, eq) (record { lent = g.lent; queue = g.queue })

  pub first_item : item_at (send_kind s) (node s m i) (send_at s j) 0 ≡ first_of s j m i
  first_item = contents_item (send_kind s) (node s m i) (send_at s j) g.queue 0 (omega (arith, g.queue.placed.some))

-- ---- the queue for a letter
module _ (s : Settings) (m : List ℕ) (j c : ℕ) (a : Addressed s m j c) where
  abbrev ws : List ℕ
  ws = words_from s (node s m j) c

  bound : is_bound (table_in m) (get_or ws destination_task_word 0) ≡ true
  unfolding right_header
  bound =
      let d = and-true (is_bound (table_in m) (get_or ws source_task_word 0)) _ a.header in
      let e = and-true (eqb (node_of (table_in m) (get_or ws source_task_word 0)) (get_or ws source_node_word 0)) _ d.1 in
      (and-true (is_bound (table_in m) (get_or ws destination_task_word 0)) _ e.1).0

  pub queue-small : queue_of (table_in m) (get_or ws destination_task_word 0) < 64
  queue-small = (seat_below (table_in m) (get_or ws destination_task_word 0) a.table bound).1

  pub never_unbound : seat_of (table_in m) (get_or ws destination_task_word 0) ≡ None → ⊥
  never_unbound e = let f = told-unbound (table_in m) (get_or ws destination_task_word 0) e in false≢true (sym f ∙ bound)

  module _ (x : Seat) (e : seat_of (table_in m) (get_or ws destination_task_word 0) ≡ Some x) where
    queue_is : x.queue ≡ queue_of (table_in m) (get_or ws destination_task_word 0)
    queue_is = (told_at (table_in m) (get_or ws destination_task_word 0) x.node x.queue e).1.1

    pub seat_small : x.queue < 64
    seat_small = omega (arith, queue_is, queue-small)

    pub seat_queue : task_at s x.queue ≡ queue_for s j m c
    seat_queue = ap (task_at s) queue_is
