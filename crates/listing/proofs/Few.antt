-- The letters of a list are few: a queue has no more than 255 items. Assumes nothing.
use mathlib.Core.Path.{◌≡◌, refl, ap}
use mathlib.Core.List.{List, [], ◌∷◌}
use Prim.Native.Nat.{ℕ, zero, suc, ◌+◌, ◌*◌, ◌/◌, ◌%◌, ◌≤◌, ◌<◌}
use native.Mathlib.Nat.{mod-lt, div-lt_iff_lt-mul}
use native.Mathlib.Omega.{arith}
use lib.ListN.{length, drop, length-append, length-drop}
use Rattle.words.proofs.Lists.{split, both}
use Rattle.settings.specs.declared.Settings.{Settings}
use Rattle.layout.specs.Places.{nodes, task_ids, task_queues, send_at, task_at, node}
use Rattle.tasks.specs.Table.{node_of, queue_of, is_bound}
use Rattle.tasks.proofs.Laws.{seat_below}
use Rattle.queues.specs.declared.Kind.{Kind}
use Rattle.queues.specs.Queue.{send_kind, task_kind, run}
use Rattle.queues.specs.Items.{live}
use Rattle.queues.proofs.Items.{length-live}
use Rattle.queues.proofs.Ring.{length_run}
use Rattle.queues.proofs.Views.{length-contents}
use Rattle.sound.specs.Reading.{table_in, send_items, task_items}
use Rattle.showing.specs.List.{handed_over, from_task, waiting}
use Rattle.listing.specs.Asked.{Asked, placed, Low, kept_of, kept_below, sent_from, sent_below, every_letter}
use Rattle.listing.proofs.Placing.{rows, so_low}
use Rattle.listing.proofs.Given.{asked-table, asked-send, asked_task}

module _ (s : Settings) (memory : List ℕ) where
  length_task : (task i : ℕ) (xs : List ℕ) → length (from_task s memory task i xs) ≡ length xs
  unfolding from_task
  length_task task i [] = refl
  length_task task i (b ∷ xs) = ap suc (length_task task i xs)

  length-kept : (task i : ℕ) (xs : List ℕ) → length (from_task s memory task i (live xs)) ≤ length xs
  length-kept task i xs = omega (arith, length_task task i (live xs), length-live xs)

  length-sent : (j : ℕ) (xs : List ℕ) → length (sent_from s memory j xs) ≡ length xs
  unfolding sent_from
  length-sent j [] = refl
  length-sent j (b ∷ xs) = ap suc (length-sent j xs)

  -- ---- inside a queue each rank can rise by one letter more
  module _ (k : Kind) (w : List ℕ) (q n : ℕ) (ranks₀ out₀ ranks out : List ℕ) (h : n < 255) (l : Low ranks₀ 255) where
    pub so_kept : (task i : ℕ) → rows ranks out ≡ placed (from_task s memory task i (live (run k w q 0 n))) (rows ranks₀ out₀) → Low ranks 1
    so_kept task i e =
        so_low (from_task s memory task i (live (run k w q 0 n))) ranks₀ out₀ ranks out e 255 1 l (omega (arith, length-kept task i (run k w q 0 n), length_run k w q 0 n))

    pub so_sent : (j f : ℕ) → rows ranks out ≡ placed (sent_from s memory j (run k w q f n)) (rows ranks₀ out₀) → Low ranks 1
    so_sent j f e = so_low (sent_from s memory j (run k w q f n)) ranks₀ out₀ ranks out e 255 1 l (omega (arith, length-sent j (run k w q f n), length_run k w q f n))

  -- ---- the letters of the tasks' queues, and those that wait
  module _ (a : Asked s memory) where
    few-kept : (i q : ℕ) → i < nodes → q < task_queues → length (task_items s memory i q) ≤ 255
    few-kept i q h g =
        let u = asked_task s memory a i h q g in
        omega (arith, length-contents (task_kind s) (node s memory i) (task_at s q) u, u.count, u.placed.small)

    few-waiting : (i j : ℕ) → i < nodes → j < nodes → length (waiting s memory i j) ≤ 255
    unfolding waiting
    few-waiting i j h g =
        let u = asked-send s memory a j g i h in
        let n = length-contents (send_kind s) (node s memory j) (send_at s i) u in
        both (λ (l : List ℕ). length l ≤ 255) (handed_over memory i j) (drop 1 (send_items s memory j i)) (send_items s memory j i)
        (rw length-drop (omega (arith, u.count, u.placed.small)))
        (omega (arith, u.count, u.placed.small))

    few_of : (task : ℕ) → length (kept_of s memory task) ≤ 255
    unfolding kept_of
    few_of task =
        split (is_bound (table_in memory) task)
        (λ e.
        let b = seat_below (table_in memory) task (asked-table s memory a) e in
        let i : ℕ = node_of (table_in memory) task in
        let q : ℕ = queue_of (table_in memory) task in
        rw e (omega (arith, length-kept task i (task_items s memory i q), few-kept i q b.0 b.1)))
        (λ e. rw e (omega arith))

    pub few_below : (n : ℕ) → length (kept_below s memory n) ≤ n * 255
    unfolding kept_below
    few_below zero = omega arith
    few_below (suc n) = rw length-append (omega (arith, few_below n, few_of n))

    pub few-sent : (c : ℕ) → c ≤ 36 → length (sent_below s memory c) ≤ c * 255
    unfolding sent_below
    few-sent zero h = omega arith
    few-sent (suc c) h =
        let i : c / 6 < 6 = (div-lt_iff_lt-mul {k = 6} {x = c} {y = 6} (omega arith)).1 (omega arith) in
        let j : c % 6 < 6 = mod-lt c {m = 6} (omega arith) in
        rw length-append
        (omega (arith, few-sent c (omega arith), length-sent (c % 6) (waiting s memory (c / 6) (c % 6)), few-waiting (c / 6) (c % 6) i j))

    pub few-letters : length (every_letter s memory) ≤ (task_ids + nodes * nodes) * 255
    unfolding every_letter
    few-letters = rw length-append (omega (arith, few_below 256, few-sent 36 (omega arith)))
