-- Letters placed step by step: of one item more, of one task more, of one send queue more. Assumes nothing.
use mathlib.Core.Path.{◌≡◌, refl, sym, ap, ◌∙◌}
use mathlib.Core.Bool.{true}
use mathlib.Core.List.{List, [], ◌∷◌, ◌++◌}
use Prim.Native.Nat.{ℕ, ◌+◌, ◌-◌, ◌*◌, ◌/◌, ◌%◌, ◌≤◌}
use native.Mathlib.Nat.{zero-add}
use native.Mathlib.Numerals.{add-one}
use native.Mathlib.Omega.{arith}
use Rattle.settings.specs.declared.Settings.{Settings}
use Rattle.layout.specs.Places.{nodes, task_ids}
use Rattle.layout.specs.Numbers.{destination_task_word}
use Rattle.tasks.specs.Table.{node_of, queue_of, is_bound}
use Rattle.queues.specs.declared.Kind.{Kind}
use Rattle.queues.specs.Queue.{item_at, run}
use Rattle.queues.specs.Items.{live}
use Rattle.queues.proofs.Items.{live_snoc, live-gap}
use Rattle.queues.proofs.Ring.{run_more}
use Rattle.sound.specs.Reading.{table_in, task_items}
use Rattle.showing.specs.declared.Shown.{Shown}
use Rattle.showing.specs.List.{word_in, shown, from_task, waiting}
use Rattle.listing.specs.Asked.{Rows, placed, kept_of, kept_below, sent_from, sent_below, every_letter}
use Rattle.listing.proofs.Placing.{placed-join}

-- the n items from place f on, and that behind them
run_one : (k : Kind) (w : List ℕ) (q f n c b : ℕ) → f + n ≡ c → b ≡ item_at k w q c → run k w q f (n + 1) ≡ run k w q f n ++ b ∷ []
run_one k w q f n c b h e = run_more k w q f n ∙ ap (λ (z : ℕ). run k w q f n ++ z ∷ []) (ap (item_at k w q) h ∙ sym e)

module _ (s : Settings) (memory : List ℕ) where
  -- ---- none yet
  pub sent_start : (r : Rows) (j : ℕ) (k : Kind) (w : List ℕ) (q f : ℕ) → r ≡ placed (sent_from s memory j (run k w q f (f - f))) r
  unfolding sent_from placed run
  sent_start r j k w q f = let e : f - f ≡ 0 = omega arith in rw e

  task_append : (task i : ℕ) (xs ys : List ℕ) → from_task s memory task i (xs ++ ys) ≡ from_task s memory task i xs ++ from_task s memory task i ys
  unfolding from_task
  task_append task i [] ys = refl
  task_append task i (b ∷ xs) ys = ap (λ (l : List Shown). shown s memory task 1 i b ∷ l) (task_append task i xs ys)

  sent-append : (j : ℕ) (xs ys : List ℕ) → sent_from s memory j (xs ++ ys) ≡ sent_from s memory j xs ++ sent_from s memory j ys
  unfolding sent_from
  sent-append j [] ys = refl
  sent-append j (b ∷ xs) ys = ap (λ (l : List Shown). shown s memory (word_in s memory j b destination_task_word) 2 j b ∷ l) (sent-append j xs ys)

  module _ (start mid end : Rows) where
    -- ---- one item more of a queue, which stands at place c
    module _ (k : Kind) (w : List ℕ) (q c b : ℕ) (eb : b ≡ item_at k w q c) where
      module _ (task i : ℕ) (so : mid ≡ placed (from_task s memory task i (live (run k w q 0 c))) start) where
        pub kept-gap : b ≡ 0 → mid ≡ placed (from_task s memory task i (live (run k w q 0 (c + 1)))) start
        kept-gap h = rw (run_one k w q 0 c c b (zero-add c) eb, live-gap (run k w q 0 c) b h) so

        pub kept_more : (b ≡ 0 → ⊥) → (x : Shown) → x ≡ shown s memory task 1 i b → end ≡ placed (x ∷ []) mid
            → end ≡ placed (from_task s memory task i (live (run k w q 0 (c + 1)))) start
        unfolding from_task
        kept_more h x ex e =
            rw (run_one k w q 0 c c b (zero-add c) eb, live_snoc (run k w q 0 c) b h, task_append task i (live (run k w q 0 c)) (b ∷ []))
            (placed-join (from_task s memory task i (live (run k w q 0 c))) (shown s memory task 1 i b ∷ []) start mid end so (rw ex at e))

      -- of a send queue, with a letter for task d
      pub sent_more : (j f d : ℕ) → f ≤ c → mid ≡ placed (sent_from s memory j (run k w q f (c - f))) start → d ≡ word_in s memory j b destination_task_word
          → (x : Shown) → x ≡ shown s memory d 2 j b → end ≡ placed (x ∷ []) mid → end ≡ placed (sent_from s memory j (run k w q f (c + 1 - f))) start
      unfolding sent_from
      sent_more j f d h so ed x ex e =
          let n : c + 1 - f ≡ c - f + 1 = omega arith in
          rw (n, run_one k w q f (c - f) c b (omega arith) eb, sent-append j (run k w q f (c - f)) (b ∷ []))
          (placed-join (sent_from s memory j (run k w q f (c - f))) (shown s memory (word_in s memory j b destination_task_word) 2 j b ∷ []) start mid end so (rw (ex, ed) at e))

    -- ---- one task more, one queue more
    pub tasks_more : (n : ℕ) → mid ≡ placed (kept_below s memory n) start → end ≡ placed (kept_of s memory n) mid → end ≡ placed (kept_below s memory (n + 1)) start
    unfolding kept_below
    tasks_more n a b = rw (add-one n) (placed-join (kept_below s memory n) (kept_of s memory n) start mid end a b)

    pub queues_more : (c : ℕ) → mid ≡ placed (sent_below s memory c) start → end ≡ placed (sent_from s memory (c % nodes) (waiting s memory (c / nodes) (c % nodes))) mid
        → end ≡ placed (sent_below s memory (c + 1)) start
    unfolding sent_below
    queues_more c a b = rw (add-one c) (placed-join (sent_below s memory c) (sent_from s memory (c % nodes) (waiting s memory (c / nodes) (c % nodes))) start mid end a b)

    -- ---- all tasks, then all queues
    pub letters_all : mid ≡ placed (kept_below s memory task_ids) start → end ≡ placed (sent_below s memory (nodes * nodes)) mid → end ≡ placed (every_letter s memory) start
    unfolding every_letter
    letters_all a b = placed-join (kept_below s memory task_ids) (sent_below s memory 36) start mid end a b

  -- ---- a task's queue, where it has one
  module _ (task : ℕ) (start : Rows) where
    pub task_all : (i q : ℕ) (end : Rows) → is_bound (table_in memory) task ≡ true → i ≡ node_of (table_in memory) task → q ≡ queue_of (table_in memory) task
        → end ≡ placed (from_task s memory task i (live (task_items s memory i q))) start → end ≡ placed (kept_of s memory task) start
    unfolding kept_of
    task_all i q end e ei eq l = rw (e, ← ei, ← eq) l
