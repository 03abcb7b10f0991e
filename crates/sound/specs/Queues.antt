-- The third rule of a sound memory: its queues.
use Rattle.std.specs.Prelude.{Bool, ◌&&◌, ◌||◌, not, cond, List, ℕ, zero, suc, ◌+◌, eqb, ltb, leb, length, get_or}
use Rattle.words.specs.Words.{every, all}
use Rattle.settings.specs.declared.Settings.{Settings}
use Rattle.layout.specs.Places.{nodes, task_queues, send_at, ack_at, task_at, gap_word, task_ids, node}
use Rattle.tasks.specs.Table.{node_of, queue_of, is_bound}
use Rattle.queues.specs.declared.Kind.{Kind}
use Rattle.queues.specs.Queue.{send_kind, ack_kind, task_kind, start, items, item_at}
use Rattle.queues.specs.Items.{gap_flag}
use Rattle.sound.specs.Reading.{table_in, send_items, ack_items, task_items}

-- 'starts below the queue's length, items at most it; slots outside the items are 0'
unfoldable pub in_shape : Kind → List ℕ → ℕ → Bool
in_shape k stretch q =
    ltb (start k stretch q) k.slots
    && (leb (items k stretch q) k.slots
    && every k.slots (λ i. ltb i (items k stretch q) || eqb (item_at k stretch q i) 0))

-- the task that sits at node i and queue q, of the ids below n; 0 for none
unfoldable pub sitter : List ℕ → ℕ → ℕ → ℕ → ℕ
sitter table i q zero = 0
sitter table i q (suc n) = cond (is_bound table n && (eqb (node_of table n) i && eqb (queue_of table n) q)) n (sitter table i q n)

-- 'that task' (the sixth rule): the task that queue q of node i is bound to
abbrev pub task_of : List ℕ → ℕ → ℕ → ℕ
task_of table i q = sitter table i q task_ids

module _ (s : Settings) (memory : List ℕ) (i : ℕ) where
  -- 'send and acknowledge items are 1 to M'
  abbrev pub is_block : ℕ → Bool
  is_block b = leb 1 b && leb b s.m

  -- 'a node's queues to itself .. have no items'
  abbrev pub none_to_itself : ℕ → List ℕ → Bool
  none_to_itself k xs = not (eqb k i) || eqb (length xs) 0

  unfoldable pub right_send : ℕ → Bool
  right_send k =
      in_shape (send_kind s) (node s memory i) (send_at s k)
      && (none_to_itself k (send_items s memory i k) && all is_block (send_items s memory i k))

  unfoldable pub right_ack : ℕ → Bool
  right_ack k =
      in_shape (ack_kind s) (node s memory i) (ack_at s k)
      && (none_to_itself k (ack_items s memory i k) && all is_block (ack_items s memory i k))

  -- 'task queues bound to no task have no items'
  abbrev pub none_unbound : ℕ → List ℕ → Bool
  none_unbound q xs = not (eqb (task_of (table_in memory) i q) 0) || eqb (length xs) 0

  -- 'a task queue's first item is not 0'
  abbrev pub first_live : List ℕ → Bool
  first_live xs = eqb (length xs) 0 || not (eqb (get_or xs 0 0) 0)

  -- 'task items 0 to M'; 'the gap flag is 1 exactly when an item is 0, otherwise 0'
  unfoldable pub right_task : ℕ → Bool
  right_task q =
      in_shape (task_kind s) (node s memory i) (task_at s q)
      && (none_unbound q (task_items s memory i q)
      && (all (λ b. leb b s.m) (task_items s memory i q)
      && (first_live (task_items s memory i q)
      && eqb (get_or (node s memory i) (task_at s q + gap_word) 0) (gap_flag (task_items s memory i q)))))

  -- the third rule, in node i
  unfoldable pub right_queues : Bool
  right_queues = every nodes right_send && (every nodes right_ack && every task_queues right_task)
