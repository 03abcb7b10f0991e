-- The letters that the list shows, in its order: 'List'.
use Rattle.std.specs.Prelude.{Bool, cond, ◌&&◌, List, [], ◌∷◌, ◌++◌, ℕ, zero, suc, ◌-◌, eqb, get_or, drop}
use Rattle.settings.specs.declared.Settings.{Settings}
use Rattle.layout.specs.Places.{nodes, task_ids, node}
use Rattle.layout.specs.Numbers.{header_words, source_task_word, destination_task_word}
use Rattle.tasks.specs.Table.{node_of, queue_of, is_bound}
use Rattle.queues.specs.Items.{live}
use Rattle.sound.specs.Reading.{stage_of, other_of, table_in, send_items, task_items}
use Rattle.sound.specs.Letters.{told_length, words_from}
use Rattle.showing.specs.declared.Shown.{Shown}

-- 'The first item of a send queue is left out when its postman is at stage 3 and names the node that queue is on': the queue that node j has for node i
unfoldable pub handed_over : List ℕ → ℕ → ℕ → Bool
handed_over memory i j = eqb (stage_of memory i) 3 && eqb (other_of memory i) j

module _ (s : Settings) (memory : List ℕ) where
  -- word k of the letter that block b begins in node i
  abbrev pub word_in : ℕ → ℕ → ℕ → ℕ
  word_in i b k = get_or (words_from s (node s memory i) b) k 0

  -- the letter that block b begins in node i, at a place, for a task
  unfoldable pub shown : ℕ → ℕ → ℕ → ℕ → Shown
  shown task place i b =
      record {
        destination = task;
        source = word_in i b source_task_word;
        place = place;
        holder = i;
        block = b;
        body = told_length s (node s memory i) b - header_words;
      }

  -- the letters of a task queue, first to last
  unfoldable pub from_task : ℕ → ℕ → List ℕ → List Shown
  from_task task i [] = []
  from_task task i (b ∷ bs) = shown task 1 i b ∷ from_task task i bs

  -- of the letters that wait in node j, those for the task
  unfoldable pub from_send : ℕ → ℕ → List ℕ → List Shown
  from_send task j [] = []
  from_send task j (b ∷ bs) = cond (eqb (word_in j b destination_task_word) task) (shown task 2 j b ∷ from_send task j bs) (from_send task j bs)

  -- what still waits in node j's send queue for node i
  unfoldable pub waiting : ℕ → ℕ → List ℕ
  waiting i j = cond (handed_over memory i j) (drop 1 (send_items s memory j i)) (send_items s memory j i)

  -- 'from nodes 0 to 5, that task's letters in the send queue to its node, first to last': of the first n nodes
  unfoldable pub from_nodes : ℕ → ℕ → ℕ → List Shown
  from_nodes task i zero = []
  from_nodes task i (suc n) = from_nodes task i n ++ from_send task n (waiting i n)

  -- a task's letters: 'its task queue's letters, first to last, then ..'; a task that is bound to no queue has none
  unfoldable pub of_task : ℕ → List Shown
  of_task task =
      cond (is_bound (table_in memory) task)
      (from_task task (node_of (table_in memory) task) (live (task_items s memory (node_of (table_in memory) task) (queue_of (table_in memory) task)))
      ++ from_nodes task (node_of (table_in memory) task) nodes)
      []

  -- the letters of the tasks below n
  unfoldable pub of_tasks : ℕ → List Shown
  of_tasks zero = []
  of_tasks (suc n) = of_tasks n ++ of_task n

  -- 'For destination tasks 1 to 255'; task 0 is bound to none
  abbrev pub listed : List Shown
  listed = of_tasks task_ids

-- 'Six words each', one behind the other
unfoldable pub laid_out : List Shown → List ℕ
laid_out [] = []
laid_out (x ∷ xs) = x.destination ∷ x.source ∷ x.place ∷ x.holder ∷ x.block ∷ x.body ∷ laid_out xs
