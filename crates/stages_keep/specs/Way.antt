-- The letters on the way from one task to another, in the machine, and what a postman does to them: 'Turn', 'List', demand 3.
use Rattle.std.specs.Prelude.{◌≡◌, Bool, true, cond, ◌&&◌, List, [], ◌∷◌, ◌++◌, map, ℕ, ◌+◌, ◌<◌, eqb, get_or, drop}
use Rattle.layout.specs.Numbers.{source_task_word, destination_task_word}
use Rattle.tasks.specs.Table.{node_of, queue_of, is_bound}
use Rattle.machine.specs.Machine.{Letter, words_of, Machine}
use Rattle.moves.specs.Letters.{live_ones}

-- of the letters, given by their words, those that pass the test, in their order
unfoldable pub those : (List ℕ → Bool) → List (List ℕ) → List (List ℕ)
those p [] = []
those p (w ∷ ws) = cond (p w) (w ∷ those p ws) (those p ws)

-- the header names task a as source and task b as destination
unfoldable pub between : ℕ → ℕ → List ℕ → Bool
between a b w = eqb (get_or w source_task_word 0) a && eqb (get_or w destination_task_word 0) b

-- it comes from a task on node i; it is for the task that sits at queue q of its node
unfoldable pub is_from : List ℕ → ℕ → List ℕ → Bool
is_from table i w = eqb (node_of table (get_or w source_task_word 0)) i

unfoldable pub is_for : List ℕ → ℕ → List ℕ → Bool
is_for table q w = eqb (queue_of table (get_or w destination_task_word 0)) q

-- header and body of the letters in task queue q of node k, gaps left out
unfoldable pub in_queue : Machine → ℕ → ℕ → List (List ℕ)
in_queue m k q = map words_of (live_ones ((m.node k).letters (13 + q)))

-- 'The first item of a send queue is left out when its postman is at stage 3 and names the node that queue is on: it has been handed over'
abbrev pub handed_over : Machine → ℕ → ℕ → Bool
handed_over m i k = eqb (m.stage k) 3 && eqb (m.other k) i

-- the letters in node i's send queue for node k that are still to be handed over
unfoldable pub to_carry : Machine → ℕ → ℕ → List Letter
to_carry m i k = cond (handed_over m i k) (drop 1 ((m.node i).letters (1 + k))) ((m.node i).letters (1 + k))

-- THE LETTERS ON THE WAY from task a to task b: those in the receiver's task queue, and then those that wait in the sender's node for the receiver's
unfoldable pub on_the_way : List ℕ → Machine → ℕ → ℕ → List (List ℕ)
on_the_way table m a b =
    those (between a b) (in_queue m (node_of table b) (queue_of table b) ++ map words_of (to_carry m (node_of table a) (node_of table b)))

-- for every sender and receiver the letters on the way are the same letters in the same order
abbrev pub SameWay : List ℕ → Machine → Machine → Type 0
SameWay table m m' = (a b : ℕ) → is_bound table a ≡ true → is_bound table b ≡ true → on_the_way table m' a b ≡ on_the_way table m a b

-- NODE j'S POSTMAN CARRIED these letters, in this order
pub record Carries (table : List ℕ) (j : ℕ) (m m' : Machine) (news : List (List ℕ)) : Type 0 where
  -- behind the letters of each task queue of j stand those of them that are for it
  pub arrived : (q : ℕ) → q < 64 → in_queue m' j q ≡ in_queue m j q ++ those (is_for table q) news
  -- they were the first that waited in their nodes for j
  pub left : (i : ℕ) → i < 6 → map words_of (to_carry m i j) ≡ those (is_from table i) news ++ map words_of (to_carry m' i j)
  -- the other nodes' task queues, and what waits for them, are the same
  pub queues : (k q : ℕ) → k < 6 → q < 64 → (k ≡ j → ⊥) → in_queue m' k q ≡ in_queue m k q
  pub others : (i k : ℕ) → i < 6 → k < 6 → (k ≡ j → ⊥) → to_carry m' i k ≡ to_carry m i k
