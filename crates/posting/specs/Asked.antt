-- What a sound memory gives, and the functions that post a letter ask for.
use Rattle.std.specs.Prelude.{◌≡◌, true, List, ℕ, ◌≤◌, ◌<◌}
use Rattle.settings.specs.declared.Settings.{Settings}
use Rattle.layout.specs.Places.{nodes, task_queues, send_at, task_at}
use Rattle.layout.specs.Numbers.{header_words, greatest_length}
use Rattle.layout.specs.Asked.{Stretch}
use Rattle.blocks.specs.Chain.{needs}
use Rattle.blocks.specs.Moves.{enough}
use Rattle.blocks.specs.Asked.{FreeList}
use Rattle.queues.specs.Queue.{send_kind, Queue}
use Rattle.queues.specs.Tasks.{TaskQueue}
use Rattle.posting.specs.declared.Goal.{Goal}
use Rattle.posting.specs.declared.Goal.TheVariants.{Task, Node}

-- the goal is a queue of the stretch, as a sound memory has it
unfoldable pub Queued : Settings → List ℕ → Goal → Type 0
Queued s node (Task q) = (q < task_queues) × TaskQueue s node (task_at s q)
Queued s node (Node k) = (k < nodes) × Queue (send_kind s) node (send_at s k)

-- a queue of the stretch is asked for
pub record Aims (s : Settings) (node : List ℕ) (goal : Goal) : Type 0 where
  pub stretch : Stretch s node
  pub queue : Queued s node goal

-- a letter of so many words, no more than M blocks can hold, is to be put into the stretch
pub record Posts (s : Settings) (node : List ℕ) (goal : Goal) (words : ℕ) : Type 0 where
  pub aims : Aims s node goal
  pub free : FreeList s node
  pub least : header_words ≤ words
  pub most : words ≤ greatest_length
  pub fits : needs s words ≤ s.m

-- and the free list has the blocks
pub record Roomy (s : Settings) (node : List ℕ) (goal : Goal) (words : ℕ) : Type 0 where
  pub posts : Posts s node goal words
  pub has : enough s node (needs s words) ≡ true
