-- A task queue that is as a sound memory has it.
use Rattle.std.specs.Prelude.{◌≡◌, List, ℕ, ◌+◌, ◌<◌, get_or}
use Rattle.settings.specs.declared.Settings.{Settings}
use Rattle.layout.specs.Places.{gap_word}
use Rattle.queues.specs.Queue.{Queue, task_kind, items, item_at, contents}
use Rattle.queues.specs.Items.{gap_flag}

-- 'a task queue's first item is not 0; the gap flag is 1 exactly when an item is 0, otherwise 0' (A sound memory)
pub record TaskQueue (s : Settings) (node : List ℕ) (q : ℕ) : Type 0 where
  pub queue : Queue (task_kind s) node q
  pub first : 0 < items (task_kind s) node q → item_at (task_kind s) node q 0 ≡ 0 → ⊥
  pub flag : get_or node (q + gap_word) 0 ≡ gap_flag (contents (task_kind s) node q)
