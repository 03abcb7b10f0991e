-- What stands in a memory, by the names of 'Settings and memory'.
use Rattle.std.specs.Prelude.{List, ℕ, ◌+◌, get_or}
use Rattle.words.specs.Words.{part}
use Rattle.settings.specs.declared.Settings.{Settings}
use Rattle.settings.specs.Made.{settings_of}
use Rattle.layout.specs.Places.{turn_at, position_at, table_at, nodes_at, send_at, ack_at, task_at, node}
use Rattle.queues.specs.Queue.{send_kind, ack_kind, task_kind, contents}

module _ (memory : List ℕ) where
  -- 'Words 0-4: B, M, S, A, T'
  abbrev pub settings_in : Settings
  settings_in = settings_of (get_or memory 0 0) (get_or memory 1 0) (get_or memory 2 0) (get_or memory 3 0) (get_or memory 4 0)

  -- 'Word 5: whose turn'
  abbrev pub turn_in : ℕ
  turn_in = get_or memory turn_at 0

  -- 'per node, three words of postman's position: stage, other node, held block'
  abbrev pub stage_of : ℕ → ℕ
  stage_of i = get_or memory (position_at i) 0

  abbrev pub other_of : ℕ → ℕ
  other_of i = get_or memory (position_at i + 1) 0

  abbrev pub held_of : ℕ → ℕ
  held_of i = get_or memory (position_at i + 2) 0

  -- 'per task id 0-255, node then queue'
  abbrev pub table_in : List ℕ
  table_in = part memory table_at nodes_at

-- the items of the queues of node i, first to last
module _ (s : Settings) (memory : List ℕ) (i : ℕ) where
  abbrev pub send_items : ℕ → List ℕ
  send_items k = contents (send_kind s) (node s memory i) (send_at s k)

  abbrev pub ack_items : ℕ → List ℕ
  ack_items k = contents (ack_kind s) (node s memory i) (ack_at s k)

  abbrev pub task_items : ℕ → List ℕ
  task_items q = contents (task_kind s) (node s memory i) (task_at s q)
