-- Where each word of the memory stands: 'Settings and memory', in its order.
use Rattle.std.specs.Prelude.{List, ℕ, ◌+◌, ◌-◌, ◌*◌}
use Rattle.words.specs.Words.{part, splice}
use Rattle.settings.specs.declared.Settings.{Settings}

-- ---- the words before the nodes' stretches
-- words 0-4: B, M, S, A, T
abbrev pub setting_words : ℕ
setting_words = 5

-- word 5: whose turn
abbrev pub turn_at : ℕ
turn_at = setting_words

abbrev pub nodes : ℕ
nodes = 6

-- words 6-23: per node, three words of postman's position: stage, other node, held block
abbrev pub position_words : ℕ
position_words = 3

abbrev pub position_at : ℕ → ℕ
position_at i = turn_at + 1 + i * position_words

-- words 24-535: per task id 0-255, node then queue
abbrev pub table_at : ℕ
table_at = turn_at + 1 + nodes * position_words

abbrev pub task_ids : ℕ
task_ids = 256

abbrev pub table_words : ℕ
table_words = task_ids * 2

-- 'Then six nodes' stretches of N words each'
abbrev pub nodes_at : ℕ
nodes_at = table_at + table_words

-- ---- a node's stretch, counted from its first word
abbrev pub first_free_at : ℕ
first_free_at = 0

abbrev pub room_at : ℕ
room_at = 1

abbrev pub node_head : ℕ
node_head = 2

-- a send or acknowledge queue: start, items, full count, then its slots
abbrev pub start_word : ℕ
start_word = 0

abbrev pub items_word : ℕ
items_word = 1

abbrev pub full_word : ℕ
full_word = 2

abbrev pub queue_head : ℕ
queue_head = 3

-- a task queue: start, items, gap flag, full count, empty count, then its slots
abbrev pub gap_word : ℕ
gap_word = 2

abbrev pub task_full_word : ℕ
task_full_word = 3

abbrev pub empty_word : ℕ
empty_word = 4

abbrev pub task_head : ℕ
task_head = 5

abbrev pub task_queues : ℕ
task_queues = 64

module _ (s : Settings) where
  -- six send queues
  unfoldable pub send_at : ℕ → ℕ
  send_at k = node_head + k * (queue_head + s.s)

  -- six acknowledge queues: the same with A slots
  unfoldable pub ack_at : ℕ → ℕ
  ack_at k = node_head + nodes * (queue_head + s.s) + k * (queue_head + s.a)

  -- 64 task queues
  unfoldable pub task_at : ℕ → ℕ
  task_at q = node_head + nodes * (queue_head + s.s) + nodes * (queue_head + s.a) + q * (task_head + s.t)

  unfoldable pub blocks_at : ℕ
  blocks_at = node_head + nodes * (queue_head + s.s) + nodes * (queue_head + s.a) + task_queues * (task_head + s.t)

  -- M blocks of B words, numbered from 1
  unfoldable pub block_at : ℕ → ℕ
  block_at b = blocks_at + (b - 1) * s.b

  -- 'Each block carries B-1 words and then its link' (Letters)
  abbrev pub link_at : ℕ → ℕ
  link_at b = block_at b + (s.b - 1)

  -- N
  unfoldable pub node_size : ℕ
  node_size = node_head + nodes * (queue_head + s.s) + nodes * (queue_head + s.a) + task_queues * (task_head + s.t) + s.m * s.b

  -- ---- the nodes' stretches in the memory
  -- node i's stretch starts at 536 + i·N
  unfoldable pub node_at : ℕ → ℕ
  node_at i = nodes_at + i * node_size

  abbrev pub node_end : ℕ → ℕ
  node_end i = node_at i + node_size

  -- 'The slice has exactly 536 + 6N words'
  unfoldable pub memory_size : ℕ
  memory_size = nodes_at + nodes * node_size

  -- node i's stretch of the memory, and the memory with that stretch replaced
  abbrev pub node : List ℕ → ℕ → List ℕ
  node memory i = part memory (node_at i) (node_end i)

  abbrev pub with_node : List ℕ → ℕ → List ℕ → List ℕ
  with_node memory i stretch = splice memory (node_at i) (node_end i) stretch
