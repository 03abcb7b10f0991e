-- The memory and a node's stretch as rows that stand one behind the other: how wide each row is.
use Rattle.std.specs.Prelude.{cond, ℕ, ◌+◌, ltb}
use Rattle.settings.specs.declared.Settings.{Settings}
use Rattle.layout.specs.Places.{setting_words, position_words, table_words, node_head, queue_head, task_head, node_size}

-- a node's rows: 0 its first two words, 1-6 send queues, 7-12 acknowledge queues, 13-76 task queues, 76 + b block b
abbrev pub by_row {ℓ} : {X : Type ℓ} → ℕ → X → X → X → X → X → X
by_row r head send ack task block = cond (ltb r 1) head (cond (ltb r 7) send (cond (ltb r 13) ack (cond (ltb r 77) task block)))

unfoldable pub width : Settings → ℕ → ℕ
width s r = by_row r node_head (queue_head + s.s) (queue_head + s.a) (task_head + s.t) s.b

-- the memory's rows: 0 the settings, 1 whose turn, 2-7 the postmen's positions, 8 the task table, 9-14 the nodes' stretches
abbrev pub by_memory_row {ℓ} : {X : Type ℓ} → ℕ → X → X → X → X → X → X
by_memory_row r settings turn position table stretch = cond (ltb r 1) settings (cond (ltb r 2) turn (cond (ltb r 8) position (cond (ltb r 9) table stretch)))

unfoldable pub memory_width : Settings → ℕ → ℕ
memory_width s r = by_memory_row r setting_words 1 position_words table_words (node_size s)
