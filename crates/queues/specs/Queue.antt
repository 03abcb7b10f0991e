-- The three kinds of queue in a node's stretch: 'Settings and memory'.
use Rattle.std.specs.Prelude.{◌≡◌, List, [], ◌∷◌, ℕ, zero, suc, ◌+◌, ◌%◌, ◌≤◌, ◌<◌, length, get_or}
use Rattle.settings.specs.declared.Settings.{Settings}
use Rattle.layout.specs.Places.{items_word, full_word, queue_head, task_full_word, task_head}
use Rattle.queues.specs.declared.Kind.{Kind}

-- a kind of queue: the words before its slots, its slots, and which of the words counts the appends that found it full
-- 'six send queues: start, items, full count, S slots'
abbrev pub send_kind : Settings → Kind
send_kind s = record { head = queue_head; slots = s.s; full = full_word }

-- 'six acknowledge queues: the same with A slots'
abbrev pub ack_kind : Settings → Kind
ack_kind s = record { head = queue_head; slots = s.a; full = full_word }

-- '64 task queues: start, items, gap flag, full count, empty count, T slots'
abbrev pub task_kind : Settings → Kind
task_kind s = record { head = task_head; slots = s.t; full = task_full_word }

-- 'Queues run round': the word of slot i, counted from the slot that the queue at word q starts with
abbrev pub slot_from : Kind → ℕ → ℕ → ℕ → ℕ
slot_from k q first i = q + (k.head + (first + i) % k.slots)

module _ (k : Kind) (node : List ℕ) (q : ℕ) where
  -- the queue that stands at word q: its start and its number of items
  abbrev pub start : ℕ
  start = get_or node q 0

  abbrev pub items : ℕ
  items = get_or node (q + items_word) 0

  abbrev pub slot_at : ℕ → ℕ
  slot_at i = slot_from k q start i

  -- what stands at place i, counted from the first item
  abbrev pub item_at : ℕ → ℕ
  item_at i = get_or node (slot_at i) 0

  -- the n items from place i on
  unfoldable pub run : ℕ → ℕ → List ℕ
  run i zero = []
  run i (suc n) = item_at i ∷ run (i + 1) n

  -- the items of the queue, first to last
  abbrev pub contents : List ℕ
  contents = run 0 items

-- there is room for a queue at word q, and its full count is a word of its own
pub record Placed (k : Kind) (node : List ℕ) (q : ℕ) : Type 0 where
  pub lies : q + (k.head + k.slots) ≤ length node
  pub some : 2 ≤ k.slots
  pub small : k.slots ≤ 255
  pub low : 2 ≤ k.full
  pub high : k.full < k.head

-- 'starts below the queue's length, items at most it; slots outside the items are 0' (A sound memory)
pub record Queue (k : Kind) (node : List ℕ) (q : ℕ) : Type 0 where
  pub placed : Placed k node q
  pub begins : start k node q < k.slots
  pub count : items k node q ≤ k.slots
  pub rest : (i : ℕ) → items k node q ≤ i → i < k.slots → item_at k node q i ≡ 0
