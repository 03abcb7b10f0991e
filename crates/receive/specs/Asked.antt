-- What a sound memory gives, and the functions of receive ask for.
use Rattle.std.specs.Prelude.{◌≡◌, true, List, ℕ, ◌≤◌, ◌<◌, length, drop, Result}
use Rattle.settings.specs.declared.Settings.{Settings}
use Rattle.layout.specs.Places.{nodes, task_queues, task_at, node, with_node}
use Rattle.layout.specs.Numbers.{header_words}
use Rattle.layout.specs.Asked.{Stretch, Sized}
use Rattle.queues.specs.Queue.{Queue, task_kind, items, item_at}
use Rattle.taking.specs.Take.{Place}
use Rattle.sound.specs.Reading.{settings_in}
use Rattle.sound.specs.Letters.{ends_well, words_from, right_length}
use Rattle.receive.specs.declared.Received.{Received}
use Rattle.receive.specs.declared.ReceiveRefusal.{ReceiveRefusal}
use Rattle.receive.specs.Take.{took}

-- the letter that block b begins ends well and has a right length
pub record Whole (s : Settings) (node : List ℕ) (b : ℕ) : Type 0 where
  pub stretch : Stretch s node
  pub ends : ends_well s node b ≡ true
  pub long : right_length s node b ≡ true

-- such a letter, whose body has n words, and an out that is no shorter
pub record Fits (s : Settings) (node : List ℕ) (b n : ℕ) (out : List ℕ) : Type 0 where
  pub letter : Whole s node b
  pub words : n ≡ length (drop header_words (words_from s node b))
  pub room : n ≤ length out

-- place k of task queue q has an item that begins such a letter
pub record Holds (s : Settings) (node : List ℕ) (q k : ℕ) : Type 0 where
  pub queue : q < task_queues
  pub place : Place (task_kind s) node (task_at s q) k
  pub letter : Whole s node (item_at (task_kind s) node (task_at s q) k)

-- that letter begins with block b, and its body has n words
pub record Leaves (s : Settings) (node : List ℕ) (q k b n : ℕ) : Type 0 where
  pub holds : Holds s node q k
  pub first : b ≡ item_at (task_kind s) node (task_at s q) k
  pub words : n ≡ length (drop header_words (words_from s node b))

-- a task queue in a node's stretch, its items 0 to M, each that is not 0 the first block of such a letter
pub record Kept (s : Settings) (node : List ℕ) (q : ℕ) : Type 0 where
  pub stretch : Stretch s node
  pub place : q < task_queues
  pub queue : Queue (task_kind s) node (task_at s q)
  pub blocks : (i : ℕ) → i < items (task_kind s) node (task_at s q) → item_at (task_kind s) node (task_at s q) i ≤ s.m
  pub letters : (i : ℕ) → i < items (task_kind s) node (task_at s q) → (item_at (task_kind s) node (task_at s q) i ≡ 0 → ⊥)
      → Whole s node (item_at (task_kind s) node (task_at s q) i)

-- such a queue of node i, in a memory as long as its settings say
pub record Seated (memory : List ℕ) (i q : ℕ) : Type 0 where
  pub sized : Sized (settings_in memory) memory
  pub home : i < nodes
  pub kept : Kept (settings_in memory) (node (settings_in memory) memory i) q

-- what taking a letter out of queue q of node i answers, and the memory and out after it
pub record Collects (memory : List ℕ) (i q source : ℕ) (out : List ℕ) (r : Result Received ReceiveRefusal) (after given : List ℕ) : Type 0 where
  pub answer : r ≡ (took (settings_in memory) (node (settings_in memory) memory i) q source out).answer
  pub stored : after ≡ with_node (settings_in memory) memory i (took (settings_in memory) (node (settings_in memory) memory i) q source out).stretch
  pub got : given ≡ (took (settings_in memory) (node (settings_in memory) memory i) q source out).out
