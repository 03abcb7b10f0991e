-- What the functions that lend a node's stretch ask for.
use Rattle.std.specs.Prelude.{◌≡◌, true, List, ℕ, ◌≤◌, ◌<◌, length}
use Rattle.settings.specs.declared.Settings.{Settings}
use Rattle.layout.specs.Places.{nodes, send_at, node}
use Rattle.layout.specs.Asked.{Sized}
use Rattle.tasks.specs.Table.{right_table}
use Rattle.blocks.specs.Asked.{Walks, Takes}
use Rattle.queues.specs.declared.Kind.{Kind}
use Rattle.queues.specs.Queue.{Queue, send_kind, task_kind}
use Rattle.sound.specs.Reading.{table_in, send_items}
use Rattle.sound.specs.Letters.{ends_well, words_from, right_length, right_header}

-- node i's stretch of a memory as long as the settings say
pub record Lent (s : Settings) (m : List ℕ) (i : ℕ) : Type 0 where
  pub sized : Sized s m
  pub there : i < nodes

-- block b begins a letter in node i: 'a valid length, the blocks it needs' (A sound memory)
pub record Begins (s : Settings) (m : List ℕ) (i b : ℕ) : Type 0 where
  pub lent : Lent s m i
  pub ends : ends_well s (node s m i) b ≡ true
  pub long : right_length s (node s m i) b ≡ true

-- such a letter, with 'a header of bound tasks on their nodes'
pub record Addressed (s : Settings) (m : List ℕ) (i b : ℕ) : Type 0 where
  pub begins : Begins s m i b
  pub table : right_table (table_in m) ≡ true
  pub header : right_header (table_in m) (words_from s (node s m i) b) ≡ true

-- a queue at word q of node i
pub record HasQueue (s : Settings) (m : List ℕ) (i : ℕ) (k : Kind) (q : ℕ) : Type 0 where
  pub lent : Lent s m i
  pub queue : Queue k (node s m i) q

pub record HasTaskQueue (s : Settings) (m : List ℕ) (i q : ℕ) : Type 0 where
  pub lent : Lent s m i
  pub queue : Queue (task_kind s) (node s m i) q

-- send queue j on node i, with an item
pub record HasFirst (s : Settings) (m : List ℕ) (i j : ℕ) : Type 0 where
  pub lent : Lent s m i
  pub own : j < nodes
  pub queue : Queue (send_kind s) (node s m i) (send_at s j)
  pub some : 1 ≤ length (send_items s m i j)

-- n blocks may be asked of node j's free list
pub record MayTake (s : Settings) (m : List ℕ) (j n : ℕ) : Type 0 where
  pub lent : Lent s m j
  pub takes : Takes s (node s m j) n

-- the n blocks from b on, one at least, are blocks of node j
pub record MayReturn (s : Settings) (m : List ℕ) (j b n : ℕ) : Type 0 where
  pub lent : Lent s m j
  pub walks : Walks s (node s m j) n b
  pub some : 1 ≤ n
