-- The table of 'Settings and memory': the least and the greatest value of each setting.
use Rattle.std.specs.Prelude.{Bool, ◌&&◌, ℕ, leb}

pub record Limits : Type 0 where
  pub least : ℕ
  pub greatest : ℕ

-- B, words in a block, link included
abbrev pub block_words : Limits
block_words = record { least = 4; greatest = 64 }

-- M, blocks in a node
abbrev pub node_blocks : Limits
node_blocks = record { least = 1; greatest = 1024 }

-- S, A, T: length of a send, acknowledge, task queue
abbrev pub queue_length : Limits
queue_length = record { least = 2; greatest = 255 }

-- x is neither below the least nor above the greatest
unfoldable pub within : Limits → ℕ → Bool
within l x = leb l.least x && leb x l.greatest
