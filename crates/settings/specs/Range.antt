-- Settings in range: as a test, and as the facts that a function may ask for.
use Rattle.std.specs.Prelude.{Bool, ◌&&◌, ℕ, ◌≤◌}
use Rattle.settings.specs.Limits.{Limits, within, block_words, node_blocks, queue_length}
use Rattle.settings.specs.declared.Settings.{Settings}

-- 'settings in range' (A sound memory)
unfoldable pub in_range : Settings → Bool
in_range s = within block_words s.b && (within node_blocks s.m && (within queue_length s.s && (within queue_length s.a && within queue_length s.t)))

-- x lies within the limits
pub record Within (l : Limits) (x : ℕ) : Type 0 where
  pub low : l.least ≤ x
  pub high : x ≤ l.greatest

pub record InRange (all : Settings) : Type 0 where
  pub b : Within block_words all.b
  pub m : Within node_blocks all.m
  pub s : Within queue_length all.s
  pub a : Within queue_length all.a
  pub t : Within queue_length all.t
