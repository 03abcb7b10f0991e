-- The fifth rule of a sound memory: in each node every block stands in exactly one place.
use Rattle.std.specs.Prelude.{Bool, ◌&&◌, List, [], ◌∷◌, ◌++◌, ℕ, zero, suc, ◌-◌, eqb, get_or}
use Rattle.words.specs.Words.{every, all}
use Rattle.words.specs.Count.{occurs}
use Rattle.settings.specs.declared.Settings.{Settings}
use Rattle.layout.specs.Places.{first_free_at, node}
use Rattle.layout.specs.Rows.{by_row}
use Rattle.queues.specs.Items.{live}
use Rattle.sound.specs.Reading.{table_in, send_items, ack_items, task_items}
use Rattle.sound.specs.Letters.{chain_from, ends_well, right_letter}
use Rattle.sound.specs.Positions.{held}

-- the chains that the blocks bs begin, one behind the other
unfoldable pub chains : Settings → List ℕ → List ℕ → List ℕ
chains s stretch [] = []
chains s stretch (b ∷ bs) = chain_from s stretch b ++ chains s stretch bs

module _ (s : Settings) (memory : List ℕ) (i : ℕ) where
  -- the first blocks of the letters at place p of node i: 'its send items, its non-zero task items, the items of acknowledge queue i on
  -- other nodes, and the block held in stage 2'
  unfoldable pub begun : ℕ → List ℕ
  begun p = by_row p (held s memory i) (send_items s memory i (p - 1)) (ack_items s memory (p - 7) i) (live (task_items s memory i (p - 13))) []

  -- the blocks that stand in the chains of the first n places
  unfoldable pub standing : ℕ → List ℕ
  standing zero = []
  standing (suc n) = standing n ++ chains s (node s memory i) (begun n)

  -- the free list and the chains
  unfoldable pub visits : List ℕ
  visits = chain_from s (node s memory i) (get_or (node s memory i) first_free_at 0) ++ standing 77

  -- 'the free list and the chains .. visit each block exactly once'
  unfoldable pub each_once : Bool
  each_once =
      ends_well s (node s memory i) (get_or (node s memory i) first_free_at 0)
      && every s.m (λ b. eqb (occurs (suc b) visits) 1)

  -- the sixth rule, in node i
  unfoldable pub right_letters : Bool
  right_letters = every 77 (λ p. all (right_letter s (node s memory i) (table_in memory) i p) (begun p))
