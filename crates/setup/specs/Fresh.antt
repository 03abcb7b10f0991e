-- The words of a memory fresh from set up: 'Set up'.
use Rattle.std.specs.Prelude.{cond, List, [], ◌∷◌, ◌++◌, ℕ, zero, suc, ◌+◌, ◌-◌, ◌*◌, ltb, replicate}
use Rattle.settings.specs.declared.Settings.{Settings}
use Rattle.layout.specs.Places.{nodes, position_words, blocks_at}

module _ (s : Settings) where
  -- 'free list 1, 2, .. M': the link of block b
  unfoldable pub next_free : ℕ → ℕ
  next_free b = cond (ltb b s.m) (b + 1) 0

  -- 'all other block words 0': block b, its B-1 words and its link
  unfoldable pub fresh_block : ℕ → List ℕ
  fresh_block b = replicate (s.b - 1) 0 ++ (next_free b ∷ [])

  -- blocks 1 to k
  unfoldable pub fresh_blocks : ℕ → List ℕ
  fresh_blocks zero = []
  fresh_blocks (suc k) = fresh_blocks k ++ fresh_block (suc k)

  -- 'queues and counts zero': the first free block is 1, and every other word up to the blocks is 0
  unfoldable pub fresh_front : List ℕ
  fresh_front = 1 ∷ replicate (blocks_at s - 1) 0

  unfoldable pub fresh_node : List ℕ
  fresh_node = fresh_front ++ fresh_blocks s.m

  -- k nodes' stretches
  unfoldable pub fresh_nodes : ℕ → List ℕ
  fresh_nodes zero = []
  fresh_nodes (suc k) = fresh_nodes k ++ fresh_node

  -- the settings; 'turn 0, positions .. zero'
  unfoldable pub fresh_head : List ℕ
  fresh_head = (s.b ∷ s.m ∷ s.s ∷ s.a ∷ s.t ∷ []) ++ replicate (1 + nodes * position_words) 0

  unfoldable pub fresh_memory : List ℕ → List ℕ
  fresh_memory table = (fresh_head ++ table) ++ fresh_nodes nodes
