-- What a sound memory gives, and the functions on chains and on the free list ask for.
use Rattle.std.specs.Prelude.{◌≡◌, List, ℕ, ◌-◌, ◌≤◌, length, get_or}
use Rattle.settings.specs.declared.Settings.{Settings}
use Rattle.layout.specs.Places.{first_free_at, block_at}
use Rattle.layout.specs.Asked.{Stretch}
use Rattle.blocks.specs.Chain.{chain, after, list, free, Within, Once}

-- b is the number of a block of the stretch
pub record Block (s : Settings) (node : List ℕ) (b : ℕ) : Type 0 where
  pub stretch : Stretch s node
  pub low : 1 ≤ b
  pub high : b ≤ s.m

-- the n blocks from b on are blocks of the stretch
pub record Walks (s : Settings) (node : List ℕ) (n b : ℕ) : Type 0 where
  pub stretch : Stretch s node
  pub within : Within s.m (chain s node n b)

-- the same for a walk that knows no settings: of n blocks, one at least, the link of block b is word before + b * width
pub record Follows (s : Settings) (node : List ℕ) (before width n b : ℕ) : Type 0 where
  pub walks : Walks s node n b
  pub some : 1 ≤ n
  pub first : before ≡ block_at s 1 - 1
  pub wide : width ≡ s.b

-- the blocks from b on up to a link 0, n at most and one at least, are blocks of the stretch
pub record Reaches (s : Settings) (node : List ℕ) (n b : ℕ) : Type 0 where
  pub stretch : Stretch s node
  pub some : 1 ≤ n
  pub within : Within s.m (list s node n b)

-- the free list: its blocks are blocks, no two the same, and the last link is 0
pub record FreeList (s : Settings) (node : List ℕ) : Type 0 where
  pub within : Within s.m (free s node)
  pub once : Once (free s node)
  pub ends : after s node (length (free s node)) (get_or node first_free_at 0) ≡ 0

-- n blocks, one at least and no more than a node has, may be asked of the free list
pub record Takes (s : Settings) (node : List ℕ) (n : ℕ) : Type 0 where
  pub stretch : Stretch s node
  pub free : FreeList s node
  pub some : 1 ≤ n
  pub most : n ≤ s.m
