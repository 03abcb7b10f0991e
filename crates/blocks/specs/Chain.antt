-- Blocks, links, chains and the free list of a node's stretch: 'Letters'.
use Rattle.std.specs.Prelude.{◌≡◌, cond, List, [], ◌∷◌, ◌++◌, ℕ, zero, suc, ◌+◌, ◌-◌, ◌/◌, ◌≤◌, eqb, get_or, Option, Some, None}
use Rattle.words.specs.Words.{part}
use Rattle.words.specs.Count.{occurs}
use Rattle.settings.specs.declared.Settings.{Settings}
use Rattle.layout.specs.Places.{first_free_at, block_at, link_at}

-- 'Blocks needed: length divided by B-1, rounded up'
unfoldable pub needs : Settings → ℕ → ℕ
needs s n = (n + (s.b - 2)) / (s.b - 1)

module _ (s : Settings) (node : List ℕ) where
  -- the block that follows b; 0 means none
  abbrev pub link : ℕ → ℕ
  link b = get_or node (link_at s b) 0

  -- the n blocks from b on, along the links
  unfoldable pub chain : ℕ → ℕ → List ℕ
  chain zero b = []
  chain (suc n) b = b ∷ chain n (link b)

  -- what n links lead to from b
  unfoldable pub after : ℕ → ℕ → ℕ
  after zero b = b
  after (suc n) b = after n (link b)

  -- the blocks from b on up to a link 0, n at most
  unfoldable pub list : ℕ → ℕ → List ℕ
  list zero b = []
  list (suc n) b = cond (eqb b 0) [] (b ∷ list n (link b))

  -- the free list
  abbrev pub free : List ℕ
  free = list s.m (get_or node first_free_at 0)

  -- 'Each block carries B-1 words and then its link': the words of the blocks, links left out, as if they stood together
  unfoldable pub text : List ℕ → List ℕ
  text [] = []
  text (b ∷ l) = part node (block_at s b) (link_at s b) ++ text l

-- the block of a number: '0 means none'
abbrev pub block_of : ℕ → Option ℕ
block_of b = cond (eqb b 0) None (Some b)

-- each number of the list is that of a block, 1 to M
unfoldable pub Within : ℕ → List ℕ → Type 0
Within m [] = Unit {0}
Within m (x ∷ l) = ((1 ≤ x) × (x ≤ m)) × Within m l

-- no number stands in the list twice
abbrev pub Once : List ℕ → Type 0
Once l = (b : ℕ) → occurs b l ≤ 1

-- the n blocks from b on are blocks, no two the same, and the last link is 0
pub record Chained (s : Settings) (node : List ℕ) (n b : ℕ) : Type 0 where
  pub within : Within s.m (chain s node n b)
  pub once : Once (chain s node n b)
  pub ends : after s node n b ≡ 0
