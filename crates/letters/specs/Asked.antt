-- What a sound memory gives, and the functions on letters ask for.
use Rattle.std.specs.Prelude.{List, ℕ, ◌+◌, ◌-◌, ◌≤◌, ◌<◌}
use Rattle.settings.specs.declared.Settings.{Settings}
use Rattle.layout.specs.Numbers.{header_words, greatest_length}
use Rattle.blocks.specs.Chain.{needs}
use Rattle.blocks.specs.Asked.{Block, Walks}

-- n words, no more than a letter may have, lie in the blocks from b on: the blocks that they need are blocks of the stretch
pub record Lies (s : Settings) (stretch : List ℕ) (n b : ℕ) : Type 0 where
  pub walks : Walks s stretch (needs s n) b
  pub most : n ≤ greatest_length

-- word `at` is one that block b carries
pub record Carries (s : Settings) (stretch : List ℕ) (b at : ℕ) : Type 0 where
  pub block : Block s stretch b
  pub inside : at < s.b - 1

-- a letter with a body of n words has a word k, and no more words than a letter may have
pub record HasWord (n k : ℕ) : Type 0 where
  pub inside : k < header_words + n
  pub most : header_words + n ≤ greatest_length
