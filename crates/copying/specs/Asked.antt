-- What a sound memory gives, and the functions that copy letters ask for.
use Rattle.std.specs.Prelude.{◌≡◌, ◌⊎◌, List, ℕ, ◌+◌, ◌≤◌, ◌<◌, length}
use Rattle.settings.specs.declared.Settings.{Settings}
use Rattle.layout.specs.Places.{nodes, node}
use Rattle.layout.specs.Asked.{Sized}
use Rattle.blocks.specs.Asked.{Block}
use Rattle.letters.specs.Asked.{Lies}

-- n words from word `from` on and n from word `to` on lie in the memory, and none of these is one of those
pub record Moves (memory : List ℕ) (from to n : ℕ) : Type 0 where
  pub reads : from + n ≤ length memory
  pub writes : to + n ≤ length memory
  pub apart : (from + n ≤ to) ⊎ (to + n ≤ from)

-- x is the number of a block of node i, and y that of a block of node j, which is another
pub record CopiesBlock (s : Settings) (memory : List ℕ) (i x j y : ℕ) : Type 0 where
  pub sized : Sized s memory
  pub source : i < nodes
  pub destination : j < nodes
  pub apart : i ≡ j → ⊥
  pub from : Block s (node s memory i) x
  pub to : Block s (node s memory j) y

-- a letter of n words lies in node i from block b on, and as many words may be written in node j, which is another, from block c on
pub record Copies (s : Settings) (memory : List ℕ) (n i b j c : ℕ) : Type 0 where
  pub sized : Sized s memory
  pub source : i < nodes
  pub destination : j < nodes
  pub apart : i ≡ j → ⊥
  pub from : Lies s (node s memory i) n b
  pub to : Lies s (node s memory j) n c
