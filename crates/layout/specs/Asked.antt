-- What the functions on a stretch ask for, and what the functions that compute a place answer.
use Rattle.std.specs.Prelude.{◌≡◌, List, ℕ, ◌+◌, ◌≤◌, length}
use Rattle.settings.specs.declared.Settings.{Settings}
use Rattle.settings.specs.Range.{InRange}
use Rattle.layout.specs.Places.{node_size, node_at, memory_size}

-- settings in range, and a node's stretch as long as they say
pub record Stretch (s : Settings) (node : List ℕ) : Type 0 where
  pub range : InRange s
  pub long : length node ≡ node_size s

-- settings in range, and a memory as long as they say
pub record Sized (s : Settings) (memory : List ℕ) : Type 0 where
  pub range : InRange s
  pub long : length memory ≡ memory_size s

-- r is N, which is at most 85,274
pub record IsNodeSize (s : Settings) (r : ℕ) : Type 0 where
  pub is : r ≡ node_size s
  pub most : node_size s ≤ 85274

-- r is where node i's stretch starts, and the stretch lies in the memory
pub record IsNodeAt (s : Settings) (i r : ℕ) : Type 0 where
  pub is : r ≡ node_at s i
  pub fits : r + node_size s ≤ memory_size s

-- r is the place, and so many words from it on lie in the stretch
pub record IsAt (s : Settings) (place words r : ℕ) : Type 0 where
  pub is : r ≡ place
  pub fits : r + words ≤ node_size s
