-- What the functions that read a letter ask for.
use Rattle.std.specs.Prelude.{◌≡◌, true, List, ℕ, ◌<◌}
use Rattle.settings.specs.declared.Settings.{Settings}
use Rattle.layout.specs.Places.{nodes, node}
use Rattle.layout.specs.Asked.{Sized}
use Rattle.sound.specs.Letters.{ends_well, right_length}

-- block b begins a letter in node i: 'a valid length, the blocks it needs' (A sound memory)
pub record Begins (s : Settings) (memory : List ℕ) (i b : ℕ) : Type 0 where
  pub sized : Sized s memory
  pub there : i < nodes
  pub ends : ends_well s (node s memory i) b ≡ true
  pub long : right_length s (node s memory i) b ≡ true
