-- What a sound memory gives, and the functions of a send ask for.
use Rattle.std.specs.Prelude.{List, ℕ, ◌<◌}
use Rattle.settings.specs.declared.Settings.{Settings}
use Rattle.layout.specs.Places.{nodes, node as stretch_of}
use Rattle.layout.specs.Asked.{Sized}
use Rattle.posting.specs.Asked.{Posts}
use Rattle.posting.specs.declared.Goal.{Goal}

-- a letter of so many words may be posted in node i
pub record Delivers (s : Settings) (memory : List ℕ) (i : ℕ) (goal : Goal) (words : ℕ) : Type 0 where
  pub sized : Sized s memory
  pub inside : i < nodes
  pub posts : Posts s (stretch_of s memory i) goal words
