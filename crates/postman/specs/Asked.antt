-- What the functions of a turn ask for: the memory is sound with node j's postman at a position.
use Rattle.std.specs.Prelude.{◌≡◌, true, List, ℕ, ◌≤◌, ◌<◌, length}
use Rattle.settings.specs.declared.Settings.{Settings}
use Rattle.layout.specs.Places.{nodes}
use Rattle.sound.specs.Reading.{settings_in, send_items, ack_items}
use Rattle.sound.specs.Sound.{sound}
use Rattle.postman.specs.declared.Position.{Position}
use Rattle.postman.specs.Position.{standing, at_rest}

-- the memory, with its settings s, is sound with node j's postman at position p
pub record SoundAt (s : Settings) (m : List ℕ) (j : ℕ) (p : Position) : Type 0 where
  pub settings : s ≡ settings_in m
  pub postman : j < nodes
  pub holds : sound (standing m j p) ≡ true

-- so it is at rest, and node i has k letters or more for j
pub record Waits (s : Settings) (m : List ℕ) (j i k : ℕ) : Type 0 where
  pub stands : SoundAt s m j at_rest
  pub there : i < nodes
  pub letters : k ≤ length (send_items s m i j)

-- and node i has acknowledged k letters or more to j
pub record Owes (s : Settings) (m : List ℕ) (j i k : ℕ) : Type 0 where
  pub stands : SoundAt s m j at_rest
  pub there : i < nodes
  pub items : k ≤ length (ack_items s m i j)
