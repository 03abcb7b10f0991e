-- What a stage asks for that holds a block, and what giving an item's chain back leaves.
use Rattle.std.specs.Prelude.{◌≡◌, List, ℕ, ◌≤◌, length, get_or}
use Rattle.settings.specs.declared.Settings.{Settings}
use Rattle.layout.specs.Places.{node}
use Rattle.sound.specs.Reading.{ack_items}
use Rattle.sound.specs.Letters.{chain_from}
use Rattle.postman.specs.declared.Round.{Round}
use Rattle.postman.specs.Position.{at}
use Rattle.postman.specs.Asked.{SoundAt}
use Rattle.stages_keep.specs.Steps.{collected}

-- node j's postman is at stage 2, whatever node it names, and holds block c
pub record Holds (s : Settings) (m : List ℕ) (j c : ℕ) : Type 0 where
  pub other : ℕ
  pub stands : SoundAt s m j (at 2 other c)

-- an item that node i acknowledged to j was given back, n blocks
pub record GaveBack (s : Settings) (m : List ℕ) (j i n : ℕ) (left : List ℕ) : Type 0 where
  pub memory : (r : Round) → left ≡ (collected s j m i r).memory
  pub blocks : n ≡ length (chain_from s (node s m j) (get_or (ack_items s m i j) 0 0))
  pub most : n ≤ 1024
