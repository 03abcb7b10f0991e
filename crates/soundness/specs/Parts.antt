-- The rules that are left once the size is right, and what each function may take as known.
use Rattle.std.specs.Prelude.{◌≡◌, Bool, true, not, ◌&&◌, List, ℕ, ◌<◌, eqb, leb, length}
use Rattle.words.specs.Words.{every}
use Rattle.settings.specs.declared.Settings.{Settings}
use Rattle.layout.specs.Places.{nodes}
use Rattle.layout.specs.Asked.{Sized}
use Rattle.sound.specs.Reading.{send_items}
use Rattle.sound.specs.Queues.{right_queues}
use Rattle.sound.specs.Positions.{right_position}
use Rattle.sound.specs.Blocks.{each_once, right_letters}

module _ (s : Settings) (memory : List ℕ) where
  -- 'another node whose send queue to this one has an item'
  unfoldable pub is_other : ℕ → ℕ → Bool
  is_other j other = leb other 5 && (not (eqb other j) && leb 1 (length (send_items s memory other j)))

  -- the fifth and the sixth rule, in node i
  unfoldable pub node_right : ℕ → Bool
  node_right i = each_once s memory i && right_letters s memory i

  -- the third to sixth rule
  unfoldable pub seated_right : Bool
  seated_right =
      every nodes (right_queues s memory)
      && (every nodes (right_position s memory) && (every nodes (each_once s memory) && every nodes (right_letters s memory)))

  -- the size is right, and so are the queues
  pub record Queued : Type 0 where
    pub sized : Sized s memory
    pub queues : (i : ℕ) → i < nodes → right_queues s memory i ≡ true
