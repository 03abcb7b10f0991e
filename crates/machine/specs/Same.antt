-- What a call may leave as it was: words of the memory, whose turn and positions, all of the machine.
use Rattle.std.specs.Prelude.{◌≡◌, List, ℕ, ◌<◌, length}
use Rattle.sound.specs.Reading.{settings_in, table_in}
use Rattle.machine.specs.Machine.{Machine}

-- how many words the memory has, its settings and its task table are the same
pub record Fixed (before after : List ℕ) : Type 0 where
  pub size : length after ≡ length before
  pub settings : settings_in after ≡ settings_in before
  pub table : table_in after ≡ table_in before

-- whose turn it is and the postmen's positions are the same
pub record Stands (before after : Machine) : Type 0 where
  pub turn : after.turn ≡ before.turn
  pub stage : (j : ℕ) → j < 6 → after.stage j ≡ before.stage j
  pub other : (j : ℕ) → j < 6 → after.other j ≡ before.other j

-- nothing of the machine changes: so it is with every refusal
pub record Unchanged (before after : Machine) : Type 0 where
  pub stands : Stands before after
  -- every node's free list is the same
  pub free : (k : ℕ) → k < 6 → (after.node k).free ≡ (before.node k).free
  -- and so are the letters at every place, gaps included
  pub letters : (k p : ℕ) → k < 6 → p < 78 → (after.node k).letters p ≡ (before.node k).letters p
