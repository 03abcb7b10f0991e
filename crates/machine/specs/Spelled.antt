-- The machine that a memory spells.
use Rattle.std.specs.Prelude.{List, [], map, ℕ, ◌-◌, get_or}
use Rattle.settings.specs.declared.Settings.{Settings}
use Rattle.layout.specs.Places.{first_free_at, node}
use Rattle.layout.specs.Rows.{by_row}
use Rattle.sound.specs.Reading.{settings_in, turn_in, stage_of, other_of, send_items, ack_items, task_items}
use Rattle.sound.specs.Letters.{chain_from, words_from}
use Rattle.sound.specs.Positions.{held}
use Rattle.machine.specs.Machine.{Letter, Node, Machine}

-- the letter that block b begins; of block 0, a gap
unfoldable pub letter_from : Settings → List ℕ → ℕ → Letter
letter_from s stretch b = record { chain = chain_from s stretch b; words = words_from s stretch b }

module _ (s : Settings) (memory : List ℕ) (i : ℕ) where
  -- the first blocks that the words show for place p of node i, gaps as 0
  unfoldable pub shown : ℕ → List ℕ
  shown p = by_row p (held s memory i) (send_items s memory i (p - 1)) (ack_items s memory (p - 7) i) (task_items s memory i (p - 13)) []

  unfoldable pub node_from : Node
  node_from =
      record {
        free = chain_from s (node s memory i) (get_or (node s memory i) first_free_at 0);
        letters = λ p. map (letter_from s (node s memory i)) (shown p);
      }

abbrev pub machine_of : List ℕ → Machine
machine_of memory =
    record {
      turn = turn_in memory;
      stage = stage_of memory;
      other = other_of memory;
      node = node_from (settings_in memory) memory;
    }
