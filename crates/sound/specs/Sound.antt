-- A sound memory: the six rules of that heading, joined.
use Rattle.std.specs.Prelude.{Bool, ◌&&◌, List, ℕ, eqb, leb, length}
use Rattle.words.specs.Words.{every}
use Rattle.settings.specs.Range.{in_range}
use Rattle.layout.specs.Places.{nodes, memory_size}
use Rattle.tasks.specs.Table.{right_table}
use Rattle.sound.specs.Reading.{settings_in, turn_in, table_in}
use Rattle.sound.specs.Queues.{right_queues}
use Rattle.sound.specs.Positions.{right_position}
use Rattle.sound.specs.Blocks.{each_once, right_letters}

-- 'settings in range, exact size, turn at most 5'
unfoldable pub right_size : List ℕ → Bool
right_size memory = in_range (settings_in memory) && (eqb (length memory) (memory_size (settings_in memory)) && leb (turn_in memory) 5)

-- 'All hold, else refusal 1'
unfoldable pub sound : List ℕ → Bool
sound memory =
    right_size memory
    && (right_table (table_in memory)
    && (every nodes (right_queues (settings_in memory) memory)
    && (every nodes (right_position (settings_in memory) memory)
    && (every nodes (each_once (settings_in memory) memory)
    && every nodes (right_letters (settings_in memory) memory)))))
