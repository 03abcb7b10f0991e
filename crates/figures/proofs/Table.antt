-- THE TABLE: the document's figures are what the definitions compute. Assumes nothing.
use mathlib.Core.Path.{◌≡◌, refl}
use Rattle.layout.specs.Places.{node_size, memory_size}
use Rattle.blocks.specs.Chain.{needs}
use Rattle.queues.specs.Queue.{run}
use Rattle.queues.specs.Items.{live, gap_flag}
use Rattle.gaps.specs.Close.{laid, closed}
use Rattle.figures.specs.Table.{value, computed, said}

pub table_agrees : computed ≡ said
unfolding value needs memory_size node_size run live gap_flag laid closed
table_agrees = refl
