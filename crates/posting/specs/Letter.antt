-- The header of the letter that a send writes: 'Send'.
use Rattle.std.specs.Prelude.{List, ℕ}
use Rattle.tasks.specs.Table.{node_of}
use Rattle.letters.specs.declared.Header.{Header}

-- the two tasks, each with the node on which it sits
abbrev pub header_of : List ℕ → ℕ → ℕ → Header
header_of table source destination =
    record { source = source; from = node_of table source; destination = destination; to = node_of table destination }
