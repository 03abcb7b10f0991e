-- The limits of the script format.
use Rattle.std.specs.Prelude.{ℕ}

-- the most words of a script's memory
abbrev pub memory_limit : ℕ
memory_limit = 512180

-- the most words of its task table
abbrev pub table_limit : ℕ
table_limit = 1024

-- the most words of the out of a list
abbrev pub paper_limit : ℕ
paper_limit = 40000
