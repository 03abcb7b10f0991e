-- The table of 'What the contracts must rule out': the eight block counts, the two sizes, and closing gaps.
use Rattle.std.specs.Prelude.{List, [], ◌∷◌, ◌++◌, map, ℕ, ◌-◌, length, replicate}
use Rattle.settings.specs.declared.Settings.{Settings}
use Rattle.layout.specs.Places.{memory_size}
use Rattle.blocks.specs.Chain.{needs}
use Rattle.queues.specs.Queue.{contents, task_kind}
use Rattle.queues.specs.Items.{gap_flag}
use Rattle.gaps.specs.Close.{closed}

-- what is computed
pub data What : Type 0 where
  -- the blocks that a letter of the length needs, with B words in a block
  blocks : ℕ → ℕ → What
  -- the words of a memory with the settings B, M, S, A, T
  words : ℕ → ℕ → ℕ → ℕ → ℕ → What
  -- the items of a task queue after its gaps are closed
  closing : List ℕ → What

abbrev pub settings : ℕ → ℕ → ℕ → ℕ → ℕ → Settings
settings b m s a t = record { b = b; m = m; s = s; a = a; t = t }

-- the words of a task queue with T slots that starts with slot 0: start, items, gap flag, full count, empty count, slots
abbrev pub task_words : ℕ → List ℕ → List ℕ
task_words t xs = 0 ∷ length xs ∷ gap_flag xs ∷ 0 ∷ 0 ∷ (xs ++ replicate (t - length xs) 0)

unfoldable pub value : What → List ℕ
value (blocks b n) = needs (settings b 1 2 2 2) n ∷ []
value (words b m s a t) = memory_size (settings b m s a t) ∷ []
value (closing xs) = contents (task_kind (settings 4 1 2 2 3)) (closed (settings 4 1 2 2 3) (task_words 3 xs) 0) 0

-- a row: what is computed, and what the document says of it
pub record Row : Type 0 where
  pub what : What
  pub says : List ℕ

abbrev pub table : List Row
table =
    record { what = blocks 8 5; says = 1 ∷ [] }
    ∷ record { what = blocks 8 7; says = 1 ∷ [] }
    ∷ record { what = blocks 8 8; says = 2 ∷ [] }
    ∷ record { what = blocks 8 14; says = 2 ∷ [] }
    ∷ record { what = blocks 8 15; says = 3 ∷ [] }
    ∷ record { what = blocks 4 5; says = 2 ∷ [] }
    ∷ record { what = blocks 4 6; says = 2 ∷ [] }
    ∷ record { what = blocks 4 7; says = 3 ∷ [] }
    ∷ record { what = words 8 4 2 2 2; says = 3788 ∷ [] }
    ∷ record { what = words 8 64 32 32 32; says = 20348 ∷ [] }
    ∷ record { what = closing (3 ∷ 0 ∷ 5 ∷ []); says = 3 ∷ 5 ∷ [] }
    ∷ record { what = closing (3 ∷ 5 ∷ []); says = 3 ∷ 5 ∷ [] }
    ∷ []

-- what the rows compute, and what the document says of them
abbrev pub computed : List (List ℕ)
computed = map (λ (r : Row). value r.what) table

abbrev pub said : List (List ℕ)
said = map (λ (r : Row). r.says) table
