-- What a move makes of rows and nodes: one row put anew; letters between a place and the transit place; blocks between the free list and it;
-- and what holds between the moves of a call.
use mathlib.Core.Path.{◌≡◌}
use mathlib.Core.List.{List, [], ◌∷◌}
use mathlib.Core.Bool.{cond}
use Prim.Native.Nat.{ℕ, zero, suc}
use lib.Dec.{eqb}
use lib.ListN.{length, set}
use Rattle.words.proofs.Lists.{put}
use Rattle.settings.specs.declared.Settings.{Settings}
use Rattle.layout.specs.Places.{memory_size}
use Rattle.machine.specs.Machine.{Letter, gap, first, Node, transit}
use Rattle.machine.specs.Core.{rows_of, Core}
use Rattle.machine.specs.Represents.{InOrder, Flagged}

-- row q of node j put anew
unfoldable pub put_row : (ℕ → ℕ → List ℕ) → ℕ → ℕ → List ℕ → ℕ → ℕ → List ℕ
put_row R j q w = put R j (put (R j) q w)

-- the letters of place p are ls, and those on their way hs
unfoldable pub moved : Node → ℕ → List Letter → List Letter → Node
moved N p ls hs = record { free = N.free; letters = put (put N.letters p ls) transit hs }

-- the free list is fr, and the letters on their way hs
unfoldable pub freed : Node → List ℕ → List Letter → Node
freed N fr hs = record { free = fr; letters = put N.letters transit hs }

-- the free list is fr, and the letters of place p are ls
unfoldable pub placed : Node → List ℕ → ℕ → List Letter → Node
placed N fr p ls = record { free = fr; letters = put N.letters p ls }

-- the letters behind the gaps at the front
unfoldable pub after_gaps : List Letter → List Letter
after_gaps [] = []
after_gaps (L ∷ ls) = cond (eqb (first L) 0) (after_gaps ls) (L ∷ ls)

-- the letter at place i of a task queue taken out: the first with the gaps directly behind it, one further in leaves a gap
unfoldable pub letters_without : ℕ → List Letter → List Letter
letters_without i [] = []
letters_without zero (L ∷ ls) = after_gaps ls
letters_without (suc i) (L ∷ ls) = L ∷ set ls i gap

-- between the moves of a call: all that a machine is, but for whose turn it is and the postmen's positions
pub record Working (s : Settings) (table memory : List ℕ) (N : ℕ → Node) : Type 0 where
  pub size : length memory ≡ memory_size s
  pub core : Core s (rows_of s memory) N
  pub order : InOrder table N
  pub flags : Flagged (rows_of s memory) N
