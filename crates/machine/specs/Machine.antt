-- A machine: six nodes, each with its free list and its letters by place, the postmen's positions, and whose turn it is.
use Rattle.std.specs.Prelude.{List, [], ◌∷◌, map, ℕ, zero, ◌+◌, ◌≤◌, length, get_or}
use Rattle.words.specs.Count.{occurs}

-- a letter: the blocks of its chain, and its words, header and body. A gap of a task queue is the letter with no block and no word
pub record Letter : Type 0 where
  pub chain : List ℕ
  pub words : List ℕ

abbrev pub gap : Letter
gap = record { chain = []; words = [] }

-- the block that begins it, 0 for a gap; and those of the letters of a queue: its items
abbrev pub first : Letter → ℕ
first L = get_or L.chain 0 0

abbrev pub firsts : List Letter → List ℕ
firsts ls = map first ls

-- it has a block: it is no gap
abbrev pub Live : Letter → Type 0
Live L = 1 ≤ length L.chain

-- its words, and those of the letters of a queue
abbrev pub words_of : Letter → List ℕ
words_of L = L.words

-- a node: its free list, and its letters by place. Places are numbered as rows: 0 the postman's hand, 1-6 its send queues, 7-12 the
-- acknowledge queues for it on nodes 0 to 5, 13-76 its task queues; and 77, a letter on its way within a call
pub record Node : Type 0 where
  pub free : List ℕ
  pub letters : ℕ → List Letter

abbrev pub transit : ℕ
transit = 77

-- by node: the stage of its postman, the other node that the position names, the node
pub record Machine : Type 0 where
  pub turn : ℕ
  pub stage : ℕ → ℕ
  pub other : ℕ → ℕ
  pub node : ℕ → Node

-- each of the list is so
abbrev pub All {ℓ} : {A : Type ℓ} → (A → Type 0) → List A → Type 0
All P [] = Unit {0}
All P (x ∷ xs) = P x × All P xs

-- how often block b stands in the chains of the letters
abbrev pub many : ℕ → List Letter → ℕ
many b [] = zero
many b (L ∷ ls) = occurs b L.chain + many b ls
