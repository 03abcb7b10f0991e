-- The letters that a node's blocks begin, read through their chains, and the sixth rule of a sound memory.
use Rattle.std.specs.Prelude.{Bool, true, ◌&&◌, List, ℕ, ◌-◌, eqb, leb, length, get_or, take}
use Rattle.words.specs.Words.{all}
use Rattle.settings.specs.declared.Settings.{Settings}
use Rattle.layout.specs.Numbers.{header_words, greatest_length, source_task_word, source_node_word, destination_task_word, destination_node_word, length_word}
use Rattle.layout.specs.Rows.{by_row}
use Rattle.tasks.specs.Table.{node_of, is_bound}
use Rattle.blocks.specs.Chain.{needs, after, list, text}
use Rattle.sound.specs.Queues.{task_of}

module _ (s : Settings) (stretch : List ℕ) where
  -- the chain that block b begins: its blocks up to a link 0, M at most
  abbrev pub chain_from : ℕ → List ℕ
  chain_from b = list s stretch s.m b

  -- the chain goes over blocks 1 to M, and ends with a link 0
  unfoldable pub ends_well : ℕ → Bool
  ends_well b = all (λ x. leb 1 x && leb x s.m) (chain_from b) && eqb (after s stretch (length (chain_from b)) b) 0

  -- the length that the letter tells, and its words, header and body
  abbrev pub told_length : ℕ → ℕ
  told_length b = get_or (text s stretch (chain_from b)) length_word 0

  unfoldable pub words_from : ℕ → List ℕ
  words_from b = take (told_length b) (text s stretch (chain_from b))

  -- 'a valid length, the blocks it needs'
  unfoldable pub right_length : ℕ → Bool
  right_length b =
      leb header_words (told_length b) && (leb (told_length b) greatest_length && eqb (length (chain_from b)) (needs s (told_length b)))

-- 'a header of bound tasks on their nodes'
unfoldable pub right_header : List ℕ → List ℕ → Bool
right_header table ws =
    is_bound table (get_or ws source_task_word 0)
    && (eqb (node_of table (get_or ws source_task_word 0)) (get_or ws source_node_word 0)
    && (is_bound table (get_or ws destination_task_word 0)
    && eqb (node_of table (get_or ws destination_task_word 0)) (get_or ws destination_node_word 0)))

-- from node i to node k
abbrev pub from_to : ℕ → ℕ → List ℕ → Bool
from_to i k ws = eqb (get_or ws source_node_word 0) i && eqb (get_or ws destination_node_word 0) k

-- a node's places for letters are numbered as its rows: 0 the postman's hand, 1-6 its send queues, 7-12 the acknowledge queues for it on
-- nodes 0 to 5, 13-76 its task queues
-- 'Send queue k on i: from i to k. Acknowledge queue i on j: from i to j. A task queue: that task'
unfoldable pub right_place : List ℕ → ℕ → ℕ → List ℕ → Bool
right_place table i p ws =
    by_row p true (from_to i (p - 1) ws) (from_to i (p - 7) ws) (eqb (get_or ws destination_task_word 0) (task_of table i (p - 13))) true

-- the sixth rule, of the letter that block b begins at place p of node i
unfoldable pub right_letter : Settings → List ℕ → List ℕ → ℕ → ℕ → ℕ → Bool
right_letter s stretch table i p b =
    ends_well s stretch b
    && (right_length s stretch b
    && (right_header table (words_from s stretch b) && right_place table i p (words_from s stretch b)))
