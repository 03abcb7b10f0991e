-- The sixth rule and the marks together: what is asked for, and what is answered, of the letters that blocks begin.
use Rattle.std.specs.Prelude.{◌≡◌, Bool, true, ◌&&◌, List, ℕ, eqb, length, get_or}
use Rattle.words.specs.Words.{all}
use Rattle.settings.specs.declared.Settings.{Settings}
use Rattle.layout.specs.Numbers.{source_node_word, destination_task_word, destination_node_word}
use Rattle.layout.specs.Asked.{Stretch}
use Rattle.tasks.specs.Table.{node_of, is_bound}
use Rattle.sound.specs.Letters.{chain_from, ends_well, words_from, right_length, right_header}
use Rattle.sound.specs.Blocks.{chains}
use Rattle.visits.specs.declared.Asks.{Asks}
use Rattle.visits.specs.declared.Asks.TheVariants.{Any, Between, To}
use Rattle.visits.specs.Marks.{fresh}

-- a chain that was visited to its end, and how many blocks it has
pub record Whole (s : Settings) (words : List ℕ) (b n : ℕ) : Type 0 where
  pub stretch : Stretch s words
  pub ends : ends_well s words b ≡ true
  pub count : n ≡ length (chain_from s words b)

-- a letter whose length is right: its words may be read
pub record Readable (s : Settings) (words : List ℕ) (b : ℕ) : Type 0 where
  pub stretch : Stretch s words
  pub ends : ends_well s words b ≡ true
  pub long : right_length s words b ≡ true

-- the task is bound, and on that node
unfoldable pub is_on : List ℕ → ℕ → ℕ → Bool
is_on table task node = is_bound table task && eqb (node_of table task) node

-- what a place asks for: of a letter's source node, destination task and destination node
unfoldable pub is_asked : Asks → ℕ → ℕ → ℕ → Bool
is_asked Any from task to = true
is_asked (Between i k) from task to = eqb from i && eqb to k
is_asked (To wanted) from task to = eqb task wanted

-- the same of the letter's words
abbrev pub meets : Asks → List ℕ → Bool
meets asks ws = is_asked asks (get_or ws source_node_word 0) (get_or ws destination_task_word 0) (get_or ws destination_node_word 0)

module _ (s : Settings) (stretch table : List ℕ) (asks : Asks) where
  -- the sixth rule, of the letter that block b begins at a place that asks so much
  unfoldable pub letter_right : ℕ → Bool
  letter_right b =
      ends_well s stretch b
      && (right_length s stretch b && (right_header table (words_from s stretch b) && meets asks (words_from s stretch b)))

  -- of the letters that the blocks begin, and none of their blocks has a mark
  unfoldable pub letters_right : List ℕ → List ℕ → Bool
  letters_right marks bs = all letter_right bs && fresh marks (chains s stretch bs)

-- the answer, and the marks where it is yes
pub record Judged (test : Bool) (due : List ℕ) (r : Bool) (new : List ℕ) : Type 0 where
  pub is : r ≡ test
  pub marks : r ≡ true → new ≡ due
