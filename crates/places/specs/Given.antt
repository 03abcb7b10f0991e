-- What is known of a memory once its size, its table, its queues and its positions are looked at, and what is asked of a node then.
use Rattle.std.specs.Prelude.{◌≡◌, Bool, true, cond, ◌&&◌, List, [], ◌++◌, ℕ, zero, suc, ◌+◌, ◌<◌, eqb, leb, get_or}
use Rattle.words.specs.Words.{every, all}
use Rattle.settings.specs.declared.Settings.{Settings}
use Rattle.layout.specs.Places.{nodes, first_free_at, node}
use Rattle.layout.specs.Asked.{Sized}
use Rattle.tasks.specs.Table.{right_table}
use Rattle.queues.specs.Queue.{Queue, contents}
use Rattle.queues.specs.Items.{live}
use Rattle.sound.specs.Reading.{table_in, stage_of, other_of, held_of}
use Rattle.sound.specs.Queues.{right_queues}
use Rattle.sound.specs.Letters.{chain_from, ends_well, right_letter}
use Rattle.sound.specs.Positions.{names_other}
use Rattle.sound.specs.Blocks.{chains, begun, standing, right_letters}
use Rattle.shapes.specs.Seats.{Seats}
use Rattle.visits.specs.Marks.{fresh}
use Rattle.places.specs.declared.Place.{Place}

-- the fourth rule but for the comparison of the two letters
unfoldable pub stands_right : Settings → List ℕ → ℕ → Bool
stands_right s memory j =
    cond (eqb (stage_of memory j) 0) (eqb (other_of memory j) 0 && eqb (held_of memory j) 0)
    (leb (stage_of memory j) 3
    && (names_other s memory j
    && cond (eqb (stage_of memory j) 2) (leb 1 (held_of memory j) && leb (held_of memory j) s.m) (eqb (held_of memory j) 0)))

-- the first three rules hold, and the fourth but for the letters
pub record Looked (s : Settings) (memory : List ℕ) : Type 0 where
  pub sized : Sized s memory
  pub table : right_table (table_in memory) ≡ true
  pub queues : (i : ℕ) → i < nodes → right_queues s memory i ≡ true
  pub positions : (i : ℕ) → i < nodes → stands_right s memory i ≡ true

-- node i of such a memory, with the row of seats
pub record Node (s : Settings) (memory row : List ℕ) (i : ℕ) : Type 0 where
  pub looked : Looked s memory
  pub small : i < nodes
  pub seats : Seats (table_in memory) row

-- the first blocks of the letters that stand there
abbrev pub begun_at : Settings → List ℕ → Place → List ℕ
begun_at s memory x = live (contents x.queue.kind (node s memory x.holder) x.queue.at)

-- its queue may be gone over
pub record Stands (s : Settings) (memory : List ℕ) (x : Place) : Type 0 where
  pub there : x.holder < nodes
  pub queue : Queue x.queue.kind (node s memory x.holder) x.queue.at

-- the free list ends well, and none of its blocks has a mark
unfoldable pub free_right : Settings → List ℕ → List ℕ → Bool
free_right s stretch marks =
    ends_well s stretch (get_or stretch first_free_at 0) && fresh marks (chain_from s stretch (get_or stretch first_free_at 0))

module _ (s : Settings) (memory : List ℕ) (i : ℕ) where
  -- the blocks in the chains of the letters at the n places from p on
  unfoldable pub standing_from : ℕ → ℕ → List ℕ
  standing_from p zero = []
  standing_from p (suc n) = standing_from p n ++ chains s (node s memory i) (begun s memory i (p + n))

  -- the letters at these places are right, and none of their blocks has a mark
  unfoldable pub range_right : List ℕ → ℕ → ℕ → Bool
  range_right marks p n =
      every n (λ k. all (right_letter s (node s memory i) (table_in memory) i (p + k)) (begun s memory i (p + k))) && fresh marks (standing_from p n)

  -- the same of all places
  unfoldable pub places_right : List ℕ → Bool
  places_right marks = right_letters s memory i && fresh marks (standing s memory i 77)

-- the blocks 1 to m have a mark
unfoldable pub all_marked : ℕ → List ℕ → Bool
all_marked m marks = every m (λ b. eqb (get_or marks (suc b) 0) 1)
