-- A memory represents a machine between calls: what holds at every moment, what the other words show, and that the machine is well formed.
use Rattle.std.specs.Prelude.{◌≡◌, true, List, [], map, ℕ, ◌+◌, ◌≤◌, ◌<◌, length, get_or, take}
use Rattle.settings.specs.declared.Settings.{Settings}
use Rattle.layout.specs.Places.{gap_word, memory_size}
use Rattle.layout.specs.Numbers.{header_words, greatest_length, length_word}
use Rattle.tasks.specs.Table.{right_table}
use Rattle.queues.specs.Items.{gap_flag}
use Rattle.queues.proofs.Items.{FirstLive}
use Rattle.sound.specs.Reading.{settings_in, turn_in, stage_of, other_of, held_of, table_in}
use Rattle.sound.specs.Queues.{task_of}
use Rattle.sound.specs.Letters.{right_header, right_place}
use Rattle.machine.specs.Machine.{firsts, Live, words_of, Node, Machine, All, transit}
use Rattle.machine.specs.Core.{rows_of, Core}

-- 'a valid length .. and a header of bound tasks on their nodes', at place p of node i
pub record Right (table : List ℕ) (i p : ℕ) (ws : List ℕ) : Type 0 where
  pub least : header_words ≤ length ws
  pub most : length ws ≤ greatest_length
  pub told : get_or ws length_word 0 ≡ length ws
  pub header : right_header table ws ≡ true
  pub place : right_place table i p ws ≡ true

-- 'stage 0 with 0, 0; stages 1, 2 and 3 name another node whose send queue to this one has an item; only stage 2 holds a block (else 0),
-- and the letter in its chain equals the first letter of that queue, header and body'
pub record RightPosition (m : Machine) (j : ℕ) : Type 0 where
  pub none : m.stage j ≡ 0 → m.other j ≡ 0
  pub most : m.stage j ≤ 3
  pub names : 1 ≤ m.stage j → m.other j ≤ 5
  pub another : 1 ≤ m.stage j → m.other j ≡ j → ⊥
  pub waits : 1 ≤ m.stage j → 1 ≤ length ((m.node (m.other j)).letters (1 + j))
  pub hand : (m.stage j ≡ 2 → ⊥) → (m.node j).letters 0 ≡ []
  pub copy : m.stage j ≡ 2 → map words_of ((m.node j).letters 0) ≡ take 1 (map words_of ((m.node (m.other j)).letters (1 + j)))

-- the rules of a sound memory that speak of letters and queues, of nodes with no letter on its way
pub record InOrder (table : List ℕ) (N : ℕ → Node) : Type 0 where
  pub still : (i : ℕ) → i < 6 → (N i).letters transit ≡ []
  -- gaps stand in task queues alone; 'a task queue's first item is not 0'
  pub live : (i p : ℕ) → i < 6 → p < 13 → All Live ((N i).letters p)
  pub fronts : (i q : ℕ) → i < 6 → q < 64 → FirstLive (firsts ((N i).letters (13 + q)))
  -- 'a node's queues to itself and task queues bound to no task have no items'
  pub itself : (i : ℕ) → i < 6 → (N i).letters (1 + i) ≡ []
  pub itself_ack : (i : ℕ) → i < 6 → (N i).letters (7 + i) ≡ []
  pub unbound : (i q : ℕ) → i < 6 → q < 64 → task_of table i q ≡ 0 → (N i).letters (13 + q) ≡ []
  pub letters : (i p : ℕ) → i < 6 → p < 77 → All (λ L. Live L → Right table i p L.words) ((N i).letters p)

-- and those that speak of turn and positions
pub record WellFormed (table : List ℕ) (m : Machine) : Type 0 where
  pub turn : m.turn ≤ 5
  pub order : InOrder table m.node
  pub positions : (j : ℕ) → j < 6 → RightPosition m j

-- 'the gap flag is 1 exactly when an item is 0, otherwise 0'
abbrev pub Flagged : (ℕ → ℕ → List ℕ) → (ℕ → Node) → Type 0
Flagged R N = (i q : ℕ) → i < 6 → q < 64 → get_or (R i (13 + q)) gap_word 0 ≡ gap_flag (firsts ((N i).letters (13 + q)))

-- the words besides the slots and the blocks: whose turn, positions, flags
pub record Shows (s : Settings) (memory : List ℕ) (m : Machine) : Type 0 where
  pub turn : turn_in memory ≡ m.turn
  pub stage : (j : ℕ) → j < 6 → stage_of memory j ≡ m.stage j
  pub other : (j : ℕ) → j < 6 → other_of memory j ≡ m.other j
  pub hand : (j : ℕ) → j < 6 → held_of memory j ≡ get_or (firsts ((m.node j).letters 0)) 0 0
  pub flags : Flagged (rows_of s memory) m.node

-- with settings s
pub record RepresentsAt (s : Settings) (memory : List ℕ) (m : Machine) : Type 0 where
  pub size : length memory ≡ memory_size s
  pub table : right_table (table_in memory) ≡ true
  pub core : Core s (rows_of s memory) m.node
  pub shows : Shows s memory m
  pub formed : WellFormed (table_in memory) m

-- with the settings that stand in it
abbrev pub Represents : List ℕ → Machine → Type 0
Represents memory m = RepresentsAt (settings_in memory) memory m
