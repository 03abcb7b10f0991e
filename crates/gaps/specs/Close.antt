-- Closing the gaps of a task queue, and the append that closes them first: 'Send'.
use Rattle.std.specs.Prelude.{Bool, cond, ◌&&◌, List, ℕ, zero, suc, ◌+◌, eqb, length, get_or, set, Result}
use Rattle.settings.specs.declared.Settings.{Settings}
use Rattle.layout.specs.Places.{items_word, gap_word}
use Rattle.queues.specs.declared.Kind.{Kind}
use Rattle.queues.specs.declared.Full.{Full}
use Rattle.queues.specs.Queue.{items, slot_at, contents, task_kind}
use Rattle.queues.specs.Moves.{appended, append_answer}
use Rattle.queues.specs.Items.{live}

-- the first n slots from the start slot on hold the first n of xs, and 0 past its end
unfoldable pub laid : Kind → List ℕ → ℕ → List ℕ → ℕ → List ℕ
laid k node q xs zero = node
laid k node q xs (suc n) = set (laid k node q xs n) (slot_at k node q n) (get_or xs n 0)

module _ (s : Settings) (node : List ℕ) (q : ℕ) where
  -- 'live items keep their order and stand from the start slot on, flag 0'
  unfoldable pub closed : List ℕ
  closed =
      let xs = live (contents (task_kind s) node q) in
      set (set (laid (task_kind s) node q xs s.t) (q + items_word) (length xs)) (q + gap_word) 0

  -- 'a task queue at its length .. if the flag is 1'
  unfoldable pub cramped : Bool
  cramped = eqb (items (task_kind s) node q) s.t && eqb (get_or node (q + gap_word) 0) 1

  -- 'closes its gaps first'
  unfoldable pub roomy : List ℕ
  roomy = cond cramped closed node

  -- 'An append to a task queue at its length closes its gaps first if the flag is 1'
  abbrev pub task_appended : ℕ → List ℕ
  task_appended x = appended (task_kind s) roomy q x

  abbrev pub task_answer : Result Unit Full
  task_answer = append_answer (task_kind s) roomy q
