-- What the functions of list ask for, and what letters laid by their tasks' ranks leave in the ranks and in out.
use Rattle.std.specs.Prelude.{◌≡◌, true, cond, List, [], ◌∷◌, ◌++◌, ℕ, zero, suc, ◌+◌, ◌*◌, ◌/◌, ◌%◌, ◌≤◌, ◌<◌, leb, length, get_or, set}
use Rattle.std.proofs.lemmas.List.Edits.{sets}
use Rattle.words.specs.Count.{sum}
use Rattle.settings.specs.declared.Settings.{Settings}
use Rattle.layout.specs.Places.{nodes, task_ids}
use Rattle.layout.specs.Numbers.{list_words, destination_task_word}
use Rattle.tasks.specs.Table.{node_of, queue_of, is_bound}
use Rattle.queues.specs.Items.{live}
use Rattle.sound.specs.Reading.{settings_in, table_in, task_items}
use Rattle.sound.specs.Sound.{sound}
use Rattle.showing.specs.declared.Shown.{Shown}
use Rattle.showing.specs.List.{laid_out, word_in, shown, from_task, waiting}

-- a sound memory, and its settings
pub record Asked (s : Settings) (memory : List ℕ) : Type 0 where
  pub holds : sound memory ≡ true
  pub is : s ≡ settings_in memory

-- a letter laid behind n letters in out; one that out has no room for is not laid
unfoldable pub laid_at : Shown → ℕ → List ℕ → List ℕ
laid_at x n out = cond (leb (n * list_words + list_words) (length out)) (sets out (n * list_words) (laid_out (x ∷ []))) out

-- each task's rank, which is the number of letters that come before its next one, and out
pub record Rows : Type 0 where
  pub ranks : List ℕ
  pub out : List ℕ

-- letters laid in the order given, each at its task's rank, which rises by one
unfoldable pub placed : List Shown → Rows → Rows
placed [] r = r
placed (x ∷ xs) r =
    placed xs
    (record {
      ranks = set r.ranks x.destination (get_or r.ranks x.destination 0 + 1);
      out = laid_at x (get_or r.ranks x.destination 0) r.out;
    })

-- there is a rank for each task, and each can rise by so many letters more: a rank is one word
pub record Low (ranks : List ℕ) (more : ℕ) : Type 0 where
  pub long : length ranks ≡ task_ids
  pub few : (t : ℕ) → get_or ranks t 0 + more ≤ 4294967295

module _ (s : Settings) (memory : List ℕ) where
  -- the letters of a task's queue, first to last
  unfoldable pub kept_of : ℕ → List Shown
  kept_of task =
      cond (is_bound (table_in memory) task)
      (from_task s memory task (node_of (table_in memory) task) (live (task_items s memory (node_of (table_in memory) task) (queue_of (table_in memory) task))))
      []

  -- those of the tasks below n
  unfoldable pub kept_below : ℕ → List Shown
  kept_below zero = []
  kept_below (suc n) = kept_below n ++ kept_of n

  -- the letters that wait in node j, each for the task that its header names
  unfoldable pub sent_from : ℕ → List ℕ → List Shown
  sent_from j [] = []
  sent_from j (b ∷ bs) = shown s memory (word_in s memory j b destination_task_word) 2 j b ∷ sent_from j bs

  -- those of the first c send queues: for node 0 in nodes 0 to 5, then for node 1, and so on
  unfoldable pub sent_below : ℕ → List Shown
  sent_below zero = []
  sent_below (suc c) = sent_below c ++ sent_from (c % nodes) (waiting s memory (c / nodes) (c % nodes))

  -- all letters: those of the tasks' queues, then those that wait
  unfoldable pub every_letter : List Shown
  every_letter = kept_below task_ids ++ sent_below (nodes * nodes)

-- a row's number for each task
abbrev pub numbers : List ℕ → ℕ → ℕ
numbers row task = get_or row task 0

-- each task's rank is the number of letters of the tasks before it, and r that of all
pub record Ranked (letters : ℕ → ℕ) (ranks : List ℕ) (r : ℕ) : Type 0 where
  pub long : length ranks ≡ task_ids
  pub each : (t : ℕ) → t < task_ids → get_or ranks t 0 ≡ sum t letters
  pub all : r ≡ sum task_ids letters
