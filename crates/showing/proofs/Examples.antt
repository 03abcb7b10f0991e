-- A list worked through: two letters from task 1 on node 0 to task 2 on node 1, the first of them handed over. Assumes nothing.
use mathlib.Core.Path.{◌≡◌, refl}
use mathlib.Core.List.{List, [], ◌∷◌, ◌++◌}
use Prim.Native.Nat.{ℕ, zero, suc}
use lib.ListN.{replicate}
use Rattle.settings.specs.declared.Settings.{Settings}
use Rattle.settings.specs.Made.{settings_of}
use Rattle.layout.specs.Places.{send_at, task_at, blocks_at, block_at, node_size, node_at}
use Rattle.tasks.specs.Table.{holds_none, is_bound}
use Rattle.blocks.specs.Chain.{list, text}
use Rattle.queues.specs.Queue.{run}
use Rattle.queues.specs.Items.{live}
use Rattle.sound.specs.Letters.{words_from}
use Rattle.showing.specs.List.{handed_over, shown, from_task, from_send, waiting, from_nodes, of_task, of_tasks, listed, laid_out}

abbrev s : Settings
s = settings_of 8 2 2 2 2

-- so many unbound ids
abbrev unbound : ℕ → List ℕ
unbound zero = []
unbound (suc n) = 255 ∷ 0 ∷ unbound n

-- node 0: its send queue for node 1 holds the letters of blocks 1 and 2, with bodies of one word and of none
abbrev first : List ℕ
first =
    (0 ∷ 0 ∷ replicate 5 0)
    ++ ((0 ∷ 2 ∷ 0 ∷ 1 ∷ 2 ∷ replicate 20 0)
    ++ (replicate 30 0
    ++ (replicate 448 0 ++ (1 ∷ 0 ∷ 2 ∷ 1 ∷ 6 ∷ 77 ∷ 0 ∷ 0 ∷ 1 ∷ 0 ∷ 2 ∷ 1 ∷ 5 ∷ 0 ∷ 0 ∷ 0 ∷ []))))

-- node 1: its task queue 0 holds the copy of the first letter, in block 1
abbrev second : List ℕ
second = (2 ∷ 0 ∷ replicate 60 0) ++ ((0 ∷ 1 ∷ 0 ∷ 0 ∷ 0 ∷ 1 ∷ 0 ∷ replicate 441 0) ++ (1 ∷ 0 ∷ 2 ∷ 1 ∷ 6 ∷ 77 ∷ 0 ∷ 0 ∷ replicate 8 0))

-- a node with no letter
abbrev idle : List ℕ
idle = 1 ∷ 0 ∷ (replicate 508 0 ++ (replicate 7 0 ++ (2 ∷ replicate 8 0)))

-- the memory, with node 1's postman at a stage that names node 0
abbrev memory : ℕ → List ℕ
memory stage =
    (8 ∷ 2 ∷ 2 ∷ 2 ∷ 2 ∷ 0 ∷ [])
    ++ ((0 ∷ 0 ∷ 0 ∷ stage ∷ 0 ∷ 0 ∷ replicate 12 0)
    ++ ((255 ∷ 0 ∷ 0 ∷ 0 ∷ 1 ∷ 0 ∷ unbound 253) ++ (first ++ (second ++ (idle ++ (idle ++ (idle ++ idle)))))))

-- stage 3, 'it has been handed over': the first letter is shown in the task queue alone; no other stage leaves it out
worked : (laid_out (listed s (memory 3)) ≡ 2 ∷ 1 ∷ 1 ∷ 1 ∷ 1 ∷ 1 ∷ 2 ∷ 1 ∷ 2 ∷ 0 ∷ 2 ∷ 0 ∷ [])
    × (laid_out (listed s (memory 1)) ≡ 2 ∷ 1 ∷ 1 ∷ 1 ∷ 1 ∷ 1 ∷ 2 ∷ 1 ∷ 2 ∷ 0 ∷ 1 ∷ 1 ∷ 2 ∷ 1 ∷ 2 ∷ 0 ∷ 2 ∷ 0 ∷ [])
unfolding laid_out of_tasks of_task from_task from_send from_nodes waiting handed_over shown live run holds_none is_bound words_from list text node_at node_size send_at task_at block_at blocks_at
worked = (refl, refl)
