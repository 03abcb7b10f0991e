-- Two small sound memories that examples break in each of the rules.
use Rattle.std.specs.Prelude.{List, [], ◌∷◌, ℕ, zero, suc, ◌+◌, set}
use Rattle.settings.specs.declared.Settings.{Settings}
use Rattle.settings.specs.Made.{settings_of}
use Rattle.layout.specs.Places.{first_free_at, items_word, queue_head, task_head, position_at, send_at, task_at, block_at, link_at, node_at}
use Rattle.setup.specs.Fresh.{fresh_memory}

-- B = 4, M = 3, S = A = T = 2
abbrev pub small : Settings
small = settings_of 4 3 2 2 2

-- n ids that are bound to none
abbrev pub unbound : ℕ → List ℕ
unbound zero = []
unbound (suc n) = 255 ∷ 0 ∷ unbound n

-- task 1 on node 2, queue 5; task 2 on node 2, queue 4; task 3 on node 3, queue 16
abbrev pub table : List ℕ
table = 255 ∷ 0 ∷ 2 ∷ 5 ∷ 2 ∷ 4 ∷ 3 ∷ 16 ∷ unbound 252

-- a word of node i's stretch put anew
abbrev pub put : ℕ → ℕ → ℕ → List ℕ → List ℕ
put i at v memory = set memory (node_at small i + at) v

-- a letter of node 2 from task 2 to task 1, with no body: blocks 1 and 2 of node 2, first in task queue 5
abbrev pub good : List ℕ
good =
    put 2 first_free_at 3
    (put 2 (block_at small 1) 2 (put 2 (block_at small 1 + 1) 2 (put 2 (block_at small 1 + 2) 1
    (put 2 (block_at small 2) 2 (put 2 (block_at small 2 + 1) 5 (put 2 (link_at small 2) 0
    (put 2 (task_at small 5 + items_word) 1 (put 2 (task_at small 5 + task_head) 1
    (fresh_memory small table)))))))))

-- a letter with one word of body on its way from task 2 to task 3: in blocks 1 and 2 of node 2, first in the send queue to node 3, and copied
-- into blocks 1 and 2 of node 3, whose postman holds it in stage 2
abbrev pub letter : ℕ → List ℕ → List ℕ
letter i memory =
    put i first_free_at 3
    (put i (block_at small 1) 2 (put i (block_at small 1 + 1) 2 (put i (block_at small 1 + 2) 3
    (put i (block_at small 2) 3 (put i (block_at small 2 + 1) 6 (put i (block_at small 2 + 2) 99 (put i (link_at small 2) 0 memory)))))))

abbrev pub carried : List ℕ
carried =
    set (set (set (put 2 (send_at small 3 + items_word) 1 (put 2 (send_at small 3 + queue_head) 1 (letter 2 (letter 3 (fresh_memory small table)))))
    (position_at 3) 2) (position_at 3 + 1) 2) (position_at 3 + 2) 1
