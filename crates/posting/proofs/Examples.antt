-- Letters posted in a fresh node with the program's settings, until blocks or room are wanting, as the checker computes them. Assumes nothing.
use Rattle.std.specs.Prelude.{Err, Ok}
use mathlib.Core.Path.{◌≡◌, refl}
use mathlib.Core.List.{List, [], ◌∷◌, ◌++◌}
use Prim.Native.Nat.{ℕ, ◌+◌}
use lib.ListN.{length, get_or, set, replicate}
use Rattle.settings.specs.declared.Settings.{Settings}
use Rattle.layout.specs.Places.{room_at, send_at, task_at, gap_word, blocks_at, block_at, node_size}
use Rattle.words.specs.Words.{more}
use Rattle.blocks.specs.Chain.{needs, list, chain, text, free}
use Rattle.blocks.specs.Moves.{enough, taken, taken_from}
use Rattle.letters.specs.declared.Header.{Header}
use Rattle.letters.specs.Letter.{letter, laid}
use Rattle.letters.specs.Made.{letter_of}
use Rattle.queues.specs.Queue.{send_kind, task_kind, run, contents}
use Rattle.queues.specs.Items.{live}
use Rattle.queues.specs.Moves.{counted, added, appended, append_answer}
use Rattle.gaps.specs.Close.{laid as laid_row, closed, cramped, roomy}
use Rattle.posting.specs.Post.{Posted, has_room, appended_to, full_of, put_in, posted}
use Rattle.posting.specs.declared.Goal.{Goal}
use Rattle.posting.specs.declared.Goal.TheVariants.{Task, Node}
use Rattle.posting.specs.declared.SendRefusal.TheVariants.{TooFewBlocks, QueueFull}

-- 'Settings 8, 4, 2, 2, 2'
abbrev s : Settings
s = record { b = 8; m = 4; s = 2; a = 2; t = 2 }

abbrev block : ℕ → List ℕ
block link = replicate 7 0 ++ link ∷ []

abbrev fresh : List ℕ
fresh = 1 ∷ 0 ∷ (replicate 508 0 ++ (block 2 ++ (block 3 ++ (block 4 ++ block 0))))

-- 'tasks 7 (node 2, queue 5), 27 (node 2, queue 4), 52 (node 3, queue 16)'
abbrev afar : Header
afar = record { source = 27; from = 2; destination = 52; to = 3 }

abbrev near : Header
near = record { source = 27; from = 2; destination = 7; to = 2 }

-- letters posted one after the other to one goal
abbrev after₁ : Goal → List ℕ → Posted
after₁ goal ws = posted s fresh goal ws

abbrev after₂ : Goal → List ℕ → List ℕ → Posted
after₂ goal ws vs = posted s (after₁ goal ws).stretch goal vs

abbrev after₃ : Goal → List ℕ → List ℕ → List ℕ → Posted
after₃ goal ws vs us = posted s (after₂ goal ws vs).stretch goal us

-- the first three lines of the program's output: done with two blocks, again, and then too few blocks
pub sends_afar : ((after₁ (Node 3) (letter_of afar (100 ∷ 101 ∷ 102 ∷ []))).answer ≡ Ok (record { blocks = 2 }))
    × ((after₂ (Node 3) (letter_of afar (100 ∷ 101 ∷ 102 ∷ [])) (letter_of afar (200 ∷ 201 ∷ 202 ∷ []))).answer ≡ Ok (record { blocks = 2 }))
    × ((after₃ (Node 3) (letter_of afar (100 ∷ 101 ∷ 102 ∷ [])) (letter_of afar (200 ∷ 201 ∷ 202 ∷ [])) (letter_of afar [])).answer ≡ Err TooFewBlocks)
unfolding needs list enough taken taken_from laid run counted more added appended append_answer has_room appended_to full_of put_in posted letter_of send_at blocks_at block_at
sends_afar = (refl, refl, refl)

-- and what they leave: two letters that are read back, no block free, the room count 1
pub leaves_afar : (let m = (after₃ (Node 3) (letter_of afar (100 ∷ 101 ∷ 102 ∷ [])) (letter_of afar (200 ∷ 201 ∷ 202 ∷ [])) (letter_of afar [])).stretch in
    (contents (send_kind s) m (send_at s 3) ≡ 1 ∷ 3 ∷ [])
    × (letter s m 8 1 ≡ 27 ∷ 2 ∷ 52 ∷ 3 ∷ 8 ∷ 100 ∷ 101 ∷ 102 ∷ [])
    × (letter s m 8 3 ≡ 27 ∷ 2 ∷ 52 ∷ 3 ∷ 8 ∷ 200 ∷ 201 ∷ 202 ∷ [])
    × (free s m ≡ [])
    × (get_or m room_at 0 ≡ 1))
unfolding needs list chain text enough taken taken_from letter laid run counted more added appended append_answer has_room appended_to full_of put_in posted letter_of send_at blocks_at block_at
leaves_afar = (refl, refl, refl, refl, refl)

-- to a task queue of the node, a block each: done, done, and the queue is full; but for its full count the stretch is as it was
pub sends_near : ((after₂ (Task 5) (letter_of near []) (letter_of near [])).answer ≡ Ok (record { blocks = 1 }))
    × ((after₃ (Task 5) (letter_of near []) (letter_of near []) (letter_of near [])).answer ≡ Err QueueFull)
    × ((after₃ (Task 5) (letter_of near []) (letter_of near []) (letter_of near [])).stretch ≡ set (after₂ (Task 5) (letter_of near []) (letter_of near [])).stretch (task_at s 5 + 3) 1)
    × (contents (task_kind s) (after₂ (Task 5) (letter_of near []) (letter_of near [])).stretch (task_at s 5) ≡ 1 ∷ 2 ∷ [])
unfolding needs list enough taken taken_from laid run live counted more added appended append_answer laid_row closed cramped roomy has_room appended_to full_of put_in posted letter_of task_at blocks_at block_at
sends_near = (refl, refl, refl, refl)

-- the second item is a gap: it is closed, and the queue takes one more
abbrev gapped : List ℕ
gapped = set (set (after₂ (Task 5) (letter_of near []) (letter_of near [])).stretch (task_at s 5 + 6) 0) (task_at s 5 + gap_word) 1

pub sends_gapped : ((posted s gapped (Task 5) (letter_of near (9 ∷ []))).answer ≡ Ok (record { blocks = 1 }))
    × (contents (task_kind s) (posted s gapped (Task 5) (letter_of near (9 ∷ []))).stretch (task_at s 5) ≡ 1 ∷ 3 ∷ [])
    × (get_or (posted s gapped (Task 5) (letter_of near (9 ∷ []))).stretch (task_at s 5 + gap_word) 0 ≡ 0)
unfolding needs list enough taken taken_from laid run live counted more added appended append_answer laid_row closed cramped roomy has_room appended_to full_of put_in posted letter_of task_at blocks_at block_at
sends_gapped = (refl, refl, refl)

-- the stretch is as long as the settings say
pub long : length fresh ≡ node_size s
unfolding node_size
long = refl
