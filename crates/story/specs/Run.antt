-- The run: three tasks on two nodes, four letters, a queue full at each of two stages.
use Rattle.std.specs.Prelude.{List, [], ◌∷◌, ℕ, zero, suc, replicate}
use Rattle.history.specs.Runs.{Call, SetsUp, Sends, Receives, Turns, Past, sent_letter, after_call}

-- n ids that are bound to none
abbrev pub unbound : ℕ → List ℕ
unbound zero = []
unbound (suc n) = 255 ∷ 0 ∷ unbound n

-- task 1 on node 0, queue 0; tasks 2 and 3 on node 1, queues 0 and 1
abbrev pub table : List ℕ
table = 255 ∷ 0 ∷ 0 ∷ 0 ∷ 1 ∷ 0 ∷ 1 ∷ 1 ∷ unbound 252

-- a set-up with B = 8, M = 4, S = 3, A = T = 2, in 3,824 words
abbrev pub start : Past
start = after_call (record { memory = replicate 3824 0; accepted = []; received = [] }) (SetsUp 8 4 3 2 2 table)

-- a letter from task 1 with one word of body
abbrev pub one : ℕ → ℕ → List ℕ
one to word = sent_letter table 1 to (word ∷ [])

-- three letters, the turns of nodes 0 and 1: the second finds its acknowledge queue full, and stops at stage 3
abbrev pub early : List Call
early = Sends 1 2 (7 ∷ []) ∷ Sends 1 3 (8 ∷ []) ∷ Sends 1 2 (9 ∷ []) ∷ Turns ∷ Turns ∷ []

-- another letter, the turns of nodes 2 to 5, of 0, which empties that queue, and of 1: it resumes, finds a task queue full, and stops at stage 2
abbrev pub middle : List Call
middle = Sends 1 2 (10 ∷ []) ∷ Turns ∷ Turns ∷ Turns ∷ Turns ∷ Turns ∷ Turns ∷ []

-- a letter is received, the turns of nodes 2 to 5, of 0 and of 1, which resumes and finishes
abbrev pub late : List Call
late = Receives 2 0 (0 ∷ 0 ∷ []) ∷ Turns ∷ Turns ∷ Turns ∷ Turns ∷ Turns ∷ Turns ∷ []
