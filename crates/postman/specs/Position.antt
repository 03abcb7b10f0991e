-- A postman's position, 'stage, other node, held block', in the memory: 'Settings and memory', 'Turn'.
use Rattle.std.specs.Prelude.{cond, List, ℕ, ◌+◌, ltb, set}
use Rattle.layout.specs.Places.{turn_at, position_at}
use Rattle.sound.specs.Reading.{stage_of, other_of, held_of}
use Rattle.postman.specs.declared.Position.{Position}

-- at that stage, naming node i, holding block x
abbrev pub at : ℕ → ℕ → ℕ → Position
at stage i x = record { stage = stage; other = i; held = x }

-- 'stage 0 with 0, 0'
abbrev pub at_rest : Position
at_rest = at 0 0 0

-- a position amended: 'the stage becomes 1, 2 or 3', and 'A turn that finishes sets stage 0'
abbrev pub stopped_at : Position → ℕ → ℕ → ℕ → Position
stopped_at p stage i x = at stage i x

abbrev pub rested_at : Position → Position
rested_at p = at_rest

-- the position of node j's postman
abbrev pub position_of : List ℕ → ℕ → Position
position_of m j = at (stage_of m j) (other_of m j) (held_of m j)

-- the memory with node j's postman at position p
unfoldable pub standing : List ℕ → ℕ → Position → List ℕ
standing m j p = set (set (set m (position_at j) p.stage) (position_at j + 1) p.other) (position_at j + 2) p.held

-- 'Whose turn always moves on, 5 to 0'
abbrev pub next_turn : ℕ → ℕ
next_turn j = cond (ltb j 5) (j + 1) 0

-- node j's position kept, and the next node's turn
unfoldable pub kept : List ℕ → ℕ → Position → List ℕ
kept m j p = set (standing m j p) turn_at (next_turn j)
