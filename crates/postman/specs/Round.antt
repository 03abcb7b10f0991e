-- A turn so far, and how its stages follow one another: 'Turn'.
use Rattle.std.specs.Prelude.{List, ℕ, ◌+◌}
use Rattle.postman.specs.declared.Stage.{Stage}
use Rattle.postman.specs.declared.Stage.TheVariants.{Done, Stopped}
use Rattle.postman.specs.declared.Round.{Round}
use Rattle.postman.specs.Position.{at, at_rest}

-- 'A turn that finishes sets stage 0'
abbrev pub at_start : Round
at_start = record { position = at_rest; letters = 0; back = 0; how = Done }

-- 'the stage becomes 1, 2 or 3': at node i, holding block x, with how the stage ended
abbrev pub stopped : Round → ℕ → ℕ → ℕ → Stage → Round
stopped r stage i x how = record { position = at stage i x; letters = r.letters; back = r.back; how = how }

abbrev pub one_letter : Round → Round
one_letter r = record { position = r.position; letters = r.letters + 1; back = r.back; how = r.how }

abbrev pub blocks_back : Round → ℕ → Round
blocks_back r n = record { position = r.position; letters = r.letters; back = r.back + n; how = r.how }

-- the memory that a stage leaves, and how it ended
pub record Did : Type 0 where
  pub memory : List ℕ
  pub how : Stage

abbrev pub did : List ℕ → Stage → Did
did m how = record { memory = m; how = how }

-- the memory, and the turn so far
pub record Post : Type 0 where
  pub memory : List ℕ
  pub round : Round

abbrev pub post : List ℕ → Round → Post
post m r = record { memory = m; round = r }

-- one thing where a stage was done, another where it stopped
abbrev pub on_stage {ℓ} : {A : Type ℓ} → Stage → A → A → A
on_stage Done stop go = go
on_stage (Stopped n) stop go = stop

-- 'A stage that stops ends the turn there, with its number'
unfoldable pub stage : Did → (Stage → Round) → (List ℕ → Post) → Post
stage d stop go = on_stage d.how (post d.memory (stop d.how)) (go d.memory)

-- first p, and then, where it did not stop, f
unfoldable pub and_then : Post → (List ℕ → Round → Post) → Post
and_then p f = on_stage p.round.how p (f p.memory p.round)

-- first p, and then f
unfoldable pub into : Post → (List ℕ → Round → Post) → Post
into p f = f p.memory p.round
