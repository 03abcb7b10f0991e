-- What a turn does to the machine that a memory spells: 'Turn'.
use Rattle.std.specs.Prelude.{◌≡◌, List, ℕ, length, Result, Ok, Err}
use Rattle.machine.specs.Machine.{Machine}
use Rattle.stages_keep.specs.Way.{SameWay, Carries}
use Rattle.postman.specs.Position.{next_turn}
use Rattle.turn.specs.declared.Turned.{Turned}
use Rattle.turn.specs.declared.TurnRefusal.{TurnRefusal}

-- 'letters appended to task queues', as the answer tells them
abbrev pub letters_of : Result Turned TurnRefusal → ℕ
letters_of (Ok turned) = turned.letters
letters_of (Err _) = 0

-- the turn of node j, finished or stopped
pub record Turns (table : List ℕ) (before after : Machine) (j letters : ℕ) : Type 0 where
  -- the letters that its postman appended to task queues, in their order; they were the first that waited in their nodes for j
  pub news : List (List ℕ)
  pub carried : Carries table j before after news
  -- so many as the answer tells
  pub count : letters ≡ length news
  -- for every sender and receiver the letters on the way are the same letters in the same order
  pub way : SameWay table before after
  -- 'Whose turn always moves on'
  pub next : after.turn ≡ next_turn j
