-- What a turn answers and leaves, for any memory: 'Turn', 'What comes back'.
use Rattle.std.specs.Prelude.{cond, List, ℕ, Result, Ok, Err}
use Rattle.sound.specs.Reading.{settings_in, turn_in}
use Rattle.sound.specs.Sound.{sound}
use Rattle.answers.specs.declared.Answer.{Answer}
use Rattle.answers.specs.Numbers.{bare, done, not_sound}
use Rattle.postman.specs.declared.Stage.{Stage}
use Rattle.postman.specs.declared.Stage.TheVariants.{Done, Stopped}
use Rattle.postman.specs.declared.Round.{Round}
use Rattle.postman.specs.Position.{position_of, kept}
use Rattle.postman.specs.Round.{at_start}
use Rattle.stages_keep.specs.Steps.{gone}
use Rattle.turn.specs.declared.Turned.{Turned}
use Rattle.turn.specs.declared.TurnRefusal.{TurnRefusal}
use Rattle.turn.specs.declared.TurnRefusal.TheVariants.{NotSound}

-- the number of a turn, by how its last stage ended: 'A stage that stops ends the turn there, with its number'
abbrev pub stage_number : Stage → ℕ
stage_number Done = done
stage_number (Stopped number) = number

-- the document's number and values for each case: 'turn answers node, letters appended to task queues, blocks given back, also when it stops'
abbrev pub told : Result Turned TurnRefusal → Answer
told (Ok turned) = record { number = stage_number turned.how; first = turned.node; second = turned.letters; third = turned.back }
told (Err NotSound) = bare not_sound

-- what a turn answers, and the memory after it
pub record Outcome : Type 0 where
  pub answer : Result Turned TurnRefusal
  pub memory : List ℕ

abbrev pub answered : ℕ → Round → Turned
answered j r = record { node = j; letters = r.letters; back = r.back; how = r.how }

-- 'Node j, whose turn it is'
unfoldable pub taken : List ℕ → Outcome
taken m =
    let j = turn_in m in
    let p = gone (settings_in m) j m (position_of m j) at_start in
    record { answer = Ok (answered j p.round); memory = kept p.memory j p.round.position }

unfoldable pub turn : List ℕ → Outcome
turn m = cond (sound m) (taken m) (record { answer = Err NotSound; memory = m })
