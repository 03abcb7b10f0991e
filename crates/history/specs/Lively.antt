-- What keeps demand 3 from being empty: demand 2's calls accept, receive and carry letters.
use Rattle.std.specs.Prelude.{◌≡◌, List, [], ◌∷◌, ◌++◌, ℕ, take, Ok}
use Rattle.sound.specs.Reading.{table_in, turn_in}
use Rattle.send.specs.Outcome.{send}
use Rattle.receive.specs.Outcome.{receive}
use Rattle.turn.specs.Outcome.{turn}
use Rattle.machine.specs.Spelled.{machine_of}
use Rattle.stages_keep.specs.Way.{on_the_way}
use Rattle.turn_keeps.specs.Turns.{letters_of, Turns as CarriesLetters}
use Rattle.history.specs.Runs.{Sends, Receives, Past, sent_letter, after_call}

-- 'a send that is not refused accepts exactly one letter', the one that it was asked to send
abbrev pub AcceptsOne : Past → Type 0
AcceptsOne p =
    (source destination : ℕ) (body : List ℕ) (blocks : ℕ) → (send p.memory source destination body).answer ≡ Ok (record { blocks = blocks })
    → (after_call p (Sends source destination body)).accepted ≡ p.accepted ++ sent_letter (table_in p.memory) source destination body ∷ []

-- 'a receive that answers 0 receives exactly one': the first of the letters on the way from the source that it answers
pub record TakesOne (p : Past) (destination wanted : ℕ) (out : List ℕ) (source n : ℕ) : Type 0 where
  pub letter : List ℕ
  pub handed : letter ≡ sent_letter (table_in p.memory) source destination (take n (receive p.memory destination wanted out).out)
  pub received : (after_call p (Receives destination wanted out)).received ≡ p.received ++ letter ∷ []
  pub first : on_the_way (table_in p.memory) (machine_of p.memory) source destination
      ≡ letter ∷ on_the_way (table_in p.memory) (machine_of (receive p.memory destination wanted out).memory) source destination

abbrev pub ReceivesOne : Past → Type 0
ReceivesOne p =
    (destination wanted : ℕ) (out : List ℕ) (source n : ℕ) → (receive p.memory destination wanted out).answer ≡ Ok (record { source = source; words = n }) → TakesOne p destination wanted out source n

-- 'a turn that answers k letters has added exactly k letters to task queues, each the first of its send queue'
abbrev pub CarriesTold : Past → Type 0
CarriesTold p = CarriesLetters (table_in p.memory) (machine_of p.memory) (machine_of (turn p.memory).memory) (turn_in p.memory) (letters_of (turn p.memory).answer)

pub record Lively (p : Past) : Type 0 where
  pub accepts : AcceptsOne p
  pub receives : ReceivesOne p
  pub carries : CarriesTold p
