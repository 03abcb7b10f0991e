-- What each call answers and leaves, for every input: the contracts of the door, by the calls' own outcomes and numbers.
use Rattle.std.specs.Prelude.{◌≡◌, List, ℕ}
use Rattle.settings.specs.Made.{settings_of}
use Rattle.answers.specs.declared.Answer.{Answer}
use Rattle.setup.specs.Outcome.{set_up, told as told_set_up}
use Rattle.posting.specs.Told.{told as told_sent}
use Rattle.send.specs.Outcome.{send}
use Rattle.receive.specs.Outcome.{receive, told as told_received}
use Rattle.turn.specs.Outcome.{turn, told as told_turned}
use Rattle.listing.specs.Outcome.{list, told as told_listed}

-- set up: the answer, and the memory after it
abbrev pub SetsUp : (b m s a t : ℕ) (table memory : List ℕ) → Answer → List ℕ → Type 0
SetsUp b m s a t table memory answer after =
    (answer ≡ told_set_up (set_up (settings_of b m s a t) table memory).answer) × (after ≡ (set_up (settings_of b m s a t) table memory).memory)

-- send: the answer, and the memory after it
abbrev pub Sends : (memory : List ℕ) (source destination : ℕ) (body : List ℕ) → Answer → List ℕ → Type 0
Sends memory source destination body answer after =
    (answer ≡ told_sent (send memory source destination body).answer) × (after ≡ (send memory source destination body).memory)

-- receive: the answer, and the memory and out after it
abbrev pub Receives : (memory : List ℕ) (destination source : ℕ) (out : List ℕ) → Answer → List ℕ → List ℕ → Type 0
Receives memory destination source out answer after filled =
    (answer ≡ told_received (receive memory destination source out).answer) × (after ≡ (receive memory destination source out).memory)
    × (filled ≡ (receive memory destination source out).out)

-- turn: the answer, and the memory after it
abbrev pub Turns : (memory : List ℕ) → Answer → List ℕ → Type 0
Turns memory answer after = (answer ≡ told_turned (turn memory).answer) × (after ≡ (turn memory).memory)

-- list: the answer, and out after it; the memory is lent to be read only
abbrev pub Lists : (memory out : List ℕ) → Answer → List ℕ → Type 0
Lists memory out answer filled = (answer ≡ told_listed (list memory out).answer) × (filled ≡ (list memory out).out)
