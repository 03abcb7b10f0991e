-- 'For every input the contract of a public call determines its answer and each word of memory and out afterwards': two outcomes that it allows coincide.
use Rattle.std.specs.Prelude.{◌≡◌, List, ℕ}
use Rattle.answers.specs.declared.Answer.{Answer}
use Rattle.mail.specs.Door.{SetsUp, Sends, Receives, Turns, Lists}

-- two answers x and y, each with its memory or its out, are the same
abbrev pub Coincide : (Answer → List ℕ → Type 0) → Type 0
Coincide May = (x y : Answer) (k l : List ℕ) → May x k → May y l → (x ≡ y) × (k ≡ l)

-- the same with a memory and an out
abbrev pub CoincideBoth : (Answer → List ℕ → List ℕ → Type 0) → Type 0
CoincideBoth May = (x y : Answer) (k l p q : List ℕ) → May x k p → May y l q → (x ≡ y) × (k ≡ l) × (p ≡ q)

pub record Determined : Type 0 where
  pub set_up : (b m s a t : ℕ) (table memory : List ℕ) → Coincide (SetsUp b m s a t table memory)
  pub send : (memory : List ℕ) (source destination : ℕ) (body : List ℕ) → Coincide (Sends memory source destination body)
  pub receive : (memory : List ℕ) (destination source : ℕ) (out : List ℕ) → CoincideBoth (Receives memory destination source out)
  pub turn : (memory : List ℕ) → Coincide (Turns memory)
  pub list : (memory out : List ℕ) → Coincide (Lists memory out)
