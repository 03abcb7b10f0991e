-- Demand 3, sentence by sentence.
use Rattle.std.specs.Prelude.{◌≡◌, true, cond, ◌&&◌, List, [], ◌∷◌, ◌++◌, ℕ, zero, suc, ◌+◌, ◌≤◌, ◌<◌, eqb, get_or, drop, Err, Ok}
use Rattle.words.specs.Count.{occurs, sum}
use Rattle.layout.specs.Places.{node}
use Rattle.layout.specs.Numbers.{list_words}
use Rattle.tasks.specs.Table.{is_bound}
use Rattle.sound.specs.Reading.{settings_in, table_in}
use Rattle.sound.specs.Letters.{words_from}
use Rattle.listing.specs.declared.ListRefusal.TheVariants.{NotSound as Listed-not-sound}
use Rattle.listing.specs.Outcome.{list}
use Rattle.posting.specs.declared.SendRefusal.TheVariants.{NotSound as Sent-not-sound}
use Rattle.send.specs.Outcome.{send}
use Rattle.receive.specs.declared.ReceiveRefusal.TheVariants.{NotSound as Received-not-sound}
use Rattle.receive.specs.Outcome.{receive}
use Rattle.turn.specs.declared.TurnRefusal.TheVariants.{NotSound as Turned-not-sound}
use Rattle.turn.specs.Outcome.{turn}
use Rattle.machine.specs.Machine.{Machine, many}
use Rattle.machine.specs.Spelled.{machine_of}
use Rattle.stages_keep.specs.Way.{those, between}
use Rattle.history.specs.Runs.{Past}

-- the letters from a to b that n records of a list show, 'each read at the node and block it names': of a record's six words the first is the
-- destination, the second the source, the fourth the node, the fifth the block
unfoldable pub shown_in : List ℕ → ℕ → ℕ → ℕ → List ℕ → List (List ℕ)
shown_in memory a b zero out = []
shown_in memory a b (suc n) out =
    cond (eqb (get_or out 1 0) a && eqb (get_or out 0 0) b)
    (words_from (settings_in memory) (node (settings_in memory) memory (get_or out 3 0)) (get_or out 4 0) ∷ shown_in memory a b n (drop list_words out))
    (shown_in memory a b n (drop list_words out))

-- 'for each sender and receiver, the letters accepted are, in order and unaltered, those received followed by those the list shows, each once':
-- whatever out is, where the list has room in it
abbrev pub InOrder : Past → Type 0
InOrder p =
    (a b : ℕ) → is_bound (table_in p.memory) a ≡ true → is_bound (table_in p.memory) b ≡ true
    → (out : List ℕ) (n : ℕ) → (list p.memory out).answer ≡ Ok (record { letters = n })
    → those (between a b) p.accepted ≡ those (between a b) p.received ++ shown_in p.memory a b n (list p.memory out).out

-- how often block b stands in node i: in the free list, and in the chains of the letters at its places, 0 the held copy, 1-6 the send items, 7-12 the
-- items acknowledged on nodes 0 to 5, 13-76 the task items
abbrev pub places_of : Machine → ℕ → ℕ → ℕ
places_of m i b = occurs b (m.node i).free + sum 77 (λ p. many b ((m.node i).letters p))

-- 'in each node every block stands in exactly one place'
abbrev pub EachOnce : Past → Type 0
EachOnce p = (i b : ℕ) → i < 6 → 1 ≤ b → b ≤ (settings_in p.memory).m → places_of (machine_of p.memory) i b ≡ 1

-- no call is refused by 1, whatever its arguments; set up never is
pub record NeverStuck (p : Past) : Type 0 where
  pub sends : (source destination : ℕ) (body : List ℕ) → (send p.memory source destination body).answer ≡ Err Sent-not-sound → ⊥
  pub receives : (destination source : ℕ) (out : List ℕ) → (receive p.memory destination source out).answer ≡ Err Received-not-sound → ⊥
  pub turns : (turn p.memory).answer ≡ Err Turned-not-sound → ⊥
  pub lists : (out : List ℕ) → (list p.memory out).answer ≡ Err Listed-not-sound → ⊥

-- an out in which the list has room
pub record Room (p : Past) : Type 0 where
  pub out : List ℕ
  pub letters : ℕ
  pub done : (list p.memory out).answer ≡ Ok (record { letters = letters })

-- DEMAND 3
pub record Holds (p : Past) : Type 0 where
  pub order : InOrder p
  pub room : Room p
  pub once : EachOnce p
  pub stuck : NeverStuck p
