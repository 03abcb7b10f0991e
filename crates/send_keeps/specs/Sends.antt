-- What a send does to the machine: 'Send', 'What comes back'.
use Rattle.std.specs.Prelude.{◌≡◌, true, List, [], ◌∷◌, ◌++◌, ℕ, ◌+◌, ◌≤◌, ◌<◌, length, take, drop, Err, Ok, Result}
use Rattle.settings.specs.declared.Settings.{Settings}
use Rattle.tasks.specs.Table.{is_bound}
use Rattle.blocks.specs.Chain.{needs}
use Rattle.posting.specs.declared.Goal.{Goal}
use Rattle.posting.specs.declared.Goal.TheVariants.{Task, Node}
use Rattle.posting.specs.declared.Sent.{Sent}
use Rattle.posting.specs.declared.SendRefusal.{SendRefusal}
use Rattle.posting.specs.declared.SendRefusal.TheVariants.{NotSound, SourceNotBound, DestinationNotBound, BodyTooLong, TooFewBlocks, QueueFull}
use Rattle.machine.specs.Same.{Stands, Unchanged}
use Rattle.machine.specs.Machine.{Letter, Machine}
use Rattle.moves.specs.Letters.{live_ones}

-- the place of the queue to which a letter goes: 1-6 a node's send queues, 13-76 its task queues
abbrev pub place_of : Goal → ℕ
place_of (Task q) = 13 + q
place_of (Node k) = 1 + k

-- the letter that a send adds: its blocks are the first n of the free list
abbrev pub new_letter : List ℕ → ℕ → List ℕ → Letter
new_letter free n words = record { chain = take n free; words = words }

-- a send that is done, of these words, from node i to the queue at place p of it, with n blocks
pub record Sends (m m' : Machine) (i p n : ℕ) (words : List ℕ) : Type 0 where
  pub stands : Stands m m'
  -- 'appends the first block': the letters at that place are those before, in order, and behind them the new letter
  pub behind : live_ones ((m'.node i).letters p) ≡ live_ones ((m.node i).letters p) ++ new_letter (m.node i).free n words ∷ []
  -- of a send queue no letter is a gap
  pub sent : p < 13 → (m'.node i).letters p ≡ (m.node i).letters p ++ new_letter (m.node i).free n words ∷ []
  -- every other place of every node is the same
  pub elsewhere : (k q : ℕ) → k < 6 → q < 78 → (k ≡ i → q ≡ p → ⊥) → (m'.node k).letters q ≡ (m.node k).letters q
  -- 'Takes blocks in the source's node': its free list had n blocks at least, and has lost its first n
  pub has : n ≤ length (m.node i).free
  pub takes : (m'.node i).free ≡ drop n (m.node i).free
  -- the other nodes' free lists are the same
  pub free : (k : ℕ) → k < 6 → (k ≡ i → ⊥) → (m'.node k).free ≡ (m.node k).free

-- what each answer says of the machine before and after
abbrev pub Change : Machine → Machine → ℕ → ℕ → List ℕ → Result Sent SendRefusal → Type 0
Change m m' i p words (Ok sent) = Sends m m' i p sent.blocks words
Change m m' i p words (Err NotSound) = Unchanged m m'
Change m m' i p words (Err SourceNotBound) = Unchanged m m'
Change m m' i p words (Err DestinationNotBound) = Unchanged m m'
Change m m' i p words (Err BodyTooLong) = Unchanged m m'
Change m m' i p words (Err TooFewBlocks) = Unchanged m m'
Change m m' i p words (Err QueueFull) = Unchanged m m'

-- a send is done, with n blocks, between bound tasks alone, and with the blocks that its letter needs
pub record Allowed (s : Settings) (table : List ℕ) (source destination n : ℕ) (words : List ℕ) : Type 0 where
  pub from : is_bound table source ≡ true
  pub to : is_bound table destination ≡ true
  pub blocks : n ≡ needs s (length words)
