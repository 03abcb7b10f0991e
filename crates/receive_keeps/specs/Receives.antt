-- What a receive does to the machine that a memory spells: 'Receive'.
use Rattle.std.specs.Prelude.{◌≡◌, Bool, true, false, ◌||◌, List, ◌∷◌, ◌++◌, ℕ, ◌+◌, ◌<◌, eqb, length, get_or, drop}
use Rattle.layout.specs.Numbers.{header_words, source_task_word}
use Rattle.letters.specs.Letter.{onto}
use Rattle.machine.specs.Same.{Stands}
use Rattle.machine.specs.Machine.{Letter, Machine, All}
use Rattle.moves.specs.Letters.{live_ones}

-- 'Source 0 takes the first letter; otherwise the first from that source': the letter is one that is asked for
abbrev pub asked : ℕ → Letter → Bool
asked source L = eqb source 0 || eqb (get_or L.words source_task_word 0) source

-- 'no such letter': none in task queue q of node i is asked for
abbrev pub NoneAsked : Machine → ℕ → ℕ → ℕ → Type 0
NoneAsked m i q source = All (λ L. asked source L ≡ false) (live_ones ((m.node i).letters (13 + q)))

-- a receive that is done: a letter leaves task queue q of node i; the answer tells `from` and `long`, and out becomes `given`
pub record Receives (before after : Machine) (i q source : ℕ) (from long : ℕ) (out given : List ℕ) : Type 0 where
  -- the letter, and the queue's letters before it and behind it, gaps left out
  pub letter : Letter
  pub earlier : List Letter
  pub later : List Letter
  -- it stood between them
  pub was : live_ones ((before.node i).letters (13 + q)) ≡ earlier ++ letter ∷ later
  -- the others are left, in their order
  pub is : live_ones ((after.node i).letters (13 + q)) ≡ earlier ++ later
  -- it is asked for
  pub wanted : asked source letter ≡ true
  -- and is the first that is: none before it is asked for
  pub first : All (λ L. asked source L ≡ false) earlier
  -- 'receive answers source and body length': the source is the one that its header names
  pub source_told : from ≡ get_or letter.words source_task_word 0
  -- and the length that of its words behind the header
  pub length-told : long ≡ length (drop header_words letter.words)
  -- 'The body goes to the front of out, the rest of out stays'
  pub written : given ≡ onto (drop header_words letter.words) out
  -- 'Giving back puts the chain, in its order, before the free list'
  pub back : (after.node i).free ≡ letter.chain ++ (before.node i).free
  -- every other node has the same free list
  pub free : (k : ℕ) → k < 6 → (k ≡ i → ⊥) → (after.node k).free ≡ (before.node k).free
  -- every other place of every node has the same letters
  pub letters : (k p : ℕ) → k < 6 → p < 77 → (k ≡ i → p ≡ 13 + q → ⊥) → (after.node k).letters p ≡ (before.node k).letters p
  -- whose turn it is and the postmen's positions are the same
  pub stands : Stands before after
