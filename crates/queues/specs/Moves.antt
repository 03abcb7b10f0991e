-- What append and drop do to a queue of any kind, and what they answer: 'Send', 'Receive', 'What comes back'.
use Rattle.std.specs.Prelude.{◌≡◌, cond, List, ℕ, ◌+◌, ◌-◌, ◌%◌, ◌≤◌, ◌<◌, ltb, get_or, set, Err, Ok, Result}
use Rattle.words.specs.Words.{more}
use Rattle.layout.specs.Places.{items_word}
use Rattle.queues.specs.declared.Kind.{Kind}
use Rattle.queues.specs.declared.Full.{Full}
use Rattle.queues.specs.Queue.{start, items, slot_at, slot_from}

-- the count at a word one higher
unfoldable pub counted : List ℕ → ℕ → List ℕ
counted node at = set node at (more (get_or node at 0))

module _ (k : Kind) (node : List ℕ) (q : ℕ) where
  -- x put behind the last item
  unfoldable pub added : ℕ → List ℕ
  added x = set (set node (slot_at k node q (items k node q)) x) (q + items_word) (items k node q + 1)

  -- an append: at its length the queue's full count rises
  unfoldable pub appended : ℕ → List ℕ
  appended x = cond (ltb (items k node q) k.slots) (added x) (counted node (q + k.full))

  unfoldable pub append_answer : Result Unit Full
  append_answer = cond (ltb (items k node q) k.slots) (Ok tt) (Err (record {}))

  -- 'A dropped item's slot becomes 0 and the start moves on'
  unfoldable pub dropped : List ℕ
  dropped =
      set (set (set node (slot_at k node q 0) 0) q ((start k node q + 1) % k.slots)) (q + items_word) (items k node q - 1)

-- what a slot's word is asked of: a queue that is no further than a slice reaches, its start slot, and a place
pub record Near (k : Kind) (q first i : ℕ) : Type 0 where
  pub small : q + (k.head + k.slots) < 9223372036854775807
  pub begins : first < k.slots
  pub place : i ≤ k.slots

-- r is the word of slot i, and one of the queue's slots
pub record IsSlot (k : Kind) (q first i r : ℕ) : Type 0 where
  pub is : r ≡ slot_from k q first i
  pub low : q + k.head ≤ r
  pub high : r < q + (k.head + k.slots)
