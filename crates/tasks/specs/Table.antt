-- The task table, 512 words: 'per task id 0-255, node then queue', and the second rule of a sound memory.
use Rattle.std.specs.Prelude.{Bool, ◌&&◌, ◌||◌, not, List, ℕ, ◌+◌, ◌*◌, eqb, ltb, leb, length, get_or}
use Rattle.words.specs.Words.{every}
use Rattle.layout.specs.Places.{task_ids, table_words}

module _ (table : List ℕ) where
  abbrev pub node_of : ℕ → ℕ
  node_of id = get_or table (id * 2) 0

  abbrev pub queue_of : ℕ → ℕ
  queue_of id = get_or table (id * 2 + 1) 0

  -- 'an unbound id holds 255, 0'
  unfoldable pub holds_none : ℕ → Bool
  holds_none id = eqb (node_of id) 255 && eqb (queue_of id) 0

  -- 'a task number over 255 is unbound'
  unfoldable pub is_bound : ℕ → Bool
  is_bound id = ltb id task_ids && not (holds_none id)

  -- 'has node 0-5 and queue 0-63'
  unfoldable pub has_seat : ℕ → Bool
  has_seat id = leb (node_of id) 5 && leb (queue_of id) 63

  -- the two have the same node and queue
  unfoldable pub share_seat : ℕ → ℕ → Bool
  share_seat i j = eqb (node_of i) (node_of j) && eqb (queue_of i) (queue_of j)

  -- 'an id not holding 255, 0 is bound and has node 0-5 and queue 0-63'
  unfoldable pub seated : Bool
  seated = every task_ids (λ id. holds_none id || has_seat id)

  -- 'no two with the same node and queue'
  unfoldable pub apart : Bool
  apart = every task_ids (λ j. every j (λ i. holds_none i || (holds_none j || not (share_seat i j))))

  -- the second rule of a sound memory, of 512 words
  unfoldable pub right_table : Bool
  right_table = eqb (length table) table_words && (holds_none 0 && (seated && apart))
