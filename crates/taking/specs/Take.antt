-- Taking an item out of a task queue: 'Receive'.
use Rattle.std.specs.Prelude.{cond, List, ℕ, zero, suc, ◌+◌, ◌<◌, eqb, set}
use Rattle.settings.specs.declared.Settings.{Settings}
use Rattle.layout.specs.Places.{gap_word}
use Rattle.queues.specs.declared.Kind.{Kind}
use Rattle.queues.specs.Queue.{Queue, items, slot_at, item_at, contents, task_kind}
use Rattle.queues.specs.Moves.{dropped}
use Rattle.queues.specs.Items.{gap_flag}

-- the zeroes at the front of n items dropped
unfoldable pub cleared : Kind → ℕ → ℕ → List ℕ → List ℕ
cleared k q zero node = node
cleared k q (suc n) node = cond (eqb (item_at k node q 0) 0) (cleared k q n (dropped k node q)) node

module _ (k : Kind) (node : List ℕ) (q : ℕ) where
  -- 'The first item is dropped together with zeroes directly behind it'
  unfoldable pub first_out : List ℕ
  first_out = cleared k q (items k (dropped k node q) q) (dropped k node q)

  -- 'an item further in becomes 0'
  unfoldable pub out : ℕ → List ℕ
  out i = cond (eqb i 0) first_out (set node (slot_at k node q i) 0)

-- 'The flag becomes 1 if an item left is 0, else 0'
unfoldable pub flagged : Settings → List ℕ → ℕ → List ℕ
flagged s node q = set node (q + gap_word) (gap_flag (contents (task_kind s) node q))

-- the item at place i taken out
abbrev pub taken_out : Settings → List ℕ → ℕ → ℕ → List ℕ
taken_out s node q i = flagged s (out (task_kind s) node q i) q

-- a queue, and the place of one of its items
pub record Place (k : Kind) (node : List ℕ) (q i : ℕ) : Type 0 where
  pub queue : Queue k node q
  pub is : i < items k node q
