-- The third rule of a sound memory, over one node's stretch and the row of seats.
use Rattle.std.specs.Prelude.{Bool, ◌&&◌, ◌||◌, not, List, ℕ, ◌+◌, ◌-◌, eqb, leb, ltb, length, get_or}
use Rattle.words.specs.Words.{every, all}
use Rattle.settings.specs.declared.Settings.{Settings}
use Rattle.layout.specs.Places.{nodes, task_queues, send_at, ack_at, task_at, gap_word}
use Rattle.queues.specs.declared.Kind.{Kind}
use Rattle.queues.specs.Queue.{send_kind, ack_kind, task_kind, items, item_at, contents}
use Rattle.queues.specs.Items.{gap_flag}
use Rattle.sound.specs.Queues.{in_shape}
use Rattle.tasks.specs.Seat.{seat_at}

-- the words from a on, before e, are 0
unfoldable pub zeroes : List ℕ → ℕ → ℕ → Bool
zeroes stretch a e = every (e - a) (λ i. eqb (get_or stretch (a + i) 0) 0)

-- 'slots outside the items are 0'
unfoldable pub clear_outside : Kind → List ℕ → ℕ → Bool
clear_outside k stretch q = every k.slots (λ i. ltb i (items k stretch q) || eqb (item_at k stretch q i) 0)

-- the items lie between the two, both included
unfoldable pub items_within : ℕ → ℕ → List ℕ → Bool
items_within least most xs = all (λ b. leb least b && leb b most) xs

-- a send or acknowledge queue; `own`: it is the node's queue to itself
unfoldable pub right_post : Kind → List ℕ → ℕ → ℕ → Bool → Bool
right_post k stretch q m own =
    in_shape k stretch q
    && ((not own || eqb (length (contents k stretch q)) 0) && items_within 1 m (contents k stretch q))

-- a task queue, bound to the task; 0: to none
unfoldable pub right_seat : Kind → List ℕ → ℕ → ℕ → ℕ → Bool
right_seat k stretch q m task =
    in_shape k stretch q
    && ((not (eqb task 0) || eqb (length (contents k stretch q)) 0)
    && (all (λ b. leb b m) (contents k stretch q)
    && ((eqb (length (contents k stretch q)) 0 || not (eqb (get_or (contents k stretch q) 0 0) 0))
    && eqb (get_or stretch (q + gap_word) 0) (gap_flag (contents k stretch q)))))

module _ (s : Settings) (stretch : List ℕ) (i : ℕ) where
  -- the six send queues of node i, the acknowledge queues, and the task queues with who sits there
  unfoldable pub right_sends : Bool
  right_sends = every nodes (λ k. right_post (send_kind s) stretch (send_at s k) s.m (eqb k i))

  unfoldable pub right_acks : Bool
  right_acks = every nodes (λ k. right_post (ack_kind s) stretch (ack_at s k) s.m (eqb k i))

  unfoldable pub right_seats : List ℕ → Bool
  right_seats seats = every task_queues (λ q. right_seat (task_kind s) stretch (task_at s q) s.m (get_or seats (seat_at i q) 0))

  -- the third rule, of the stretch of node i
  unfoldable pub right_stretch : List ℕ → Bool
  right_stretch seats = right_sends && (right_acks && right_seats seats)
