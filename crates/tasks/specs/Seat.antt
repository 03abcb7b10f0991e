-- Where a task sits: its node and its queue; and the row of all seats.
use Rattle.std.specs.Prelude.{cond, List, Option, Some, None, ℕ, zero, suc, ◌+◌, ◌*◌, set, replicate}
use Rattle.tasks.specs.Table.{node_of, queue_of, is_bound}
use Rattle.tasks.specs.declared.Seat.{Seat}

-- any task number: its node and queue where it is bound, none where it is not
unfoldable pub seat_of : List ℕ → ℕ → Option Seat
seat_of table task = cond (is_bound table task) (Some (record { node = node_of table task; queue = queue_of table task })) None

-- the place of the seat at node i and queue q, in the row of all 384
abbrev pub seat_at : ℕ → ℕ → ℕ
seat_at i q = i * 64 + q

-- the row with one task put on its seat, if it has one
unfoldable pub put_on : List ℕ → List ℕ → ℕ → List ℕ
put_on table seats id = cond (is_bound table id) (set seats (seat_at (node_of table id) (queue_of table id)) id) seats

-- the row with the ids below n put on their seats; 0 on a seat of none
unfoldable pub seat_row : List ℕ → ℕ → List ℕ
seat_row table zero = replicate 384 0
seat_row table (suc n) = put_on table (seat_row table n) n
