-- Which task sits on each seat: the row of 384, made once from the task table.
use Rattle.std.specs.Prelude.{◌≡◌, List, ℕ, ◌<◌, length, get_or}
use Rattle.layout.specs.Places.{nodes, task_queues}
use Rattle.tasks.specs.Seat.{seat_at}
use Rattle.sound.specs.Queues.{task_of}

-- each seat shows the task that its queue is bound to, 0 for none
pub record Seats (table seats : List ℕ) : Type 0 where
  pub long : length seats ≡ 384
  pub is : (i q : ℕ) → i < nodes → q < task_queues → get_or seats (seat_at i q) 0 ≡ task_of table i q
