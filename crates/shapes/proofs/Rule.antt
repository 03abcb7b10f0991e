-- What the functions decide is the third rule. Assumes nothing.
use mathlib.Core.Path.{◌≡◌, ap}
use mathlib.Core.Bool.{Bool, ◌&&◌}
use mathlib.Core.List.{List}
use Prim.Native.Nat.{ℕ, ◌<◌}
use lib.ListN.{get_or}
use Rattle.words.specs.Words.{every}
use Rattle.settings.specs.declared.Settings.{Settings}
use Rattle.layout.specs.Places.{nodes, task_queues, task_at, node}
use Rattle.queues.specs.Queue.{task_kind}
use Rattle.sound.specs.Reading.{table_in}
use Rattle.sound.specs.Queues.{task_of, right_send, right_ack, right_task, right_queues}
use Rattle.sound.proofs.Tests.{every_same}
use Rattle.tasks.specs.Seat.{seat_at}
use Rattle.shapes.specs.Seats.{Seats}
use Rattle.shapes.specs.Shape.{items_within, right_post, right_seat, right_sends, right_acks, right_seats, right_stretch}

one-seat : (s : Settings) (memory seats : List ℕ) (i q : ℕ) → get_or seats (seat_at i q) 0 ≡ task_of (table_in memory) i q
    → right_seat (task_kind s) (node s memory i) (task_at s q) s.m (get_or seats (seat_at i q) 0) ≡ right_task s memory i q
unfolding right_seat right_task
one-seat s memory seats i q e = rw e

pub stretch-queues : (s : Settings) (memory seats : List ℕ) (i : ℕ) → i < nodes → Seats (table_in memory) seats
    → right_stretch s (node s memory i) i seats ≡ right_queues s memory i
unfolding right_stretch right_queues right_sends right_acks right_seats right_post right_send right_ack items_within
stretch-queues s memory seats i h g =
    ap (λ (b : Bool). every nodes (right_send s memory i) && (every nodes (right_ack s memory i) && b))
    (every_same (λ q. right_seat (task_kind s) (node s memory i) (task_at s q) s.m (get_or seats (seat_at i q) 0)) (right_task s memory i) task_queues (λ q k. one-seat s memory seats i q (g.is i q h k)))
