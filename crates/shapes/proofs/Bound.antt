-- The row of seats: after n ids each seat shows the last of them that sits there. Assumes nothing.
use mathlib.Core.Path.{◌≡◌, refl, ◌∙◌}
use mathlib.Core.Bool.{true}
use mathlib.Core.List.{List}
use Prim.Native.Nat.{ℕ, zero, suc, ◌+◌, ◌<◌}
use native.Mathlib.Numerals.{add-one}
use native.Mathlib.Omega.{arith}
use lib.ListN.{length, get_or, get_or-replicate, length-set}
use lib.Seq.{get_or-set_same, get_or-set_other}
use Rattle.words.proofs.Lists.{split, same?}
use Rattle.layout.specs.Places.{task_ids}
use Rattle.tasks.specs.Table.{node_of, queue_of, is_bound, right_table}
use Rattle.tasks.specs.Seat.{seat_at, put_on, seat_row}
use Rattle.tasks.proofs.Laws.{seat-within}
use Rattle.sound.specs.Queues.{sitter}
use Rattle.shapes.specs.Seats.{Seats}

-- after n ids
pub record SeatsTo (t : List ℕ) (n : ℕ) (l : List ℕ) : Type 0 where
  pub long : length l ≡ 384
  pub is : (i q : ℕ) → i < 6 → q < 64 → get_or l (seat_at i q) 0 ≡ sitter t i q n

module _ (t : List ℕ) where
  seats_none : SeatsTo t 0 (seat_row t 0)
  unfolding sitter seat_row
  seats_none = record { long = refl; is = λ i q h k. get_or-replicate 384 (seat_at i q) 0 0 (omega arith) }

  seats_more : (n : ℕ) (l : List ℕ) → right_table t ≡ true → SeatsTo t n l → SeatsTo t (n + 1) (put_on t l n)
  unfolding put_on sitter
  seats_more n l r g =
      split (is_bound t n)
      (λ e.
      let w = seat-within t n r e in
      let z = g.long in
      let m = node_of t n in
      let p = queue_of t n in
      rw e (record {
        long = length-set l (seat_at m p) n ∙ z;
        is = λ i q h k. rw (add-one n) (rw e
            (same? m i
            (λ a f. same? p q
            (λ b j. rw (f, j, a, b) (get_or-set_same l (seat_at i q) n 0 (omega arith)))
            (λ b j. rw (f, j) (get_or-set_other l (seat_at m p) (seat_at i q) n 0 (λ o. b (omega arith)) ∙ g.is i q h k)))
            (λ a f. rw f (get_or-set_other l (seat_at m p) (seat_at i q) n 0 (λ o. a (omega arith)) ∙ g.is i q h k))));
      }))
      (λ e. rw e (record { long = g.long; is = λ i q h k. rw (add-one n) (rw e (g.is i q h k)) }))

  seats_to : right_table t ≡ true → (n : ℕ) → SeatsTo t n (seat_row t n)
  unfolding seat_row
  seats_to r zero = seats_none
  seats_to r (suc n) = rw (← add-one n) (seats_more n (seat_row t n) r (seats_to r n))

  -- THE ROW OF SEATS is the row with all ids put on their seats
  pub row-seats : right_table t ≡ true → (row : List ℕ) → row ≡ seat_row t task_ids → Seats t row
  row-seats r row e = let g = seats_to r task_ids in rw e (record { long = g.long; is = g.is })
