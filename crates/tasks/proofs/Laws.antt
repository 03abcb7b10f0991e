-- The task table's rule and the seats, by the tests on the way. Assumes nothing.
use mathlib.Core.Path.{◌≡◌, refl, sym, ap}
use mathlib.Core.Bool.{true, false, ◌||◌, not}
use mathlib.Core.List.{List}
use Prim.Native.Nat.{ℕ, ◌≤◌, ◌<◌}
use lib.ListN.{length}
use native.Mathlib.Omega.{arith}
use lib.Dec.{ltb, leb, eqb}
use borrow.Author.Tests.{ltb-true, leb-true, eqb-true, not-true}
use Rattle.words.proofs.Lists.{and-true, every_at, told_none, told_some}
use Rattle.layout.specs.Places.{task_ids, table_words}
use Rattle.tasks.specs.Table.{node_of, queue_of, holds_none, is_bound, has_seat, seated, apart, right_table}
use Rattle.tasks.specs.Seat.{seat_of}
use Rattle.tasks.specs.declared.Seat.{Seat}
use Rattle.std.specs.Prelude.{Some, None}

module _ (t : List ℕ) where
  -- a table that keeps the rule has its 512 words
  pub right_length_lem : right_table t ≡ true → length t ≡ table_words
  unfolding right_table
  right_length_lem e = eqb-true (length t) 512 (and-true (eqb (length t) 512) _ e).0

-- ---- what a seat that was told says of the task
module _ (t : List ℕ) (id : ℕ) where
  pub told-unbound : seat_of t id ≡ None → is_bound t id ≡ false
  unfolding seat_of
  told-unbound e =
      told_none (is_bound t id) (record { node = node_of t id; queue = queue_of t id }) (seat_of t id) refl e

  pub told_at : (i q : ℕ) → seat_of t id ≡ Some (record { node = i; queue = q }) → (is_bound t id ≡ true) × ((i ≡ node_of t id) × (q ≡ queue_of t id))
  unfolding seat_of
  told_at i q e =
      let y = told_some (is_bound t id) (record { node = node_of t id; queue = queue_of t id }) (seat_of t id) refl (record { node = i; queue = q }) e in
      (y.0, (sym (ap (λ (x : Seat). x.node) y.1), sym (ap (λ (x : Seat). x.queue) y.1)))

  -- 'has node 0-5 and queue 0-63': a bound task of a table that keeps the rule
  pub seat-within : right_table t ≡ true → is_bound t id ≡ true → (node_of t id ≤ 5) × (queue_of t id ≤ 63)
  unfolding right_table seated is_bound has_seat
  seat-within r b =
      let h = and-true (ltb id task_ids) (not (holds_none t id)) b in
      let n : holds_none t id ≡ false = not-true (holds_none t id) h.1 in
      let e = and-true (eqb (length t) table_words) _ r in
      let f = and-true (holds_none t 0) _ e.1 in
      let g = and-true (seated t) (apart t) f.1 in
      let k = every_at (λ id. holds_none t id || has_seat t id) task_ids g.0 id (ltb-true id task_ids h.0) in
      let m = and-true (leb (node_of t id) 5) (leb (queue_of t id) 63) (rw n at k) in
      (leb-true (node_of t id) 5 m.0, leb-true (queue_of t id) 63 m.1)

  pub seat_below : right_table t ≡ true → is_bound t id ≡ true → (node_of t id < 6) × (queue_of t id < 64)
  seat_below r b = let w = seat-within r b in (omega arith, omega arith)
