-- A bound task is no task 0, and the task that sits at its node and queue is itself. Assumes nothing.
use mathlib.Core.Path.{◌≡◌, refl, sym, ◌∙◌}
use mathlib.Core.Bool.{Bool, true, false, ◌&&◌, ◌||◌, not, false≢true}
use mathlib.Core.List.{List}
use mathlib.Core.Logic.{⊎_elim}
use Prim.Native.Nat.{ℕ, zero, suc, ◌<◌}
use native.Mathlib.Omega.{arith}
use lib.Dec.{eqb, ltb}
use lib.ListN.{length}
use borrow.Author.Tests.{eq-eqb, eqb-true, ltb-true, not-true}
use Rattle.words.specs.Words.{every}
use Rattle.words.proofs.Lists.{split, same?, le_or_lt, and-true, every_at}
use Rattle.layout.specs.Places.{task_ids, table_words}
use Rattle.tasks.specs.Table.{node_of, queue_of, holds_none, is_bound, share_seat, seated, apart, right_table}
use Rattle.sound.specs.Queues.{sitter, task_of}

module _ (t : List ℕ) (r : right_table t ≡ true) where
  parts : (holds_none t 0 ≡ true) × (apart t ≡ true)
  unfolding right_table
  parts =
      let e = and-true (eqb (length t) table_words) _ r in
      let f = and-true (holds_none t 0) _ e.1 in
      (f.0, (and-true (seated t) (apart t) f.1).1)

  bound : (x : ℕ) → is_bound t x ≡ true → (x < 256) × (holds_none t x ≡ false)
  unfolding is_bound
  bound x b =
      let h = and-true (ltb x task_ids) (not (holds_none t x)) b in
      (ltb-true x task_ids h.0, not-true (holds_none t x) h.1)

  pub bound_some : (x : ℕ) → is_bound t x ≡ true → x ≡ 0 → ⊥
  bound_some x b e =
      let z : holds_none t x ≡ true = rw e parts.0 in
      false≢true (sym (bound x b).1 ∙ z)

  below : (x y : ℕ) → x < y → is_bound t x ≡ true → is_bound t y ≡ true → node_of t x ≡ node_of t y → queue_of t x ≡ queue_of t y → ⊥
  unfolding apart share_seat
  below x y l a b e f =
      let k = every_at (λ i. holds_none t i || (holds_none t y || not (share_seat t i y))) y
      (every_at (λ j. every j (λ i. holds_none t i || (holds_none t j || not (share_seat t i j)))) 256 parts.1 y (bound y b).0) x l in
      false≢true (rw ((bound x a).1, (bound y b).1, eq-eqb (node_of t x) (node_of t y) e, eq-eqb (queue_of t x) (queue_of t y) f) at k)

  -- 'no two with the same node and queue'
  one-seat : (x y : ℕ) → is_bound t x ≡ true → is_bound t y ≡ true → node_of t x ≡ node_of t y → queue_of t x ≡ queue_of t y → x ≡ y
  one-seat x y a b e f =
      same? x y (λ q u. q)
      (λ q u. ⊎_elim (λ l. absurd (below x y (omega arith) a b e f)) (λ l. absurd (below y x l b a (sym e) (sym f))) (le_or_lt x y))

  -- THE TASK THAT SITS THERE
  module _ (d : ℕ) (b : is_bound t d ≡ true) where
    abbrev sits : ℕ → Bool
    sits n = is_bound t n && (eqb (node_of t n) (node_of t d) && eqb (queue_of t n) (queue_of t d))

    sits_one : (n : ℕ) → sits n ≡ true → n ≡ d
    sits_one n e =
        let h = and-true (is_bound t n) (eqb (node_of t n) (node_of t d) && eqb (queue_of t n) (queue_of t d)) e in
        let k = and-true (eqb (node_of t n) (node_of t d)) (eqb (queue_of t n) (queue_of t d)) h.1 in
        one-seat n d h.0 b (eqb-true (node_of t n) (node_of t d) k.0) (eqb-true (queue_of t n) (queue_of t d) k.1)

    sits_own : sits d ≡ true
    sits_own = rw (b, eq-eqb (node_of t d) (node_of t d) refl, eq-eqb (queue_of t d) (queue_of t d) refl)

    sitter_is : (n : ℕ) → d < n → sitter t (node_of t d) (queue_of t d) n ≡ d
    unfolding sitter
    sitter_is zero l = absurd (omega arith)
    sitter_is (suc n) l =
        split (sits n)
        (λ e. rw e (sits_one n e))
        (λ e. rw e (sitter_is n (same? d n (λ q u. absurd (false≢true (sym e ∙ rw (← q) sits_own))) (λ q u. omega arith))))

    pub task_is : task_of t (node_of t d) (queue_of t d) ≡ d
    task_is = sitter_is 256 (bound d b).0
