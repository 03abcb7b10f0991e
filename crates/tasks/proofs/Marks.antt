-- The row of seats as the test fills it: a seat's byte is 0 while none of the ids so far sits there. Assumes nothing.
use mathlib.Core.Path.{◌≡◌, refl, sym, ap, ◌∙◌}
use mathlib.Core.Bool.{Bool, true, false, ◌&&◌, ◌||◌, not, false≢true}
use mathlib.Core.List.{List}
use Prim.Native.Nat.{ℕ, ◌+◌, ◌≤◌, ◌<◌}
use native.Mathlib.Numerals.{add-one}
use native.Mathlib.Omega.{arith}
use lib.Dec.{eqb, leb, ltb}
use lib.ListN.{length, get_or, set, replicate, get_or-replicate, length-set}
use lib.Seq.{get_or-set_same, get_or-set_other}
use borrow.Author.Tests.{eq-eqb, eqb-true, le-leb, lt-leb, leb-true, lt-ltb}
use Rattle.words.specs.Words.{every}
use Rattle.words.proofs.Lists.{split, same?, and-true, and-join, and-false, every_all, every-not}
use Rattle.layout.specs.Places.{task_ids}
use Rattle.tasks.specs.Table.{node_of, queue_of, holds_none, is_bound, has_seat, share_seat, seated, apart}
use Rattle.tasks.specs.Seat.{seat_at, put_on, seat_row}

module _ (t : List ℕ) where
  -- the byte of an id's seat
  abbrev seat : ℕ → ℕ
  seat i = seat_at (node_of t i) (queue_of t i)

  -- id j is unbound, or no earlier id sits where it does
  abbrev alone : ℕ → Bool
  alone j = every j (λ i. holds_none t i || (holds_none t j || not (share_seat t i j)))

  abbrev fine : ℕ → Bool
  fine id = holds_none t id || has_seat t id

  -- the ids below n are right, and the row is theirs: a seat's byte is 0 where none of them sits, and else one of them does
  pub record Good (n : ℕ) (row : List ℕ) : Type 0 where
    pub size : length row ≡ 384
    pub fits : (i : ℕ) → i < n → fine i ≡ true
    pub lone : (j : ℕ) → j < n → alone j ≡ true
    pub is : row ≡ seat_row t n
    pub free : (k : ℕ) → k < 384 → get_or row k 0 ≡ 0 → (i : ℕ) → i < n → holds_none t i ≡ false → seat i ≡ k → ⊥
    pub taken : (k : ℕ) → k < 384 → (get_or row k 0 ≡ 0 → ⊥) → (i : ℕ) × ((i < n) × ((holds_none t i ≡ false) × (seat i ≡ k)))

  pub good_start : (row : List ℕ) → row ≡ replicate 384 0 → Good 0 row
  unfolding seat_row
  good_start row e =
      record {
        size = rw e;
        fits = λ i h. absurd (omega arith);
        lone = λ j h. absurd (omega arith);
        is = e;
        free = λ k h z i l. absurd (omega arith);
        taken = λ k h z. absurd (z (rw e (get_or-replicate 384 k 0 0 h)));
      }

  -- one more of what holds below n
  more_below : (P : ℕ → Type 0) (n : ℕ) → ((i : ℕ) → i < n → P i) → P n → (i : ℕ) → i < n + 1 → P i
  more_below P n f p i h = same? i n (λ q e. rw q p) (λ q e. f i (omega arith))

  module _ (n : ℕ) (row : List ℕ) (g : Good n row) where
    -- an id that is unbound
    pub good_none : holds_none t n ≡ true → Good (n + 1) row
    unfolding seat_row put_on is_bound
    good_none e =
        record {
          size = g.size;
          fits = more_below (λ i. fine i ≡ true) n g.fits (rw e);
          lone = more_below (λ j. alone j ≡ true) n g.lone (every_all _ n (λ i h. rw e (or_true (holds_none t i))));
          is = g.is ∙ rw (add-one n) (rw (e, and-false (ltb n task_ids)));
          free = λ k h z. more_below (λ i. holds_none t i ≡ false → seat i ≡ k → ⊥) n (g.free k h z) (λ f q. false≢true (sym f ∙ e));
          taken = λ k h z. let r = g.taken k h z in (r.0, (omega arith, r.1.1));
        }
      where
        or_true : (b : Bool) → b || true ≡ true
        or_true true = refl
        or_true false = refl

    module _ (e : holds_none t n ≡ false) where
      -- where two sit on one seat, they share it
      shared : (i : ℕ) → has_seat t i ≡ true → has_seat t n ≡ true → seat i ≡ seat n → share_seat t i n ≡ true
      unfolding has_seat share_seat
      shared i h k q =
          let a = and-true (leb (node_of t i) 5) (leb (queue_of t i) 63) h in
          let b = and-true (leb (node_of t n) 5) (leb (queue_of t n) 63) k in
          let x = leb-true (queue_of t i) 63 a.1 in
          let y = leb-true (queue_of t n) 63 b.1 in
          and-join (eqb (node_of t i) (node_of t n)) (eqb (queue_of t i) (queue_of t n)) (eq-eqb (node_of t i) (node_of t n) (omega arith)) (eq-eqb (queue_of t i) (queue_of t n) (omega arith))

      -- those who share a seat have one byte for it
      one-seat : (i : ℕ) → share_seat t i n ≡ true → seat i ≡ seat n
      unfolding share_seat
      one-seat i h =
          let a = and-true (eqb (node_of t i) (node_of t n)) (eqb (queue_of t i) (queue_of t n)) h in
          let x = eqb-true (node_of t i) (node_of t n) a.0 in
          let y = eqb-true (queue_of t i) (queue_of t n) a.1 in
          omega arith

      -- a seat that is free: nobody before shares it
      free_alone : ((i : ℕ) → i < n → holds_none t i ≡ false → seat i ≡ seat n → ⊥) → alone n ≡ true
      free_alone z =
          every_all _ n
          (λ i h. split (holds_none t i)
          (λ f. rw f)
          (λ f. rw (f, e) (split (share_seat t i n) (λ q. absurd (z i h f (one-seat i q))) (λ q. rw q))))

      module _ (a : node_of t n ≤ 5) (b : queue_of t n ≤ 63) where
        in_seat : has_seat t n ≡ true
        unfolding has_seat
        in_seat = and-join (leb (node_of t n) 5) (leb (queue_of t n) 63) (le-leb _ _ a) (le-leb _ _ b)

        -- an id that sits where nobody does; it is not 0, which is unbound
        pub good-seat : n < task_ids → holds_none t 0 ≡ true → get_or row (seat n) 0 ≡ 0 → Good (n + 1) (set row (seat n) n)
        unfolding seat_row put_on is_bound
        good-seat low o z =
            let l = g.size in
            let p : n ≡ 0 → ⊥ = λ (q : n ≡ 0). false≢true (sym e ∙ rw q o) in
            record {
              size = rw length-set l;
              fits = more_below (λ i. fine i ≡ true) n g.fits (rw (e, in_seat));
              lone = more_below (λ j. alone j ≡ true) n g.lone (free_alone (g.free (seat n) (omega arith) z));
              is = rw (add-one n) (rw (e, lt-ltb n task_ids low) (ap (λ (r : List ℕ). set r (seat n) n) g.is));
              free = λ k h y. same? k (seat n)
                  (λ q f. absurd (p (sym (get_or-set_same row (seat n) n 0 (omega arith)) ∙ rw q at y)))
                  (λ q f. more_below (λ i. holds_none t i ≡ false → seat i ≡ k → ⊥) n (g.free k h (sym (get_or-set_other row (seat n) k n 0 q) ∙ y)) (λ f r. q (sym r)));
              taken = λ k h y. same? k (seat n)
                  (λ q f. (n, (omega arith, (e, sym q))))
                  (λ q f. let r = g.taken k h (λ x. y (get_or-set_other row (seat n) k n 0 q ∙ x)) in (r.0, (omega arith, r.1.1)));
            }

        -- an id that sits where another does
        pub bad_seat : n < task_ids → (get_or row (seat n) 0 ≡ 0 → ⊥) → false ≡ seated t && apart t
        unfolding apart
        bad_seat l z =
            let r = g.taken (seat n) (omega arith) z in
            let i : ℕ = r.0 in
            let f : holds_none t i ≡ false = r.1.1.0 in
            let s : share_seat t i n ≡ true = shared i (rw f at (g.fits i r.1.0)) in_seat r.1.1.1 in
            sym (rw (every-not alone task_ids n l (every-not _ n i r.1.0 (rw (f, e, s)))) (and-false (seated t)))

  -- a node or a queue that is too great
  module _ (n : ℕ) (low : n < task_ids) (e : holds_none t n ≡ false) where
    bad_range : has_seat t n ≡ false → false ≡ seated t && apart t
    unfolding seated
    bad_range f = sym (rw (every-not fine task_ids n low (rw (e, f))))

    pub bad_node : 5 < node_of t n → false ≡ seated t && apart t
    unfolding has_seat
    bad_node h = bad_range (rw (lt-leb _ _ h))

    pub bad_queue : 63 < queue_of t n → false ≡ seated t && apart t
    unfolding has_seat
    bad_queue h = bad_range (rw (lt-leb _ _ h) (and-false (leb (node_of t n) 5)))

  pub good_end : (row : List ℕ) → Good task_ids row → true ≡ seated t && apart t
  unfolding seated apart
  good_end row g = sym (and-join _ _ (every_all fine task_ids g.fits) (every_all alone task_ids g.lone))
