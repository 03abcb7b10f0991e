-- What each test of a queue decides, and what a turn of the loop over its items passes. Assumes nothing.
use mathlib.Core.Path.{◌≡◌, refl, sym, ap, ◌∙◌}
use mathlib.Core.Bool.{Bool, true, false, ◌&&◌, ◌||◌, not}
use mathlib.Core.List.{List, []}
use Prim.Native.Nat.{ℕ, suc, ◌+◌, ◌-◌, ◌≤◌, ◌<◌}
use native.Mathlib.Omega.{arith}
use lib.Dec.{eqb, leb, ltb, leb-zero}
use lib.ListN.{length, get_or}
use borrow.Author.Tests.{eq-eqb, ne_eqb, le-leb, lt-leb, lt-ltb, le-ltb}
use Rattle.words.specs.Words.{all}
use Rattle.words.proofs.Lists.{same?}
use Rattle.layout.specs.Places.{gap_word}
use Rattle.queues.specs.declared.Kind.{Kind}
use Rattle.queues.specs.Queue.{start, items, item_at, run, contents}
use Rattle.queues.specs.Items.{gap_flag}
use Rattle.queues.proofs.Ring.{length_run}
use Rattle.sound.specs.Queues.{in_shape}
use Rattle.sound.proofs.Tests.{no_second, all_none, all_same}
use Rattle.shapes.specs.Shape.{clear_outside, items_within, right_post, right_seat}

module _ (k : Kind) (l : List ℕ) (q : ℕ) where
  -- ---- start, items and slots
  pub shape_start : k.slots ≤ start k l q → false ≡ in_shape k l q
  unfolding in_shape
  shape_start h = rw (le-ltb (start k l q) k.slots h)

  pub shape_items : k.slots < items k l q → false ≡ in_shape k l q
  unfolding in_shape
  shape_items h = no_second (ltb (start k l q) k.slots) _ (rw (lt-leb (items k l q) k.slots h))

  pub shape_clear : start k l q < k.slots → items k l q ≤ k.slots → (r : Bool) → r ≡ clear_outside k l q → r ≡ in_shape k l q
  unfolding in_shape clear_outside
  shape_clear h g r e = rw (lt-ltb (start k l q) k.slots h, le-leb (items k l q) k.slots g) e

  -- ---- the items from place i on, of n
  module _ (least most : ℕ) (i n : ℕ) (r : Bool) (e : r ≡ items_within least most (run k l q i (n - i))) where
    within_step : i < n → r ≡ (leb least (item_at k l q i) && leb (item_at k l q i) most) && items_within least most (run k l q (i + 1) (n - (i + 1)))
    unfolding items_within run all
    within_step h = let d : n - i ≡ suc (n - (i + 1)) = omega arith in rw d at e

    module _ (h : i < n) (x : ℕ) (f : x ≡ item_at k l q i) where
      pub within_no : leb least x && leb x most ≡ false → false ≡ r
      within_no g = sym (within_step h ∙ rw (← f, g))

      pub within_more : leb least x && leb x most ≡ true → r ≡ items_within least most (run k l q (i + 1) (n - (i + 1)))
      within_more g = within_step h ∙ rw (← f, g)

    pub within_none : n ≤ i → true ≡ r
    unfolding items_within run all
    within_none h = let d : n - i ≡ 0 = omega arith in sym (rw d at e)

  -- ---- a send or acknowledge queue
  module _ (m : ℕ) (own : Bool) where
    pub post_shape : in_shape k l q ≡ false → false ≡ right_post k l q m own
    unfolding right_post
    post_shape e = rw e

    pub post_own : in_shape k l q ≡ true → own ≡ true → eqb (items k l q) 0 ≡ right_post k l q m own
    unfolding right_post items_within run all
    post_own e o =
        rw (e, o, length_run k l q 0 (items k l q))
        (same? (items k l q) 0
        (λ z t. rw t (rw z))
        (λ z t. rw t))

    pub post_other : in_shape k l q ≡ true → own ≡ false → (r : Bool) → r ≡ items_within 1 m (contents k l q) → r ≡ right_post k l q m own
    unfolding right_post
    post_other e o r f = rw (e, o) f

-- ---- a task queue
module _ (k : Kind) (l : List ℕ) (q m task : ℕ) where
  pub seat_shape : in_shape k l q ≡ false → false ≡ right_seat k l q m task
  unfolding right_seat
  seat_shape e = rw e

  module _ (e : in_shape k l q ≡ true) where
    pub seat_empty : items k l q ≡ 0 → eqb (get_or l (q + gap_word) 0) 0 ≡ right_seat k l q m task
    unfolding right_seat run gap_flag
    seat_empty z = rw (e, z, all_none (λ b. leb b m)) (rest (not (eqb task 0)) (get_or l (q + gap_word) 0))
      where
        rest : (b : Bool) (g : ℕ) → eqb g 0 ≡ (b || true) && eqb g (gap_flag [])
        rest true g = refl
        rest false g = refl

    module _ (n : items k l q ≡ 0 → ⊥) where
      some : eqb (length (contents k l q)) 0 ≡ false
      some = ne_eqb _ 0 (λ z. n (sym (length_run k l q 0 (items k l q)) ∙ z))

      first : get_or (contents k l q) 0 0 ≡ item_at k l q 0
      unfolding run
      first = let d : items k l q ≡ suc (items k l q - 1) = omega arith in ap (λ (n : ℕ). get_or (run k l q 0 n) 0 0) d

      same_within : items_within 0 m (contents k l q) ≡ all (λ b. leb b m) (contents k l q)
      unfolding items_within
      same_within = all_same (λ b. leb 0 b && leb b m) (λ b. leb b m) (contents k l q) (λ b. rw (leb-zero b))

      pub seat-unbound : task ≡ 0 → false ≡ right_seat k l q m task
      unfolding right_seat
      seat-unbound z = rw (e, some, eq-eqb task 0 z)

      pub seat-gap : item_at k l q 0 ≡ 0 → false ≡ right_seat k l q m task
      unfolding right_seat
      seat-gap z =
          let y : get_or (contents k l q) 0 0 ≡ 0 = first ∙ z in
          rw (e, some, y) (no_second (not (eqb task 0) || false) _ (sym (no_second (all (λ b. leb b m) (contents k l q)) false refl)))

      pub seat-high : items_within 0 m (contents k l q) ≡ false → false ≡ right_seat k l q m task
      unfolding right_seat
      seat-high f = rw (e, sym same_within ∙ f) (no_second (not (eqb task 0) || eqb (length (contents k l q)) 0) false refl)

      pub seat-flag : (task ≡ 0 → ⊥) → (item_at k l q 0 ≡ 0 → ⊥) → items_within 0 m (contents k l q) ≡ true
          → (r : Bool) → r ≡ eqb (get_or l (q + gap_word) 0) (gap_flag (contents k l q)) → r ≡ right_seat k l q m task
      unfolding right_seat
      seat-flag t i f r z =
          rw (e, ne_eqb task 0 t, sym same_within ∙ f, some, ne_eqb (get_or (contents k l q) 0 0) 0 (λ y. i (sym first ∙ y))) z
