-- Words that are 0, as they are joined, and the slots outside the items as they stand in the stretch. Assumes nothing.
use mathlib.Core.Path.{◌≡◌, refl, sym, ap, ◌∙◌}
use mathlib.Core.Bool.{Bool, true, ◌&&◌, ◌||◌}
use mathlib.Core.List.{List}
use mathlib.Core.Logic.{⊎_elim}
use Prim.Native.Nat.{ℕ, suc, ◌+◌, ◌-◌, ◌%◌, ◌≤◌, ◌<◌}
use native.Mathlib.Nat.{mod-eq_of_lt, mod-eq-sub-mod}
use native.Mathlib.Omega.{arith}
use lib.Bits.{bit_or}
use lib.Dec.{eqb, ltb}
use lib.ListN.{get_or}
use borrow.Author.Tests.{eqb-true, eq-eqb, lt-ltb, le-ltb}
use Rattle.words.specs.Words.{every}
use Rattle.words.proofs.Bits.{or_zero}
use Rattle.words.proofs.Lists.{le_or_lt, and-true, and-join, same_test, every_at, every_all}
use Rattle.queues.specs.declared.Kind.{Kind}
use Rattle.queues.specs.Queue.{start, items, item_at}
use Rattle.shapes.specs.Shape.{zeroes, clear_outside}

-- ---- words that are 0
module _ (l : List ℕ) (a e : ℕ) where
  abbrev zero-there : ℕ → Bool
  zero-there i = eqb (get_or l (a + i) 0) 0

  zero_at : zeroes l a e ≡ true → (p : ℕ) → a ≤ p → p < e → get_or l p 0 ≡ 0
  unfolding zeroes
  zero_at h p x y =
      let d : a + (p - a) ≡ p = omega arith in
      ap (λ (n : ℕ). get_or l n 0) (sym d) ∙ eqb-true (get_or l (a + (p - a)) 0) 0 (every_at zero-there (e - a) h (p - a) (omega arith))

  zero_all : ((p : ℕ) → a ≤ p → p < e → get_or l p 0 ≡ 0) → zeroes l a e ≡ true
  unfolding zeroes
  zero_all f = every_all zero-there (e - a) (λ i h. eq-eqb (get_or l (a + i) 0) 0 (f (a + i) (omega arith) (omega arith)))

-- a turn of the loop: what is joined of the words so far is 0 when each of them is
module _ (l : List ℕ) (a : ℕ) where
  pub zero_none : true ≡ zeroes l a a
  zero_none = sym (zero_all l a a (λ p x y. absurd (omega arith)))

  pub zero_more : (i bits : ℕ) → a ≤ i → eqb bits 0 ≡ zeroes l a i → eqb (bit_or bits (get_or l i 0)) 0 ≡ zeroes l a (i + 1)
  unfolding zeroes every
  zero_more i bits h p =
      let d : i + 1 - a ≡ suc (i - a) = omega arith in
      let g : a + (i - a) ≡ i = omega arith in
      or_zero bits (get_or l i 0) ∙ rw (d, g) (ap (λ (b : Bool). b && eqb (get_or l i 0) 0) p)

-- ---- a queue's slots, by its start and its number of items
module _ (k : Kind) (l : List ℕ) (q first count : ℕ) (x : (first ≡ start k l q) × (first < k.slots)) (y : (count ≡ items k l q) × (count ≤ k.slots)) where
  abbrev base : ℕ
  base = q + k.head

  -- the word of slot i: as far on as the start, or round
  at : (i n p : ℕ) → (first + i) % k.slots ≡ n → base + n ≡ p → item_at k l q i ≡ get_or l p 0
  at i n p e d =
      let s : q + (k.head + n) ≡ p = omega arith in
      ap (λ (f : ℕ). get_or l (q + (k.head + (f + i) % k.slots)) 0) (sym x.0) ∙ ap (λ (n : ℕ). get_or l (q + (k.head + n)) 0) e ∙ ap (λ (n : ℕ). get_or l n 0) s

  straight : (i p : ℕ) → first + i < k.slots → base + (first + i) ≡ p → item_at k l q i ≡ get_or l p 0
  straight i p h d = at i (first + i) p (mod-eq_of_lt h) d

  round : (i p : ℕ) → k.slots ≤ first + i → i < k.slots → base + (first + i) ≡ p + k.slots → item_at k l q i ≡ get_or l p 0
  round i p h g d = at i (first + i - k.slots) p (mod-eq-sub-mod h ∙ mod-eq_of_lt (omega arith)) (omega arith)

  -- where the slots outside the items are 0
  clear_all : ((i : ℕ) → count ≤ i → i < k.slots → item_at k l q i ≡ 0) → clear_outside k l q ≡ true
  unfolding clear_outside
  clear_all g =
      every_all (λ i. ltb i (items k l q) || eqb (item_at k l q i) 0) k.slots
      (λ i v. ⊎_elim
      (λ u. rw (le-ltb i (items k l q) u) (eq-eqb (item_at k l q i) 0 (g i (omega arith) v)))
      (λ u. rw (lt-ltb i (items k l q) u))
      (le_or_lt (items k l q) i))

  module _ (e : clear_outside k l q ≡ true) where
    clear_at : (i : ℕ) → count ≤ i → i < k.slots → item_at k l q i ≡ 0
    unfolding clear_outside
    clear_at i u v =
        eqb-true (item_at k l q i) 0
        (rw (le-ltb i (items k l q) (omega arith)) at (every_at (λ i. ltb i (items k l q) || eqb (item_at k l q i) 0) k.slots e i v))

    -- a word behind the last item
    behind : (p : ℕ) → base + (first + count) ≤ p → p < base + k.slots → get_or l p 0 ≡ 0
    behind p u v =
        let i : ℕ = p - (base + first) in
        sym (straight i p (omega arith) (omega arith)) ∙ clear_at i (omega arith) (omega arith)

    -- a word before the first, and behind the last where the items run round
    before : (p : ℕ) → base ≤ p → p < base + first → base + (first + count) ≤ p + k.slots → get_or l p 0 ≡ 0
    before p u v w =
        let i : ℕ = p + k.slots - (base + first) in
        sym (round i p (omega arith) (omega arith) (omega arith)) ∙ clear_at i (omega arith) (omega arith)

  -- no items: all slots
  pub clear_none : count ≡ 0 → zeroes l base (base + k.slots) ≡ clear_outside k l q
  clear_none z =
      same_test (zeroes l base (base + k.slots)) (clear_outside k l q)
      (λ e. let d = zero_at l base (base + k.slots) e in
      clear_all (λ i u v. ⊎_elim
      (λ w. round i (base + (first + i - k.slots)) w v (omega arith) ∙ d (base + (first + i - k.slots)) (omega arith) (omega arith))
      (λ w. straight i (base + (first + i)) w refl ∙ d (base + (first + i)) (omega arith) (omega arith))
      (le_or_lt k.slots (first + i))))
      (λ e. zero_all l base (base + k.slots)
      (λ p u v. ⊎_elim (λ w. behind e p (omega arith) v) (λ w. before e p u w (omega arith)) (le_or_lt (base + first) p)))

  -- the items do not run round: what is behind them, and what is before them
  pub clear_straight : first + count ≤ k.slots → zeroes l (base + (first + count)) (base + k.slots) && zeroes l base (base + first) ≡ clear_outside k l q
  clear_straight h =
      same_test (zeroes l (base + (first + count)) (base + k.slots) && zeroes l base (base + first)) (clear_outside k l q)
      (λ e. let d = and-true (zeroes l (base + (first + count)) (base + k.slots)) (zeroes l base (base + first)) e in
      clear_all (λ i u v. ⊎_elim
      (λ w. round i (base + (first + i - k.slots)) w v (omega arith) ∙ zero_at l base (base + first) d.1 (base + (first + i - k.slots)) (omega arith) (omega arith))
      (λ w. straight i (base + (first + i)) w refl ∙ zero_at l (base + (first + count)) (base + k.slots) d.0 (base + (first + i)) (omega arith) (omega arith))
      (le_or_lt k.slots (first + i))))
      (λ e. and-join (zeroes l (base + (first + count)) (base + k.slots)) (zeroes l base (base + first))
      (zero_all l (base + (first + count)) (base + k.slots) (behind e))
      (zero_all l base (base + first) (λ p u v. before e p u v (omega arith))))

  -- the items run round: what is between their last and their first
  pub clear_round : k.slots < first + count → zeroes l (base + (first + count - k.slots)) (base + first) ≡ clear_outside k l q
  clear_round h =
      same_test (zeroes l (base + (first + count - k.slots)) (base + first)) (clear_outside k l q)
      (λ e. clear_all (λ i u v.
      round i (base + (first + i - k.slots)) (omega arith) v (omega arith)
      ∙ zero_at l (base + (first + count - k.slots)) (base + first) e (base + (first + i - k.slots)) (omega arith) (omega arith)))
      (λ e. zero_all l (base + (first + count - k.slots)) (base + first) (λ p u v. before e p (omega arith) v (omega arith)))
