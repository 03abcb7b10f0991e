-- Tests of many numbers: one more, the same under other words, and joined. Assumes nothing.
use mathlib.Core.Path.{◌≡◌, refl, sym, ap, ap₂, ◌∙◌}
use mathlib.Core.Bool.{Bool, true, false, ◌&&◌}
use mathlib.Core.List.{List, [], ◌∷◌, ◌++◌}
use Prim.Native.Nat.{ℕ, zero, suc, ◌+◌, ◌<◌}
use native.Mathlib.Numerals.{add-one}
use native.Mathlib.Omega.{arith}
use Rattle.words.specs.Words.{every, all}
use Rattle.words.proofs.Lists.{and-join, every-not}

-- ---- tests joined
pub and_assoc : (a b c : Bool) → (a && b) && c ≡ a && (b && c)
and_assoc true b c = refl
and_assoc false b c = refl

pub and_yes : (a : Bool) → a && true ≡ a
and_yes true = refl
and_yes false = refl

-- the two middle tests of four change places
pub and_cross : (a b c d : Bool) → (a && b) && (c && d) ≡ (a && c) && (b && d)
and_cross true b true d = refl
and_cross true true false d = refl
and_cross true false false d = refl
and_cross false b c d = refl

-- a test that is false makes the whole false, first or second
pub no_first : (a b : Bool) → a ≡ false → false ≡ a && b
no_first a b e = rw e

pub no_second : (a b : Bool) → b ≡ false → false ≡ a && b
no_second true b e = sym e
no_second false b e = refl

-- a test passed leaves the rest
pub yes_first : (a b r : Bool) → a ≡ true → r ≡ b → r ≡ a && b
yes_first a b r e f = rw e f

-- ---- of each number below n
module _ (p : ℕ → Bool) where
  pub every_none : every 0 p ≡ true
  unfolding every
  every_none = refl

  pub every_step : (n : ℕ) → every (n + 1) p ≡ every n p && p n
  unfolding every
  every_step n = rw (add-one n)

  pub every_more : (n : ℕ) → every n p ≡ true → p n ≡ true → every (n + 1) p ≡ true
  every_more n e f = every_step n ∙ and-join (every n p) (p n) e f

-- ---- a loop that tests each number below n
module _ (p : ℕ → Bool) (n i : ℕ) where
  pub turn_no : i < n → (r : Bool) → r ≡ p i → r ≡ false → false ≡ every n p
  turn_no h r e f = sym (every-not p n i h (sym e ∙ f))

  pub turn_more : every i p ≡ true → (r : Bool) → r ≡ p i → r ≡ true → every (i + 1) p ≡ true
  turn_more w r e f = every_more p i w (sym e ∙ f)

  pub turn_all : i ≡ n → every i p ≡ true → true ≡ every n p
  turn_all q w = sym (rw q at w)

pub every_same : (p q : ℕ → Bool) (n : ℕ) → ((k : ℕ) → k < n → p k ≡ q k) → every n p ≡ every n q
unfolding every
every_same p q zero f = refl
every_same p q (suc n) f = ap₂ ◌&&◌ (every_same p q n (λ k h. f k (omega arith))) (f n (omega arith))

-- ---- of each number of a list
module _ (p : ℕ → Bool) where
  pub all_none : all p [] ≡ true
  unfolding all
  all_none = refl

  pub all_append : (l m : List ℕ) → all p (l ++ m) ≡ all p l && all p m
  unfolding all
  all_append [] m = refl
  all_append (x ∷ l) m = ap (λ (b : Bool). p x && b) (all_append l m) ∙ sym (and_assoc (p x) (all p l) (all p m))

pub all_same : (p q : ℕ → Bool) (l : List ℕ) → ((x : ℕ) → p x ≡ q x) → all p l ≡ all q l
unfolding all
all_same p q [] f = refl
all_same p q (x ∷ l) f = ap₂ ◌&&◌ (f x) (all_same p q l f)
