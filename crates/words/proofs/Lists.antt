-- Case splits that keep their equation, tests joined, and functions of numbers with one value put anew. Assumes nothing.
use mathlib.Core.Path.{◌≡◌, refl, sym, ap₂, ◌∙◌, fun_ext}
use mathlib.Core.Bool.{Bool, true, false, cond, ◌&&◌, false≢true}
use mathlib.Core.List.{List, [], ◌∷◌}
use mathlib.Core.Logic.{◌⊎◌, inl, inr}
use Prim.Native.Nat.{ℕ, zero, suc, ◌≤◌, ◌<◌}
use native.Mathlib.Omega.{arith}
use lib.Dec.{eqb, leb}
use lib.ListN.{length, get_or}
use borrow.Author.Tests.{eqb-true, eqb-false, eq-eqb, ne_eqb, leb-true, leb-false}
use Rattle.std.specs.Prelude.{Option, Some, None, Result, Ok}
use Rattle.words.specs.Words.{every, all, alike}

-- a case split on a test that keeps the equation
pub split {ℓ} : {P : Type ℓ} (b : Bool) → (b ≡ true → P) → (b ≡ false → P) → P
split true f g = f refl
split false f g = g refl

-- the same on an equation of two numbers
pub same? {ℓ} : {P : Type ℓ} (a b : ℕ) → (a ≡ b → eqb a b ≡ true → P) → ((a ≡ b → ⊥) → eqb a b ≡ false → P) → P
same? a b f g = split (eqb a b) (λ e. f (eqb-true a b e) e) (λ e. g (eqb-false a b e) e)

-- one of two numbers is at most the other
pub le_or_lt : (m n : ℕ) → (m ≤ n) ⊎ (n < m)
le_or_lt m n = split (leb m n) (λ e. inl (leb-true m n e)) (λ e. inr (leb-false m n e))

-- what holds of both branches holds of the choice
pub both {ℓ κ} : {A : Type ℓ} (P : A → Type κ) (b : Bool) (x y : A) → P x → P y → P (cond b x y)
both P true x y h k = h
both P false x y h k = k

pub and-true : (a b : Bool) → a && b ≡ true → (a ≡ true) × (b ≡ true)
and-true true b e = (refl, e)
and-true false b e = absurd (false≢true e)

pub and-join : (a b : Bool) → a ≡ true → b ≡ true → a && b ≡ true
and-join a b p q = rw p q

pub and-false : (b : Bool) → b && false ≡ false
and-false true = refl
and-false false = refl

-- a test of two kinds that each bring about the other
pub same_test : (a b : Bool) → (a ≡ true → b ≡ true) → (b ≡ true → a ≡ true) → a ≡ b
same_test true b f g = sym (f refl)
same_test false b f g = split b (λ e. g e ∙ sym e) (λ e. sym e)

-- ---- every number below n passes the test
module _ (p : ℕ → Bool) where
  pub every_at : (n : ℕ) → every n p ≡ true → (k : ℕ) → k < n → p k ≡ true
  unfolding every
  every_at zero e k l = absurd (omega arith)
  every_at (suc n) e k l =
      let h = and-true (every n p) (p n) e in
      same? k n (λ q t. rw q h.1) (λ q t. every_at n h.0 k (omega arith))

  pub every_all : (n : ℕ) → ((k : ℕ) → k < n → p k ≡ true) → every n p ≡ true
  unfolding every
  every_all zero f = refl
  every_all (suc n) f = and-join (every n p) (p n) (every_all n (λ k l. f k (omega arith))) (f n (omega arith))

  -- one number that fails
  pub every-not : (n k : ℕ) → k < n → p k ≡ false → every n p ≡ false
  every-not n k l e =
      split (every n p) (λ t. absurd (false≢true (sym e ∙ every_at n t k l))) (λ t. t)

-- ---- each number of a list passes the test
module _ (p : ℕ → Bool) where
  pub all_head : (x : ℕ) (l : List ℕ) → all p (x ∷ l) ≡ true → (p x ≡ true) × (all p l ≡ true)
  unfolding all
  all_head x l e = and-true (p x) (all p l) e

  pub all_cons : (x : ℕ) (l : List ℕ) → p x ≡ true → all p l ≡ true → all p (x ∷ l) ≡ true
  unfolding all
  all_cons x l e f = and-join (p x) (all p l) e f

  pub all_at : (l : List ℕ) → all p l ≡ true → (k : ℕ) → k < length l → p (get_or l k 0) ≡ true
  all_at [] e k h = absurd (omega arith)
  all_at (x ∷ l) e zero h = (all_head x l e).0
  all_at (x ∷ l) e (suc k) h = all_at l (all_head x l e).1 k (omega arith)

  pub at_all : (l : List ℕ) → ((k : ℕ) → k < length l → p (get_or l k 0) ≡ true) → all p l ≡ true
  unfolding all
  at_all [] f = refl
  at_all (x ∷ l) f = and-join (p x) (all p l) (f 0 (omega arith)) (at_all l (λ k h. f (suc k) (omega arith)))

-- ---- lists that are the same
pub alike_same : (l m : List ℕ) → alike l m ≡ true → l ≡ m
unfolding alike
alike_same [] [] e = refl
alike_same [] (y ∷ m) e = absurd (false≢true e)
alike_same (x ∷ l) [] e = absurd (false≢true e)
alike_same (x ∷ l) (y ∷ m) e =
    let h = and-true (eqb x y) (alike l m) e in
    ap₂ (λ (a : ℕ) (b : List ℕ). a ∷ b) (eqb-true x y h.0) (alike_same l m h.1)

pub same_alike : (l : List ℕ) → alike l l ≡ true
unfolding alike
same_alike [] = refl
same_alike (x ∷ l) = and-join (eqb x x) (alike l l) (eq-eqb x x refl) (same_alike l)

-- ---- a function of numbers with one value put anew
abbrev pub put {ℓ} : {B : Type ℓ} → (ℕ → B) → ℕ → B → ℕ → B
put f k v n = cond (eqb n k) v (f n)

module _ {ℓ} {B : Type ℓ} (f : ℕ → B) (k : ℕ) (v : B) where
  pub put_same : put f k v k ≡ v
  put_same = rw (eq-eqb k k refl)

  pub put_other : (n : ℕ) → (n ≡ k → ⊥) → put f k v n ≡ f n
  put_other n h = rw (ne_eqb n k h)

  pub put-put : (w : B) → put (put f k v) k w ≡ put f k w
  put-put w = fun_ext (λ n. same? n k (λ q e. rw e) (λ q e. rw e))

  -- what holds of the new value, at its place, and of each old one elsewhere, holds of every value
  pub put_all {κ} : (P : ℕ → B → Type κ) → P k v → ((n : ℕ) → (n ≡ k → ⊥) → P n (f n)) → (n : ℕ) → P n (put f k v n)
  put_all P h o n = same? n k (λ q e. rw e (rw q h)) (λ q e. rw e (o n q))

-- ---- what an answer tells of the test that chose it
module _ {ℓ} {A : Type ℓ} (b : Bool) (x y r : A) (e : r ≡ cond b x y) where
  pub told_no : (x ≡ y → ⊥) → r ≡ y → b ≡ false
  told_no n f = split b (λ t. absurd (n (sym (rw t at e) ∙ f))) (λ t. t)

  pub told_yes : (z : A) → (z ≡ y → ⊥) → r ≡ z → (b ≡ true) × (x ≡ z)
  told_yes z n f = split b (λ t. (t, sym (rw t at e) ∙ f)) (λ t. absurd (n (sym f ∙ (rw t at e))))

-- a case split on an option that keeps the equation
pub option? {ℓ} : {A : Type 0} {P : Type ℓ} (x : Option A) → ((y : A) → x ≡ Some y → P) → (x ≡ None → P) → P
option? (Some y) f g = f y refl
option? None f g = g refl

-- ---- the same of an answer that is there where the test says yes, and none where it says no
module _ {A : Type 0} (b : Bool) (x : A) (r : Option A) (e : r ≡ cond b (Some x) None) where
  pub told_none : r ≡ None → b ≡ false
  told_none f = told_no b (Some x) None r e (λ q. cc) f

  pub told_some : (y : A) → r ≡ Some y → (b ≡ true) × (x ≡ y)
  told_some y f = let h = told_yes b (Some x) None r e (Some y) (λ q. cc) f in (h.0, cc)

-- two calls that were done alike answer the same
pub same_ok : {T E : Type 0} {x y : T} → ◌≡◌ {A = Result T E} (Ok x) (Ok y) → x ≡ y
same_ok e = cc
