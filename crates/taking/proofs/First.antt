-- What finding tells: the item found is live and wanted, none before it is, and where nothing is found none is. Assumes nothing.
use Rattle.std.specs.Prelude.{None, Some}
use mathlib.Core.Path.{◌≡◌}
use mathlib.Core.Bool.{Bool, true, false, false≢true}
use mathlib.Core.List.{List, [], ◌∷◌}
use Prim.Native.Nat.{ℕ, zero, suc, ◌+◌, ◌-◌, ◌≤◌, ◌<◌}
use native.Mathlib.Omega.{arith}
use lib.ListN.{length, get_or}
use borrow.Author.Tests.{eq-eqb}
use Rattle.words.proofs.Lists.{split}
use Rattle.settings.specs.declared.Settings.{Settings}
use Rattle.taking.specs.Find.{wanted, first_from}

-- j is the first place of xs whose item passes the test
pub record IsFirst (p : ℕ → Bool) (xs : List ℕ) (j : ℕ) : Type 0 where
  pub within : j < length xs
  pub passes : p (get_or xs j 0) ≡ true
  pub before : (n : ℕ) → n < j → p (get_or xs n 0) ≡ false

module _ (p : ℕ → Bool) where
  first_cons : (x : ℕ) (xs : List ℕ) (j : ℕ) → p x ≡ false → IsFirst p xs j → IsFirst p (x ∷ xs) (suc j)
  first_cons x xs j e f = record { within = omega (arith, f.within); passes = f.passes; before = at }
    where
      at : (n : ℕ) → n < suc j → p (get_or (x ∷ xs) n 0) ≡ false
      at zero h = e
      at (suc n) h = f.before n (omega arith)

  first_at : (i : ℕ) (xs : List ℕ) (m : ℕ) → first_from p i xs ≡ Some m → (i ≤ m) × IsFirst p xs (m - i)
  unfolding first_from
  first_at i [] m e = absurd (let z : ◌≡◌ {A = ℕ} 0 1 = cc in omega arith)
  first_at i (x ∷ xs) m e =
      split (p x)
      (λ t.
      let z : Some i ≡ Some m = rw t at e in
      let y : i ≡ m = cc in
      let d : m - i ≡ 0 = omega arith in
      (omega arith, rw d (record { within = omega arith; passes = t; before = λ n h. absurd (omega arith) })))
      (λ t.
      let f = first_at (i + 1) xs m (rw t at e) in
      let h : i + 1 ≤ m = f.0 in
      let d : m - i ≡ suc (m - (i + 1)) = omega arith in
      (omega arith, rw d (first_cons x xs (m - (i + 1)) t f.1)))

  -- FOUND: the first that passes
  pub found_at : (xs : List ℕ) (j : ℕ) → first_from p 0 xs ≡ Some j → IsFirst p xs j
  found_at xs j e = let d : j - 0 ≡ j = omega arith in rw d at (first_at 0 xs j e).1

  first-nothing : (i : ℕ) (xs : List ℕ) → first_from p i xs ≡ None → (n : ℕ) → n < length xs → p (get_or xs n 0) ≡ false
  unfolding first_from
  first-nothing i [] e n h = absurd (omega arith)
  first-nothing i (x ∷ xs) e n h =
      split (p x)
      (λ t. absurd (let z : Some i ≡ None = rw t at e in let y : ◌≡◌ {A = ℕ} 0 1 = cc in omega arith))
      (λ t. later n h t (first-nothing (i + 1) xs (rw t at e)))
    where
      later : (n : ℕ) → n < suc (length xs) → p x ≡ false → ((n : ℕ) → n < length xs → p (get_or xs n 0) ≡ false) → p (get_or (x ∷ xs) n 0) ≡ false
      later zero h t f = t
      later (suc n) h t f = f n (omega arith)

  -- NOTHING FOUND: none passes
  pub found_nothing : (xs : List ℕ) → first_from p 0 xs ≡ None → (n : ℕ) → n < length xs → p (get_or xs n 0) ≡ false
  found_nothing xs = first-nothing 0 xs

-- what is wanted is a letter
pub wanted-live : (s : Settings) (l : List ℕ) (source b : ℕ) → wanted s l source b ≡ true → b ≡ 0 → ⊥
unfolding wanted
wanted-live s l source b e z = false≢true (rw (eq-eqb b 0 z) at e)
