-- Counting: of lists joined and cut, of sums with one value put anew, and of the numbers 1 to n, each once. Assumes nothing.
use mathlib.Core.Path.{subst, ◌≡◌, refl, sym, ap, ◌∙◌}
use mathlib.Core.List.{List, [], ◌∷◌, ◌++◌}
use Prim.Native.Nat.{ℕ, zero, suc, ◌+◌, ◌≤◌, ◌<◌}
use native.Mathlib.Omega.{arith}
use lib.ListN.{length, take, drop, take-append-drop}
use borrow.Author.Tests.{eq-eqb, ne_eqb}
use Rattle.words.specs.Count.{hit, occurs, sum, down_from}
use Rattle.words.proofs.Lists.{put, same?}

pub hit_self : (b : ℕ) → hit b b ≡ 1
hit_self b = rw (eq-eqb b b refl)

pub hit_same : (b x : ℕ) → b ≡ x → hit b x ≡ 1
hit_same b x e = subst (λ y. hit b y ≡ 1) e (hit_self b)

pub hit_other : (b x : ℕ) → (b ≡ x → ⊥) → hit b x ≡ 0
hit_other b x h = rw (ne_eqb b x h)

pub occurs-append : (b : ℕ) (xs ys : List ℕ) → occurs b (xs ++ ys) ≡ occurs b xs + occurs b ys
occurs-append b [] ys = omega arith
occurs-append b (x ∷ xs) ys = omega (arith, occurs-append b xs ys)

pub occurs-split : (b n : ℕ) (l : List ℕ) → occurs b l ≡ occurs b (take n l) + occurs b (drop n l)
occurs-split b n l = ap (occurs b) (sym (take-append-drop n l)) ∙ occurs-append b (take n l) (drop n l)

-- ---- sums
module _ {ℓ} {B : Type ℓ} (h : B → ℕ) (f : ℕ → B) (k : ℕ) (v : B) where
  sum-out : (n : ℕ) → n ≤ k → sum n (λ q. h (put f k v q)) ≡ sum n (λ q. h (f q))
  unfolding sum
  sum-out zero l = refl
  sum-out (suc n) l = rw (sum-out n (omega arith), ne_eqb n k (λ e. omega arith))

  -- one value put anew: what is added and what is taken away
  pub sum-put : (n : ℕ) → k < n → sum n (λ q. h (put f k v q)) + h (f k) ≡ sum n (λ q. h (f q)) + h v
  unfolding sum
  sum-put zero l = absurd (omega arith)
  sum-put (suc n) l =
      same? n k
      (λ a b. rw (sum-out n (omega arith), a, eq-eqb k k refl) (omega arith))
      (λ a b. rw b (omega (arith, sum-put n (omega arith))))

pub sum_le : (n : ℕ) (f : ℕ → ℕ) (k : ℕ) → k < n → f k ≤ sum n f
unfolding sum
sum_le zero f k l = absurd (omega arith)
sum_le (suc n) f k l = same? n k (λ q e. omega (arith, ap f q)) (λ q e. omega (arith, sum_le n f k (omega arith)))

-- two different places have no more together than all
pub sum_two : (n : ℕ) (f : ℕ → ℕ) (j k : ℕ) → j < n → k < n → (j ≡ k → ⊥) → f j + f k ≤ sum n f
unfolding sum
sum_two zero f j k l m o = absurd (omega arith)
sum_two (suc n) f j k l m o =
    same? n j
    (λ q e. omega (arith, ap f q, sum_le n f k (omega arith)))
    (λ q e. same? n k
    (λ q' e'. omega (arith, ap f q', sum_le n f j (omega arith)))
    (λ q' e'. omega (arith, sum_two n f j k (omega arith) (omega arith) o)))

-- ---- the numbers 1 to n, each once
pub down_out : (n b : ℕ) → n < b → occurs b (down_from n) ≡ 0
down_out zero b l = refl
down_out (suc n) b l = omega (arith, down_out n b (omega arith), hit_other b (suc n) (λ e. omega arith))

pub down_zero : (n : ℕ) → occurs 0 (down_from n) ≡ 0
down_zero zero = refl
down_zero (suc n) = omega (arith, down_zero n, hit_other 0 (suc n) (λ e. omega arith))

pub down_in : (n b : ℕ) → 1 ≤ b → b ≤ n → occurs b (down_from n) ≡ 1
down_in zero b l m = absurd (omega arith)
down_in (suc n) b l m =
    same? b (suc n)
    (λ q e. omega (arith, hit_same b (suc n) q, down_out n b (omega arith)))
    (λ q e. omega (arith, hit_other b (suc n) q, down_in n b l (omega arith)))

pub down_once : (n b : ℕ) → occurs b (down_from n) ≤ 1
down_once zero b = omega arith
down_once (suc n) b =
    same? b (suc n)
    (λ q e. omega (arith, hit_same b (suc n) q, down_out n b (omega arith)))
    (λ q e. omega (arith, hit_other b (suc n) q, down_once n b))

-- a number that stands there is one of 1 to n
pub down_range : (n b : ℕ) → 1 ≤ occurs b (down_from n) → (1 ≤ b) × (b ≤ n)
down_range zero b h = absurd (omega arith)
down_range (suc n) b h =
    same? b (suc n)
    (λ q e. omega arith)
    (λ q e. let k = down_range n b (omega (arith, hit_other b (suc n) q)) in omega arith)

-- ---- a list has as many numbers as are counted in it
sum_plus : (n : ℕ) (f g : ℕ → ℕ) → sum n (λ b. f b + g b) ≡ sum n f + sum n g
unfolding sum
sum_plus zero f g = refl
sum_plus (suc n) f g = omega (arith, sum_plus n f g)

sum_mono : (n : ℕ) (f g : ℕ → ℕ) → ((k : ℕ) → f k ≤ g k) → sum n f ≤ sum n g
unfolding sum
sum_mono zero f g h = omega arith
sum_mono (suc n) f g h = omega (arith, sum_mono n f g h, h n)

sum-hit-out : (n x : ℕ) → n ≤ x → sum n (λ b. hit b x) ≡ 0
unfolding sum
sum-hit-out zero x l = refl
sum-hit-out (suc n) x l = omega (arith, sum-hit-out n x (omega arith), hit_other n x (λ e. omega arith))

sum-hit : (n x : ℕ) → x < n → sum n (λ b. hit b x) ≡ 1
unfolding sum
sum-hit zero x l = absurd (omega arith)
sum-hit (suc n) x l =
    same? n x
    (λ q e. omega (arith, sum-hit-out n x (omega arith), hit_self x, ap (λ (k : ℕ). hit k x) q))
    (λ q e. omega (arith, sum-hit n x (omega arith), hit_other n x q))

sum_none : (n : ℕ) → sum n (λ b. zero) ≡ 0
unfolding sum
sum_none zero = refl
sum_none (suc n) = omega (arith, sum_none n)

pub sum-occurs : (n : ℕ) (l : List ℕ) → ((b : ℕ) → 1 ≤ occurs b l → b < n) → sum n (λ b. occurs b l) ≡ length l
sum-occurs n [] h = sum_none n
sum-occurs n (x ∷ l) h =
    sum_plus n (λ b. hit b x) (λ b. occurs b l)
    ∙ omega (arith, sum-hit n x (h x (omega (arith, hit_self x))), sum-occurs n l (λ b o. h b (omega arith)))

length_down : (n : ℕ) → length (down_from n) ≡ n
length_down zero = refl
length_down (suc n) = omega (arith, length_down n)

-- no more than 1 to n, each once: no more than n
pub count_most : (n : ℕ) (l : List ℕ) → ((b : ℕ) → occurs b l ≤ occurs b (down_from n)) → length l ≤ n
count_most n l h =
    let a = sum-occurs (suc n) l (λ b o. let r = down_range n b (omega (arith, h b)) in omega arith) in
    let d = sum-occurs (suc n) (down_from n) (λ b o. let r = down_range n b o in omega arith) in
    omega (arith, sum_mono (suc n) (λ b. occurs b l) (λ b. occurs b (down_from n)) h, length_down n)
