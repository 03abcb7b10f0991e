-- Letters placed by their tasks' ranks: letters behind letters, and how far each rank rises. Assumes nothing.
use mathlib.Core.Path.{◌≡◌, refl, sym, ap, ◌∙◌}
use mathlib.Core.Bool.{cond}
use mathlib.Core.List.{List, [], ◌∷◌, ◌++◌}
use mathlib.Core.Logic.{⊎_elim}
use Prim.Native.Nat.{ℕ, ◌+◌, ◌≤◌, ◌<◌}
use native.Mathlib.Omega.{arith}
use lib.Dec.{eqb}
use lib.ListN.{length, get_or, set, length-set, get_or-eq_default}
use lib.Seq.{get_or-set_same, get_or-set_other}
use Rattle.words.proofs.Lists.{same?, le_or_lt}
use Rattle.showing.specs.declared.Shown.{Shown}
use Rattle.listing.specs.Asked.{laid_at, Rows, placed, Low}
use Rattle.listing.proofs.Laying.{length_at}

abbrev pub rows : List ℕ → List ℕ → Rows
rows ranks out = record { ranks = ranks; out = out }

-- one letter placed
abbrev pub place : Shown → Rows → Rows
place x r = rows (set r.ranks x.destination (get_or r.ranks x.destination 0 + 1)) (laid_at x (get_or r.ranks x.destination 0) r.out)

-- of the letters those for task t, in their order
abbrev pub for_task : ℕ → List Shown → List Shown
for_task t [] = []
for_task t (x ∷ xs) = cond (eqb x.destination t) (x ∷ for_task t xs) (for_task t xs)

pub for_append : (t : ℕ) (xs ys : List Shown) → for_task t (xs ++ ys) ≡ for_task t xs ++ for_task t ys
for_append t [] ys = refl
for_append t (x ∷ xs) ys =
    same? x.destination t
    (λ q e. rw e (ap (λ (l : List Shown). x ∷ l) (for_append t xs ys)))
    (λ q e. rw e (for_append t xs ys))

placed-append : (xs ys : List Shown) (r : Rows) → placed (xs ++ ys) r ≡ placed ys (placed xs r)
unfolding placed
placed-append [] ys r = refl
placed-append (x ∷ xs) ys r = placed-append xs ys _

-- letters behind letters
pub placed-join : (xs ys : List Shown) (start mid end : Rows) → mid ≡ placed xs start → end ≡ placed ys mid → end ≡ placed (xs ++ ys) start
placed-join xs ys start mid end a b = b ∙ ap (placed ys) a ∙ sym (placed-append xs ys start)

-- ---- the ranks
length-ranks : (xs : List Shown) (r : Rows) → length (placed xs r).ranks ≡ length r.ranks
unfolding placed
length-ranks [] r = refl
length-ranks (x ∷ xs) r = length-ranks xs _ ∙ length-set r.ranks x.destination _

bump_own : (l : List ℕ) (d t : ℕ) → d ≡ t → t < length l → get_or (set l d (get_or l d 0 + 1)) t 0 ≡ get_or l t 0 + 1
bump_own l d t q h = rw q (get_or-set_same l t (get_or l t 0 + 1) 0 h)

pub length_for : (t : ℕ) (xs : List Shown) → length (for_task t xs) ≤ length xs
length_for t [] = omega arith
length_for t (x ∷ xs) = same? x.destination t (λ q e. rw e (omega (arith, length_for t xs))) (λ q e. rw e (omega (arith, length_for t xs)))

-- a rank rises by the number of letters for its task
rank_placed : (xs : List Shown) (r : Rows) (t : ℕ) → t < length r.ranks → get_or (placed xs r).ranks t 0 ≡ get_or r.ranks t 0 + length (for_task t xs)
unfolding placed
rank_placed [] r t h = omega arith
rank_placed (x ∷ xs) r t h =
    let g : t < length (set r.ranks x.destination (get_or r.ranks x.destination 0 + 1)) = rw (length-set r.ranks x.destination (get_or r.ranks x.destination 0 + 1)) h in
    let a = rank_placed xs (place x r) t g in
    same? x.destination t
    (λ q e. rw e (omega (arith, a, bump_own r.ranks x.destination t q h)))
    (λ q e. rw e (omega (arith, a, get_or-set_other r.ranks x.destination t (get_or r.ranks x.destination 0 + 1) 0 (λ z. q (sym z)))))

-- ---- what is placed so far
length-out : (xs : List Shown) (r : Rows) → length (placed xs r).out ≡ length r.out
unfolding placed
length-out [] r = refl
length-out (x ∷ xs) r = length-out xs (place x r) ∙ length_at x (get_or r.ranks x.destination 0) r.out

module _ (xs : List Shown) (ranks₀ out₀ ranks out : List ℕ) (e : rows ranks out ≡ placed xs (rows ranks₀ out₀)) where
  pub so_long : length out ≡ length out₀
  so_long = ap (λ (r : Rows). length r.out) e ∙ length-out xs (rows ranks₀ out₀)

  pub so_ranked : length ranks ≡ length ranks₀
  so_ranked = ap (λ (r : Rows). length r.ranks) e ∙ length-ranks xs (rows ranks₀ out₀)

  pub so_rank : (t : ℕ) → t < length ranks₀ → get_or ranks t 0 ≡ get_or ranks₀ t 0 + length (for_task t xs)
  so_rank t h = ap (λ (r : Rows). get_or r.ranks t 0) e ∙ rank_placed xs (rows ranks₀ out₀) t h

  pub so_low : (n more : ℕ) → Low ranks₀ n → length xs + more ≤ n → Low ranks more
  so_low n more l h = record { long = so_ranked ∙ l.long; few = few }
    where
      few : (t : ℕ) → get_or ranks t 0 + more ≤ 4294967295
      few t =
          ⊎_elim
          (λ g. omega (arith, l.few t, get_or-eq_default ranks 0 {n = t} (rw so_ranked g)))
          (λ g. omega (arith, l.few t, so_rank t g, length_for t xs))
          (le_or_lt (length ranks₀) t)
