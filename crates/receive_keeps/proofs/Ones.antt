-- The letters of a task queue that are no gaps, when one is taken out; and the first of them that passes a test. Assumes nothing.
use mathlib.Core.Path.{◌≡◌, refl, ap}
use mathlib.Core.List.{List, [], ◌∷◌, ◌++◌}
use Prim.Native.Nat.{ℕ, zero, suc, ◌<◌}
use native.Mathlib.Omega.{arith}
use lib.Dec.{eqb}
use lib.ListN.{length, get_or, set, take, drop}
use borrow.Author.Tests.{ne_eqb}
use Rattle.words.proofs.Lists.{split, same?}
use Rattle.machine.specs.Machine.{Letter, gap, first, firsts, All}
use Rattle.moves.specs.Letters.{live_ones}
use Rattle.moves.proofs.Made.{after_gaps, letters_without}

ones_after : (ls : List Letter) → live_ones (after_gaps ls) ≡ live_ones ls
unfolding live_ones after_gaps
ones_after [] = refl
ones_after (L ∷ ls) = split (eqb (first L) 0) (λ t. rw t (ones_after ls)) (λ t. rw t (rw t))

ones_set : (ls : List Letter) (n : ℕ) → n < length ls → live_ones (set ls n gap) ≡ live_ones (take n ls) ++ live_ones (drop (suc n) ls)
unfolding live_ones
ones_set [] n h = absurd (omega arith)
ones_set (L ∷ ls) zero h = refl
ones_set (L ∷ ls) (suc n) h =
    split (eqb (first L) 0)
    (λ t. rw t (ones_set ls n (omega arith)))
    (λ t. rw t (ap (λ (k : List Letter). L ∷ k) (ones_set ls n (omega arith))))

-- the others stay, in their order
pub ones_without : (n : ℕ) (ls : List Letter) → n < length ls → live_ones (letters_without n ls) ≡ live_ones (take n ls) ++ live_ones (drop (suc n) ls)
unfolding live_ones letters_without
ones_without n [] h = absurd (omega arith)
ones_without zero (L ∷ ls) h = ones_after ls
ones_without (suc n) (L ∷ ls) h =
    split (eqb (first L) 0)
    (λ t. rw t (ones_set ls n (omega arith)))
    (λ t. rw t (ap (λ (k : List Letter). L ∷ k) (ones_set ls n (omega arith))))

pub ones_split : (n : ℕ) (ls : List Letter) → n < length ls → (first (get_or ls n gap) ≡ 0 → ⊥) → live_ones ls ≡ live_ones (take n ls) ++ get_or ls n gap ∷ live_ones (drop (suc n) ls)
unfolding live_ones
ones_split n [] h v = absurd (omega arith)
ones_split zero (L ∷ ls) h v = rw (ne_eqb (first L) 0 v)
ones_split (suc n) (L ∷ ls) h v =
    split (eqb (first L) 0)
    (λ t. rw t (ones_split n ls (omega arith) v))
    (λ t. rw t (ap (λ (k : List Letter). L ∷ k) (ones_split n ls (omega arith) v)))

-- what holds of each of the first n that is no gap
pub ones_before : (P : Letter → Type 0) (n : ℕ) (ls : List Letter) → ((j : ℕ) → j < n → j < length ls → (first (get_or ls j gap) ≡ 0 → ⊥) → P (get_or ls j gap)) → All P (live_ones (take n ls))
unfolding live_ones
ones_before P zero ls f = tt
ones_before P (suc n) [] f = tt
ones_before P (suc n) (L ∷ ls) f =
    same? (first L) 0
    (λ e t. rw t (ones_before P n ls (λ j a b. f (suc j) (omega arith) (omega arith))))
    (λ e t. rw t (f 0 (omega arith) (omega arith) e, ones_before P n ls (λ j a b. f (suc j) (omega arith) (omega arith))))

-- the first block of each
pub firsts_at : (ls : List Letter) (j : ℕ) → get_or (firsts ls) j 0 ≡ first (get_or ls j gap)
firsts_at [] j = refl
firsts_at (L ∷ ls) zero = refl
firsts_at (L ∷ ls) (suc j) = firsts_at ls j
