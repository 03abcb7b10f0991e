-- Letters of a task queue and its items: gaps left out, gaps at the front left out, one letter taken out. Assumes nothing.
use mathlib.Core.Path.{◌≡◌, refl, ap}
use mathlib.Core.Bool.{true}
use mathlib.Core.List.{List, [], ◌∷◌, ◌++◌}
use Prim.Native.Nat.{ℕ, zero, suc, ◌+◌, ◌<◌}
use native.Mathlib.Omega.{arith}
use lib.Dec.{eqb}
use lib.ListN.{length, get_or, set}
use borrow.Author.Tests.{eqb-true, ne_eqb}
use Rattle.words.specs.Count.{hit, occurs}
use Rattle.words.proofs.Count.{hit_self}
use Rattle.words.proofs.Lists.{split}
use Rattle.queues.specs.Items.{live, after_zeroes, without}
use Rattle.machine.specs.Machine.{Letter, gap, first, firsts, All, many}
use Rattle.moves.specs.Letters.{live_ones}
use Rattle.moves.proofs.Made.{after_gaps, letters_without}

-- a letter whose first block is 0, which is no block, has none
gone : (b : ℕ) (L : Letter) → eqb (first L) 0 ≡ true → occurs 0 L.chain ≡ 0 → occurs b L.chain ≡ 0
gone b L t o = go L.chain (eqb-true (first L) 0 t) o
  where
    go : (c : List ℕ) → get_or c 0 0 ≡ 0 → occurs 0 c ≡ 0 → occurs b c ≡ 0
    go [] e o = refl
    go (x ∷ c) e o = absurd (let h : hit 0 x ≡ 1 = rw e (hit_self 0) in omega arith)

-- ---- gaps left out
pub firsts-live : (ls : List Letter) → firsts (live_ones ls) ≡ live (firsts ls)
unfolding live_ones live
firsts-live [] = refl
firsts-live (L ∷ ls) = split (eqb (first L) 0) (λ t. rw t (firsts-live ls)) (λ t. rw t (ap (λ (l : List ℕ). first L ∷ l) (firsts-live ls)))

pub all_live : (P : Letter → Type 0) (ls : List Letter) → All P ls → All P (live_ones ls)
unfolding live_ones
all_live P [] h = tt
all_live P (L ∷ ls) h = split (eqb (first L) 0) (λ t. rw t (all_live P ls h.1)) (λ t. rw t (h.0, all_live P ls h.1))

pub many-live : (b : ℕ) (ls : List Letter) → many 0 ls ≡ 0 → many b (live_ones ls) ≡ many b ls
unfolding live_ones
many-live b [] o = refl
many-live b (L ∷ ls) o =
    split (eqb (first L) 0)
    (λ t. rw t (omega (arith, many-live b ls (omega arith), gone b L t (omega arith))))
    (λ t. rw t (omega (arith, many-live b ls (omega arith))))

-- a live one behind the last, and gaps left out twice
pub live_more : (xs : List Letter) (L : Letter) → (first L ≡ 0 → ⊥) → live_ones (xs ++ L ∷ []) ≡ live_ones xs ++ L ∷ []
unfolding live_ones
live_more [] L n = rw (ne_eqb (first L) 0 n)
live_more (x ∷ xs) L n = split (eqb (first x) 0) (λ e. rw e (live_more xs L n)) (λ e. rw e (ap (λ (l : List Letter). x ∷ l) (live_more xs L n)))

pub live_twice : (xs : List Letter) → live_ones (live_ones xs) ≡ live_ones xs
unfolding live_ones
live_twice [] = refl
live_twice (x ∷ xs) = split (eqb (first x) 0) (λ e. rw e (live_twice xs)) (λ e. rw e (rw e (ap (λ (l : List Letter). x ∷ l) (live_twice xs))))

-- ---- gaps at the front left out
pub firsts_after : (ls : List Letter) → firsts (after_gaps ls) ≡ after_zeroes (firsts ls)
unfolding after_gaps after_zeroes
firsts_after [] = refl
firsts_after (L ∷ ls) = split (eqb (first L) 0) (λ t. rw t (firsts_after ls)) (λ t. rw t)

pub all_after : (P : Letter → Type 0) (ls : List Letter) → All P ls → All P (after_gaps ls)
unfolding after_gaps
all_after P [] h = tt
all_after P (L ∷ ls) h = split (eqb (first L) 0) (λ t. rw t (all_after P ls h.1)) (λ t. rw t h)

pub many-after : (b : ℕ) (ls : List Letter) → many 0 ls ≡ 0 → many b (after_gaps ls) ≡ many b ls
unfolding after_gaps
many-after b [] o = refl
many-after b (L ∷ ls) o =
    split (eqb (first L) 0)
    (λ t. rw t (omega (arith, many-after b ls (omega arith), gone b L t (omega arith))))
    (λ t. rw t)

-- ---- one taken out
firsts-set : (ls : List Letter) (i : ℕ) → firsts (set ls i gap) ≡ set (firsts ls) i 0
firsts-set [] i = refl
firsts-set (L ∷ ls) zero = refl
firsts-set (L ∷ ls) (suc i) = ap (λ (l : List ℕ). first L ∷ l) (firsts-set ls i)

pub firsts-without : (i : ℕ) (ls : List Letter) → firsts (letters_without i ls) ≡ without i (firsts ls)
unfolding letters_without without
firsts-without i [] = refl
firsts-without zero (L ∷ ls) = firsts_after ls
firsts-without (suc i) (L ∷ ls) = ap (λ (l : List ℕ). first L ∷ l) (firsts-set ls i)

all_set : (P : Letter → Type 0) (ls : List Letter) (i : ℕ) → P gap → All P ls → All P (set ls i gap)
all_set P [] i g h = tt
all_set P (L ∷ ls) zero g h = (g, h.1)
all_set P (L ∷ ls) (suc i) g h = (h.0, all_set P ls i g h.1)

pub all_without : (P : Letter → Type 0) (i : ℕ) (ls : List Letter) → P gap → All P ls → All P (letters_without i ls)
unfolding letters_without
all_without P i [] g h = tt
all_without P zero (L ∷ ls) g h = all_after P ls h.1
all_without P (suc i) (L ∷ ls) g h = (h.0, all_set P ls i g h.1)

many-set : (b : ℕ) (ls : List Letter) (i : ℕ) → i < length ls → many b (set ls i gap) + occurs b (get_or ls i gap).chain ≡ many b ls
many-set b [] i h = absurd (omega arith)
many-set b (L ∷ ls) zero h = omega arith
many-set b (L ∷ ls) (suc i) h = omega (arith, many-set b ls i (omega arith))

pub many-without : (b i : ℕ) (ls : List Letter) → i < length ls → many 0 ls ≡ 0 → many b (letters_without i ls) + occurs b (get_or ls i gap).chain ≡ many b ls
unfolding letters_without
many-without b i [] h o = absurd (omega arith)
many-without b zero (L ∷ ls) h o = omega (arith, many-after b ls (omega arith))
many-without b (suc i) (L ∷ ls) h o = omega (arith, many-set b ls i (omega arith))
