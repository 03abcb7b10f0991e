-- The items of a task queue as a list: live items, gaps, and what taking an item out leaves.
use Rattle.std.specs.Prelude.{cond, List, [], ◌∷◌, ℕ, zero, suc, eqb, set}

-- the items that are not 0, in their order
unfoldable pub live : List ℕ → List ℕ
live [] = []
live (x ∷ xs) = cond (eqb x 0) (live xs) (x ∷ live xs)

-- 'the gap flag is 1 exactly when an item is 0, otherwise 0'
unfoldable pub gap_flag : List ℕ → ℕ
gap_flag [] = 0
gap_flag (x ∷ xs) = cond (eqb x 0) 1 (gap_flag xs)

-- the items without the zeroes at their front
unfoldable pub after_zeroes : List ℕ → List ℕ
after_zeroes [] = []
after_zeroes (x ∷ xs) = cond (eqb x 0) (after_zeroes xs) (x ∷ xs)

-- 'The first item is dropped together with zeroes directly behind it; an item further in becomes 0'
unfoldable pub without : ℕ → List ℕ → List ℕ
without i [] = []
without zero (x ∷ xs) = after_zeroes xs
without (suc i) (x ∷ xs) = x ∷ set xs i 0
