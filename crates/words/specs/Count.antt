-- Counting: how often a number stands in a list, and the numbers from 1 up.
use Rattle.std.specs.Prelude.{cond, List, [], ◌∷◌, ℕ, zero, suc, ◌+◌, eqb}

-- 1 where the two numbers are the same, else 0
abbrev pub hit : ℕ → ℕ → ℕ
hit b x = cond (eqb b x) 1 0

-- how often b stands in the list
abbrev pub occurs : ℕ → List ℕ → ℕ
occurs b [] = zero
occurs b (x ∷ l) = hit b x + occurs b l

-- the sum of f below n
unfoldable pub sum : ℕ → (ℕ → ℕ) → ℕ
sum zero f = zero
sum (suc n) f = sum n f + f n

-- the numbers n, .. 2, 1
abbrev pub down_from : ℕ → List ℕ
down_from zero = []
down_from (suc n) = suc n ∷ down_from n
