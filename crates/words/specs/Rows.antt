-- Words as rows that stand one behind the other, each as wide as a function of its number says.
use Rattle.std.specs.Prelude.{List, ℕ, zero, suc, ◌+◌, take, drop}

-- where row r starts: where the row before it ends
unfoldable pub start : (ℕ → ℕ) → ℕ → ℕ
start width zero = 0
start width (suc r) = start width r + width r

-- the words of row r
unfoldable pub row : (ℕ → ℕ) → List ℕ → ℕ → List ℕ
row width l r = take (width r) (drop (start width r) l)
