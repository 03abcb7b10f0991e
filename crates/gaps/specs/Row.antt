-- The side row of 255 words through which gaps are closed: no contract but those of the two functions that fill and empty it speaks of it.
use Rattle.std.specs.Prelude.{◌≡◌, List, ℕ, length, get_or}

-- the row holds the n numbers p, and 0 behind them
pub record Row (p row : List ℕ) (n : ℕ) : Type 0 where
  pub size : length row ≡ 255
  pub many : n ≡ length p
  pub holds : (j : ℕ) → get_or row j 0 ≡ get_or p j 0
