-- The words that a script describes, and the sum by which a line shows all the words of a slice.
use Rattle.std.specs.Prelude.{ℕ, zero, suc, ◌+◌, ◌*◌, ◌%◌, List, [], ◌∷◌, ◌++◌}

-- n words: word i is f + i modulo 2^32
unfoldable pub rising : ℕ → ℕ → List ℕ
rising f zero = []
rising f (suc n) = rising f n ++ ((f + n) % 4294967296 ∷ [])

-- 'h = (h * 31 + word) mod 4294967291' over all the words
unfoldable pub summed : ℕ → List ℕ → ℕ
summed h [] = h
summed h (w ∷ ws) = summed ((h * 31 + w) % 4294967291) ws

-- 'a sum starts at 7'
abbrev pub sum_of : List ℕ → ℕ
sum_of ws = summed 7 ws
