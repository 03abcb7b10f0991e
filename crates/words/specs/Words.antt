-- Lists of words: a part and what a lent part gives back, tests of many numbers, a count that stops.
use Rattle.std.specs.Prelude.{Bool, true, false, cond, ◌&&◌, List, [], ◌∷◌, ◌++◌, ℕ, zero, suc, ◌+◌, ◌-◌, ltb, eqb, take, drop}

-- the words from word a up to word e: `&l[a..e]`
abbrev pub part : List ℕ → ℕ → ℕ → List ℕ
part l a e = take (e - a) (drop a l)

-- the words l with p in the place of the part from a up to e
abbrev pub splice : List ℕ → ℕ → ℕ → List ℕ → List ℕ
splice l a e p = take a l ++ (p ++ drop e l)

-- the test holds of each number below n
unfoldable pub every : ℕ → (ℕ → Bool) → Bool
every zero p = true
every (suc n) p = every n p && p n

-- the test holds of each number of the list
unfoldable pub all : (ℕ → Bool) → List ℕ → Bool
all p [] = true
all p (x ∷ xs) = p x && all p xs

-- the two lists are the same
unfoldable pub alike : List ℕ → List ℕ → Bool
alike [] [] = true
alike [] (y ∷ ys) = false
alike (x ∷ xs) [] = false
alike (x ∷ xs) (y ∷ ys) = eqb x y && alike xs ys

-- 'All counts stop at 4,294,967,295' (Settings and memory)
unfoldable pub more : ℕ → ℕ
more n = cond (ltb n 4294967295) (n + 1) n
