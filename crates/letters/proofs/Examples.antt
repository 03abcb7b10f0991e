-- Letters of 5, 6, 7, 8 and 15 words with B = 4, 5 and 8 on a free list out of order, taken, written, read back and given back, as the checker computes them. Assumes nothing.
use Rattle.std.specs.Prelude.{None, Option, Some}
use mathlib.Core.Path.{◌≡◌, refl}
use mathlib.Core.List.{List, [], ◌∷◌, ◌++◌}
use Prim.Native.Nat.{ℕ, zero, suc, ◌+◌, ◌-◌}
use lib.ListN.{length, take, drop, replicate}
use Rattle.settings.specs.declared.Settings.{Settings}
use Rattle.layout.specs.Places.{blocks_at, block_at, node_size}
use Rattle.blocks.specs.Chain.{needs, chain, after, list, free, text}
use Rattle.blocks.specs.Moves.{enough, taken, taken_from, taken_answer, given_back}
use Rattle.letters.specs.Letter.{word, told, letter, laid, written}

-- six blocks of B words, queues of two
abbrev with : ℕ → Settings
with B = record { b = B; m = 6; s = 2; a = 2; t = 2 }

-- each block's words are 9 and then its link: the free list is 3, 1, 5, 2, 6, 4
abbrev block : ℕ → ℕ → List ℕ
block B link = replicate (B - 1) 9 ++ link ∷ []

abbrev fresh : ℕ → List ℕ
fresh B = 3 ∷ 0 ∷ (replicate 508 0 ++ (block B 5 ++ (block B 6 ++ (block B 1 ++ (block B 0 ++ (block B 2 ++ block B 4))))))

-- a letter of n words: from task 7 on node 2 to task 52 on node 3, its length, and a body
abbrev body : ℕ → List ℕ
body zero = []
body (suc n) = (100 + n) ∷ body n

abbrev sample : ℕ → List ℕ
sample n = 7 ∷ 2 ∷ 52 ∷ 3 ∷ n ∷ body (n - 5)

-- what is seen on the way
pub record Seen : Type 0 where
  pub blocks : ℕ
  pub answer : Option ℕ
  pub taken : List ℕ
  pub left : List ℕ
  pub read : List ℕ
  pub told : ℕ
  pub behind : List ℕ
  pub back : List ℕ

-- n words' blocks are taken, the words written, read back, and the chain given back
abbrev seen : ℕ → ℕ → Seen
seen B n =
    let s = with B in
    let k = needs s n in
    let node = taken s (fresh B) k in
    let new = written s node 3 (sample n) in
    record {
      blocks = k;
      answer = taken_answer s (fresh B) k;
      taken = chain s node k 3;
      left = free s node;
      read = letter s new n 3;
      told = told s new 3;
      behind = drop n (text s new (chain s new k 3));
      back = free s (given_back s new k 3);
    }

-- what is to be seen: the first k of the free list taken, the letter and its length read back, the words behind it and the free list as they were
abbrev expected : ℕ → ℕ → ℕ → Seen
expected n k behind = record {
  blocks = k;
  answer = Some 3;
  taken = take k (3 ∷ 1 ∷ 5 ∷ 2 ∷ 6 ∷ 4 ∷ []);
  left = drop k (3 ∷ 1 ∷ 5 ∷ 2 ∷ 6 ∷ 4 ∷ []);
  read = sample n;
  told = n;
  behind = replicate behind 9;
  back = 3 ∷ 1 ∷ 5 ∷ 2 ∷ 6 ∷ 4 ∷ [];
}

-- B = 4: the length word stands in the second block
pub four : (seen 4 5 ≡ expected 5 2 1) × (seen 4 6 ≡ expected 6 2 0) × (seen 4 7 ≡ expected 7 3 2) × (seen 4 8 ≡ expected 8 3 1) × (seen 4 15 ≡ expected 15 5 0)
unfolding needs chain after list text enough taken taken_from taken_answer given_back word letter laid blocks_at block_at
four = (refl, refl, refl, refl, refl)

-- B = 5: there too
pub five : (seen 5 5 ≡ expected 5 2 3) × (seen 5 6 ≡ expected 6 2 2) × (seen 5 7 ≡ expected 7 2 1) × (seen 5 8 ≡ expected 8 2 0) × (seen 5 15 ≡ expected 15 4 1)
unfolding needs chain after list text enough taken taken_from taken_answer given_back word letter laid blocks_at block_at
five = (refl, refl, refl, refl, refl)

pub eight : (seen 8 5 ≡ expected 5 1 2) × (seen 8 6 ≡ expected 6 1 1) × (seen 8 7 ≡ expected 7 1 0) × (seen 8 8 ≡ expected 8 2 6) × (seen 8 15 ≡ expected 15 3 6)
unfolding needs chain after list text enough taken taken_from taken_answer given_back word letter laid blocks_at block_at
eight = (refl, refl, refl, refl, refl)

-- the stretches are as long as the settings say
pub long : (length (fresh 4) ≡ node_size (with 4)) × (length (fresh 5) ≡ node_size (with 5)) × (length (fresh 8) ≡ node_size (with 8))
unfolding node_size
long = (refl, refl, refl)

-- seven blocks of the six are too many: nothing changes
pub short : (taken_answer (with 4) (fresh 4) 7 ≡ None) × (taken (with 4) (fresh 4) 7 ≡ fresh 4)
unfolding enough taken taken_answer list blocks_at block_at
short = (refl, refl)
