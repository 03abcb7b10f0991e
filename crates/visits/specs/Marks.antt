-- Marks: a row of bytes that shows which blocks were visited, and what a visit of a chain answers.
use Rattle.std.specs.Prelude.{◌≡◌, Bool, true, ◌&&◌, cond, List, [], ◌∷◌, ℕ, zero, suc, ◌+◌, ◌-◌, ◌*◌, ◌≤◌, ◌<◌, eqb, leb, length, get_or, set, None, Option, Some}
use Rattle.words.specs.Words.{all}
use Rattle.settings.specs.declared.Settings.{Settings}
use Rattle.layout.specs.Places.{block_at}
use Rattle.layout.specs.Asked.{Stretch}
use Rattle.blocks.specs.Chain.{list, after}

-- none of the blocks has a mark, each marked before the next is looked at
unfoldable pub fresh : List ℕ → List ℕ → Bool
fresh marks [] = true
fresh marks (x ∷ l) = eqb (get_or marks x 0) 0 && fresh (set marks x 1) l

-- the marks after the blocks are marked
unfoldable pub marked : List ℕ → List ℕ → List ℕ
marked marks [] = marks
marked marks (x ∷ l) = marked (set marks x 1) l

module _ (s : Settings) (stretch : List ℕ) (n b : ℕ) where
  -- of n blocks at most from b on, each is a block 1 to M, and the last link is 0
  unfoldable pub ends_within : Bool
  ends_within =
      all (λ x. leb 1 x && leb x s.m) (list s stretch n b) && eqb (after s stretch (length (list s stretch n b)) b) 0

  -- and none has a mark
  unfoldable pub clean : List ℕ → Bool
  clean marks = ends_within && fresh marks (list s stretch n b)

-- what a visit answers: of the n blocks at most, how many were not there; it marks those that were
pub record Visited (s : Settings) (stretch : List ℕ) (n b : ℕ) (old : List ℕ) (r : Option ℕ) (new : List ℕ) : Type 0 where
  pub is : r ≡ cond (clean s stretch n b old) (Some (n - length (list s stretch n b))) None
  pub marks : clean s stretch n b old ≡ true → new ≡ marked old (list s stretch n b)

-- ---- the same in numbers: the link of block b is word before + b * width, for the blocks 1 to m
pub record Linked (words : List ℕ) (before width m : ℕ) : Type 0 where
  pub inside : before + m * width < length words
  pub small : before + m * width ≤ 85274
  pub few : m ≤ 1024

-- what a visit answers, by a number: 0 for a bad chain, else one more than how many blocks were not there
unfoldable pub told_by : ℕ → Option ℕ
told_by zero = None
told_by (suc n) = Some n

-- a walk by such numbers is a visit in each stretch that they are of
abbrev pub Walked : List ℕ → ℕ → ℕ → ℕ → ℕ → ℕ → List ℕ → ℕ → List ℕ → Type 0
Walked words before width m n b old r new =
    (s : Settings) → Stretch s words → before ≡ block_at s 1 - 1 → width ≡ s.b → m ≡ s.m → Visited s words n b old (told_by r) new
