-- `places::are_all_marked` meets its contract. Assumes nothing.
use mathlib.Core.Path.{◌≡◌, refl, ap, ◌∙◌}
use mathlib.Core.Bool.{Bool, ◌&&◌}
use mathlib.Core.List.{List, [], ◌∷◌}
use Prim.Native.Nat.{ℕ, zero, suc, ◌+◌, ◌-◌, ◌≤◌, ◌<◌}
use native.Mathlib.Numerals.{add-one}
use native.Mathlib.Omega.{arith}
use lib.Dec.{eqb}
use lib.ListN.{length, get_or, take, drop}
use borrow.Author.Tests.{tests}
use Rattle.std.specs.List.{list_all}
use Rattle.std.proofs.Common.{rules}
use Rattle.std.proofs.lemmas.Iterator.{YieldsList-from_slice}
use Rattle.std.proofs.lemmas.Iterator.Search.{all_from_yields_List}
use Rattle.std.proofs.lemmas.List.Folds.{list_all_more}
use Rattle.words.specs.Words.{every}
use Rattle.places.specs.Given.{all_marked}
use Rattle.places.proofs.are_all_marked.Goals as goal

abbrev is_marked : ℕ → Bool
is_marked mark = eqb mark 1

-- the first m marks of a row
front : (row : List ℕ) (m : ℕ) → m ≤ length row → list_all is_marked (take m row) ≡ every m (λ b. is_marked (get_or row b 0))
unfolding every
front row zero h = refl
front row (suc m) h = rw add-one at (list_all_more is_marked row m 0 (omega arith)) ∙ ap (λ (b : Bool). b && is_marked (get_or row m 0)) (front row m (omega arith))

-- those behind the first, which is no block's
behind_first : (marks : List ℕ) (m : ℕ) → m < length marks → list_all is_marked (take (m + 1 - 1) (drop 1 marks)) ≡ all_marked m marks
unfolding all_marked
behind_first [] m h = absurd (omega arith)
behind_first (mark ∷ marks) m h = let z : m + 1 - 1 ≡ m = omega arith in rw z (front marks m (omega arith))

pub returns : goal.returns
returns c =
    all_from_yields_List is_marked _ _ _ c.all.ensures.ran (YieldsList-from_slice _ c.iter.ensures.rest) (λ mark b q k. search (rules, tests))
    ∙ behind_first c.args.marks.now c.args.m (omega arith)
