-- The tasks' numbers of letters added up, one task after the other. Assumes nothing.
use mathlib.Core.Path.{◌≡◌, refl, ap₂, ◌∙◌}
use mathlib.Core.List.{List}
use Prim.Native.Nat.{ℕ, suc, ◌+◌, ◌≤◌, ◌<◌}
use native.Mathlib.Numerals.{add-one}
use native.Mathlib.Omega.{arith}
use lib.ListN.{length, get_or, set, length-set}
use lib.Seq.{get_or-set_same, get_or-set_other}
use Rattle.words.specs.Count.{sum}
use Rattle.words.proofs.Lists.{same?}
use Rattle.layout.specs.Places.{task_ids}
use Rattle.listing.proofs.Orders.{below, climbs}

module _ (letters : ℕ → ℕ) where
  sum-suc : (n : ℕ) → sum (suc n) letters ≡ sum n letters + letters n
  unfolding sum
  sum-suc n = refl

  -- the tasks below `task` have their ranks, and n letters; in the row of the others is what was
  pub record Adding (row ranks : List ℕ) (n task : ℕ) : Type 0 where
    pub upto : task ≤ task_ids
    pub long : length ranks ≡ task_ids
    pub total : n ≡ sum task letters
    pub done : (t : ℕ) → t < task → get_or ranks t 0 ≡ sum t letters
    pub left : (t : ℕ) → task ≤ t → get_or ranks t 0 ≡ get_or row t 0

  pub adding_none : (row : List ℕ) → length row ≡ task_ids → Adding row row 0 0
  unfolding sum
  adding_none row l = record { upto = omega arith; long = l; total = refl; done = λ t h. absurd (omega arith); left = λ t h. refl }

  module _ (row ranks : List ℕ) (n task : ℕ) (a : Adding row ranks n task) where
    pub adding_more : (m : ℕ) → task < task_ids → m ≡ letters task → Adding row (set ranks task n) (n + m) (task + 1)
    unfolding sum
    adding_more m h e =
        record {
          upto = omega arith;
          long = length-set ranks task n ∙ a.long;
          total = rw (add-one task) (ap₂ (λ (x y : ℕ). x + y) a.total e);
          done = done;
          left = λ t g. get_or-set_other ranks task t n 0 (λ z. omega arith) ∙ a.left t (omega arith);
        }
      where
        done : (t : ℕ) → t < task + 1 → get_or (set ranks task n) t 0 ≡ sum t letters
        done t g =
            same? t task
            (λ q z. rw q (get_or-set_same ranks task n 0 (omega (arith, a.long)) ∙ a.total))
            (λ q z. get_or-set_other ranks task t n 0 q ∙ a.done t (below t task (omega arith) q))

    -- the number of letters so far, with the next task's, is no more than that of all
    pub adding_few : task < task_ids → n + letters task ≤ sum task_ids letters
    adding_few h = omega (arith, a.total, sum-suc task, climbs (λ n. sum n letters) (λ n. omega (arith, sum-suc n)) (suc task) task_ids (omega arith))
