-- Marks are counts: after a list is marked, each mark has risen by how often the block stands in the list. Assumes nothing.
use mathlib.Core.Path.{◌≡◌, refl}
use mathlib.Core.Bool.{true}
use mathlib.Core.List.{List, [], ◌∷◌}
use Prim.Native.Nat.{ℕ, ◌+◌, ◌≤◌, ◌<◌}
use native.Mathlib.Omega.{arith}
use lib.Dec.{eqb}
use lib.ListN.{length, get_or, set, length-set}
use lib.Seq.{get_or-set_same, get_or-set_other}
use borrow.Author.Tests.{eq-eqb, eqb-true}
use Rattle.words.specs.Count.{occurs}
use Rattle.words.proofs.Lists.{same?, and-true, and-join}
use Rattle.words.proofs.Count.{hit_self, hit_same, hit_other}
use Rattle.visits.specs.Marks.{fresh, marked}

-- each number of the list is below n
abbrev pub Below : ℕ → List ℕ → Type 0
Below n l = (x : ℕ) → 1 ≤ occurs x l → x < n

below_set : (marks l : List ℕ) (x : ℕ) → Below (length marks) (x ∷ l) → Below (length (set marks x 1)) l
below_set marks l x h y o = let k = h y (omega arith) in let z = length-set marks x 1 in omega arith

pub marked-count : (marks l : List ℕ) → Below (length marks) l → fresh marks l ≡ true → (y : ℕ) → get_or (marked marks l) y 0 ≡ get_or marks y 0 + occurs y l
unfolding fresh marked
marked-count marks [] h e y = omega arith
marked-count marks (x ∷ l) h e y =
    let w = and-true (eqb (get_or marks x 0) 0) (fresh (set marks x 1) l) e in
    let z = eqb-true (get_or marks x 0) 0 w.0 in
    let k = marked-count (set marks x 1) l (below_set marks l x h) w.1 y in
    same? y x
    (λ q f.
    let m : get_or (set marks x 1) y 0 ≡ 1 = rw q (get_or-set_same marks x 1 0 (h x (omega (arith, hit_self x)))) in
    let g : get_or marks y 0 ≡ 0 = rw q z in
    omega (arith, hit_same y x q))
    (λ q f. let m = get_or-set_other marks x y 1 0 q in omega (arith, hit_other y x q))

-- no more than once, marks and list together: none is marked on the way
pub once-fresh : (marks l : List ℕ) → Below (length marks) l → ((y : ℕ) → get_or marks y 0 + occurs y l ≤ 1) → fresh marks l ≡ true
unfolding fresh
once-fresh marks [] h f = refl
once-fresh marks (x ∷ l) h f =
    and-join (eqb (get_or marks x 0) 0) (fresh (set marks x 1) l)
    (eq-eqb (get_or marks x 0) 0 (omega (arith, f x, hit_self x)))
    (once-fresh (set marks x 1) l (below_set marks l x h)
    (λ y. same? y x
    (λ q e.
    let m : get_or (set marks x 1) y 0 ≡ 1 = rw q (get_or-set_same marks x 1 0 (h x (omega (arith, hit_self x)))) in
    omega (arith, f y, hit_same y x q))
    (λ q e. let m = get_or-set_other marks x y 1 0 q in omega (arith, f y, hit_other y x q))))
