-- The items of a send queue that wait behind the one that is left out. Assumes nothing.
use mathlib.Core.Path.{◌≡◌, refl, ap}
use mathlib.Core.Bool.{cond}
use mathlib.Core.List.{List}
use Prim.Native.Nat.{ℕ, zero, suc, ◌-◌}
use native.Mathlib.Omega.{arith}
use lib.ListN.{drop}
use Rattle.words.proofs.Lists.{split}
use Rattle.settings.specs.declared.Settings.{Settings}
use Rattle.layout.specs.Places.{send_at, node}
use Rattle.queues.specs.declared.Kind.{Kind}
use Rattle.queues.specs.Queue.{send_kind, items, run}
use Rattle.showing.specs.List.{handed_over, waiting}

-- ---- a run without its first item
run-rest : (k : Kind) (w : List ℕ) (q n : ℕ) → drop 1 (run k w q 0 n) ≡ run k w q 1 (n - 1)
unfolding run
run-rest k w q zero = refl
run-rest k w q (suc n) = let e : n ≡ suc n - 1 = omega arith in ap (run k w q 1) e

-- what waits is the run behind the items that are left out
pub waiting-run : (s : Settings) (memory : List ℕ) (i j f : ℕ) → f ≡ cond (handed_over memory i j) 1 0
    → waiting s memory i j ≡ run (send_kind s) (node s memory j) (send_at s i) f (items (send_kind s) (node s memory j) (send_at s i) - f)
unfolding waiting
waiting-run s memory i j f e =
    let n : ℕ = items (send_kind s) (node s memory j) (send_at s i) in
    split (handed_over memory i j)
    (λ t. let d : f ≡ 1 = rw t at e in rw (t, d) (run-rest (send_kind s) (node s memory j) (send_at s i) n))
    (λ t.
    let d : f ≡ 0 = rw t at e in
    let z : n ≡ n - 0 = omega arith in
    rw (t, d) (ap (run (send_kind s) (node s memory j) (send_at s i) 0) z))
