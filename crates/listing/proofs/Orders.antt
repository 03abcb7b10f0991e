-- Numbers in order: the one below, and a row that climbs. Assumes nothing.
use mathlib.Core.Path.{◌≡◌}
use mathlib.Core.Logic.{⊎_elim}
use Prim.Native.Nat.{ℕ, zero, suc, ◌≤◌, ◌<◌}
use native.Mathlib.Omega.{arith}
use Rattle.words.proofs.Lists.{le_or_lt}

pub below : (t n : ℕ) → t ≤ n → (t ≡ n → ⊥) → t < n
below t n h q = ⊎_elim (λ l. absurd (q (omega arith))) (λ l. l) (le_or_lt n t)

pub climbs : (f : ℕ → ℕ) → ((n : ℕ) → f n ≤ f (suc n)) → (m n : ℕ) → m ≤ n → f m ≤ f n
climbs f up m zero h = let e : m ≡ 0 = omega arith in rw e (omega arith)
climbs f up m (suc n) h =
    ⊎_elim
    (λ (g : suc n ≤ m). let e : m ≡ suc n = omega arith in rw e (omega arith))
    (λ (g : m < suc n). omega (arith, climbs f up m n (omega arith), up n))
    (le_or_lt (suc n) m)
