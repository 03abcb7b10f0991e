-- Places round a ring of S slots: two that stand less than S apart are different. Assumes nothing.
use mathlib.Core.Path.{◌≡◌, sym, ap, ◌∙◌}
use mathlib.Core.Logic.{◌≢◌, ◌⊎◌, inl, inr, ⊎_elim}
use Prim.Native.Nat.{ℕ, ◌+◌, ◌-◌, ◌%◌, ◌≤◌, ◌<◌}
use native.Mathlib.Nat.{mod-lt, mod-eq_of_lt, mod-eq-sub-mod, mod-add-mod}
use native.Mathlib.Omega.{arith}
use Rattle.words.proofs.Lists.{le_or_lt}

-- a sum below S + S, taken round
wrap : (t S : ℕ) → t < S + S → ((t < S) × (t % S ≡ t)) ⊎ ((S ≤ t) × (t % S ≡ t - S))
wrap t S h = ⊎_elim (λ l. inr (l, mod-eq-sub-mod l ∙ mod-eq_of_lt (omega arith))) (λ l. inl (l, mod-eq_of_lt l)) (le_or_lt S t)

apart : (a b S : ℕ) → a < b → b < a + S → a % S ≢ b % S
apart a b S p h e =
    let r : a % S < S = mod-lt a (omega arith) in
    let d : a + (b - a) ≡ b = omega arith in
    let f : a % S ≡ (a % S + (b - a)) % S = e ∙ sym (mod-add-mod a S (b - a) ∙ ap (λ (k : ℕ). k % S) d) in
    ⊎_elim (λ w. omega arith) (λ w. omega arith) (wrap (a % S + (b - a)) S (omega arith))

-- two different places of a ring that starts at s
pub places_apart : (s j k S : ℕ) → j < S → k < S → (j ≡ k → ⊥) → (s + j) % S ≢ (s + k) % S
places_apart s j k S p q n e =
    ⊎_elim (λ l. apart (s + j) (s + k) S (omega arith) (omega arith) e) (λ l. apart (s + k) (s + j) S (omega arith) (omega arith) (sym e)) (le_or_lt j k)
