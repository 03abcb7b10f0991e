-- A place taken round by one test: below the slots it stays, from them on it is so many fewer. Assumes nothing.
use mathlib.Core.Path.{◌≡◌, sym, ap, ◌∙◌}
use Prim.Native.Nat.{ℕ, ◌+◌, ◌-◌, ◌%◌, ◌≤◌, ◌<◌}
use native.Mathlib.Nat.{mod-eq_of_lt, mod-eq-sub-mod}
use native.Mathlib.Omega.{arith}
use Rattle.queues.specs.declared.Kind.{Kind}
use Rattle.queues.specs.Queue.{slot_from}
use Rattle.queues.specs.Moves.{IsSlot}

module _ (k : Kind) (q first i : ℕ) where
  pub slot_below : first + i < k.slots → IsSlot k q first i (q + (k.head + (first + i)))
  slot_below h = record { is = ap (λ (n : ℕ). q + (k.head + n)) (sym (mod-eq_of_lt h)); low = omega arith; high = omega arith }

  pub slot_over : k.slots ≤ first + i → first < k.slots → i ≤ k.slots → IsSlot k q first i (q + (k.head + (first + i - k.slots)))
  slot_over h f g =
      let e : (first + i) % k.slots ≡ first + i - k.slots = mod-eq-sub-mod h ∙ mod-eq_of_lt (omega arith) in
      record { is = ap (λ (n : ℕ). q + (k.head + n)) (sym e); low = omega arith; high = omega arith }

  -- how far a slot's word stands behind the words before the slots
  pub slot_past : (r : ℕ) → r ≡ slot_from k q first i → r - (q + k.head) ≡ (first + i) % k.slots
  slot_past r e = ap (λ (n : ℕ). n - (q + k.head)) e ∙ past ((first + i) % k.slots)
    where
      past : (n : ℕ) → q + (k.head + n) - (q + k.head) ≡ n
      past n = omega arith
