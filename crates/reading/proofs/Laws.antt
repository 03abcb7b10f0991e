-- What a step tells of the words left and of the link. Assumes nothing.
use Rattle.std.specs.Prelude.{None, Option, Some}
use mathlib.Core.Path.{◌≡◌, refl, sym, ap, ◌∙◌}
use mathlib.Core.Logic.{◌⊎◌, inl, inr, ⊎_elim}
use mathlib.Core.List.{List}
use Prim.Native.Nat.{ℕ, zero, suc, ◌≤◌}
use lib.ListN.{get_or}
use borrow.Author.Tests.{eq-eqb, ne_eqb}
use native.Mathlib.Omega.{arith}
use Rattle.reading.specs.Read.{carried_of, link_from, step_at}
use Rattle.reading.specs.declared.Step.{Step}

abbrev words : Option Step → ℕ
words (Some step) = suc step.words
words None = 0

abbrev follows : Option Step → ℕ
follows (Some step) = step.next
follows None = 0

zero_or : (n : ℕ) → (n ≡ 0) ⊎ (1 ≤ n)
zero_or zero = inl refl
zero_or (suc n) = inr (omega arith)

module _ (node : List ℕ) (block left at before room : ℕ) where
  step_some : 1 ≤ left → step_at node block left at before room ≡ Some (record { words = carried_of left at room; next = get_or node (link_from before room block) 0 })
  step_some h = simp (ne_eqb left 0 (λ e. omega arith))

  step_none : left ≡ 0 → step_at node block left at before room ≡ None
  step_none h = simp (eq-eqb left 0 h)

  -- the end: no word is left
  pub step_end : step_at node block left at before room ≡ None → left ≡ 0
  step_end e = ⊎_elim (λ h. h) (λ h. let z : suc (carried_of left at room) ≡ 0 = ap words (sym (step_some h) ∙ e) in absurd (omega arith)) (zero_or left)

  -- a step: words are left, so many of them stand in the block, and its link names the next
  pub step_words : (k next : ℕ) → step_at node block left at before room ≡ Some (record { words = k; next = next })
      → (1 ≤ left) × (k ≡ carried_of left at room) × (next ≡ get_or node (link_from before room block) 0)
  step_words k next e =
      ⊎_elim
      (λ h. let z : 0 ≡ suc k = ap words (sym (step_none h) ∙ e) in absurd (omega arith))
      (λ h.
      let z : suc (carried_of left at room) ≡ suc k = ap words (sym (step_some h) ∙ e) in
      (h, omega arith, sym (ap follows (sym (step_some h) ∙ e))))
      (zero_or left)
