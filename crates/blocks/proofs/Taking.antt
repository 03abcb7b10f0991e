-- What the code of taking finds: whether the free list has n blocks, and the n-th of them. Assumes nothing.
use Rattle.std.specs.Prelude.{None, Some}
use mathlib.Core.Path.{◌≡◌, ap, ◌∙◌}
use mathlib.Core.Bool.{true, false}
use mathlib.Core.List.{List}
use Prim.Native.Nat.{ℕ, ◌-◌, ◌≤◌, ◌<◌}
use native.Mathlib.Omega.{arith}
use lib.Dec.{leb}
use lib.ListN.{length, get_or, set}
use borrow.Author.Tests.{le-leb, leb-true}
use Rattle.words.proofs.Lists.{split}
use Rattle.settings.specs.declared.Settings.{Settings}
use Rattle.layout.specs.Places.{link_at}
use Rattle.blocks.specs.Chain.{link, list, free, Within}
use Rattle.blocks.specs.Asked.{Takes}
use Rattle.blocks.specs.Moves.{enough, taken, taken_from, taken_answer}
use Rattle.blocks.proofs.Steps.{list_front, within_front, nth_in, nth_out}

module _ (s : Settings) (node : List ℕ) (n : ℕ) (t : Takes s node n) where
  pub front_within : Within s.m (list s node n (get_or node 0 0))
  front_within = within_front s node s.m n s.m (get_or node 0 0) t.most t.free.within

  module _ (last : ℕ) (e : last ≡ get_or (list s node n (get_or node 0 0)) (n - 1) 0) where
    last_is : last ≡ get_or (free s node) (n - 1) 0
    last_is = let h = t.some in e ∙ list_front s node n s.m (get_or node 0 0) (n - 1) (omega arith) t.most

    pub too_few : last ≡ 0 → enough s node n ≡ false
    unfolding enough
    too_few z =
        let h = t.some in
        split (leb n (length (free s node)))
        (λ y. let i = nth_in s.m (free s node) (n - 1) t.free.within (omega (arith, leb-true n (length (free s node)) y)) in absurd (omega (arith, last_is)))
        (λ y. y)

    module _ (k : last ≡ 0 → ⊥) where
      below : n - 1 < length (free s node)
      below = nth_out s.m (free s node) (n - 1) (λ z. k (last_is ∙ z))

      pub has-enough : enough s node n ≡ true
      unfolding enough
      has-enough = let h = t.some in le-leb n (length (free s node)) (omega (arith, below))

      pub last_block : (1 ≤ last) × (last ≤ s.m)
      last_block = rw last_is (nth_in s.m (free s node) (n - 1) t.free.within below)

      pub taken_is : (next : ℕ) (l : List ℕ) → next ≡ link s node last → l ≡ set (set node 0 next) (link_at s last) 0 → l ≡ taken s node n
      unfolding taken taken_from
      taken_is next l p q =
          rw has-enough
          (q ∙ ap (λ (x : ℕ). set (set node 0 x) (link_at s last) 0) p ∙ ap (λ (x : ℕ). set (set node 0 (link s node x)) (link_at s x) 0) last_is)

      pub first_is : Some (get_or node 0 0) ≡ taken_answer s node n
      unfolding taken_answer
      first_is = rw has-enough

    pub short_is : last ≡ 0 → None ≡ taken_answer s node n
    unfolding taken_answer
    short_is z = rw (too_few z)

    pub kept_is : last ≡ 0 → node ≡ taken s node n
    unfolding taken
    kept_is z = rw (too_few z)
