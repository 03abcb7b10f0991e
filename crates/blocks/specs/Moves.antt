-- Taking blocks and giving them back: 'Letters'.
use Rattle.std.specs.Prelude.{Bool, cond, List, ℕ, ◌-◌, leb, length, get_or, set, None, Option, Some}
use Rattle.settings.specs.declared.Settings.{Settings}
use Rattle.layout.specs.Places.{first_free_at, link_at}
use Rattle.blocks.specs.Chain.{link, after, free}

module _ (s : Settings) (node : List ℕ) where
  -- the free list has n blocks or more
  unfoldable pub enough : ℕ → Bool
  enough n = leb n (length (free s node))

  -- 'Taking n blocks takes the first n of the free list, in its order': the n-th of them ends the chain, and what followed it is first
  unfoldable pub taken_from : ℕ → List ℕ
  taken_from n =
      let last = get_or (free s node) (n - 1) 0 in
      set (set node first_free_at (link s node last)) (link_at s last) 0

  -- where there are too few, nothing changes
  unfoldable pub taken : ℕ → List ℕ
  taken n = cond (enough n) (taken_from n) node

  -- the answer: the first of the free list, which begins the chain, or that there are too few
  unfoldable pub taken_answer : ℕ → Option ℕ
  taken_answer n = cond (enough n) (Some (get_or node first_free_at 0)) None

  -- 'Giving back puts the chain, in its order, before the free list': the chain of n blocks from b on
  unfoldable pub given_back : ℕ → ℕ → List ℕ
  given_back n b =
      set (set node (link_at s (after s node (n - 1) b)) (get_or node first_free_at 0)) first_free_at b
