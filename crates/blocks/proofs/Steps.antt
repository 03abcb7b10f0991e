-- One step of each walk along the links, at a count n that the code holds as n and n - 1. Assumes nothing.
use mathlib.Core.Path.{◌≡◌, refl, sym, ap, ◌∙◌, subst}
use mathlib.Core.List.{List, [], ◌∷◌}
use Prim.Native.Nat.{ℕ, zero, suc, ◌+◌, ◌-◌, ◌*◌, ◌≤◌, ◌<◌}
use native.Mathlib.Nat.{suc-mul}
use native.Mathlib.Omega.{arith}
use lib.ListN.{length, get_or}
use borrow.Author.Tests.{eq-eqb, ne_eqb}
use Rattle.words.proofs.Lists.{same?}
use Rattle.settings.specs.declared.Settings.{Settings}
use Rattle.settings.specs.Range.{InRange}
use Rattle.layout.specs.Places.{blocks_at, block_at, link_at, node_size}
use Rattle.layout.specs.Asked.{Stretch}
use Rattle.layout.proofs.Fits.{block-fits, node-small}
use Rattle.blocks.specs.Asked.{Block, Walks, Follows}
use Rattle.blocks.specs.Chain.{link, chain, after, list, Within}

-- the two words before the queues lie in the stretch
pub head_fits : (s : Settings) → 2 ≤ node_size s
unfolding node_size
head_fits s = omega arith

-- and so the blocks do not begin with the first word
pub first_word : (s : Settings) → 1 ≤ block_at s 1
unfolding block_at blocks_at
first_word s = omega arith

-- a number from 1 to M is that of a block
pub is_block_lem : (s : Settings) (node : List ℕ) (b : ℕ) → Stretch s node → (1 ≤ b) × (b ≤ s.m) → Block s node b
is_block_lem s node b st i = record { stretch = st; low = i.0; high = i.1 }

-- from the code's n and n - 1 to `suc`, by which a definition recurses
pub down : (n : ℕ) → 1 ≤ n → n ≡ suc (n - 1)
down n h = omega arith

-- a block's link, counted from the word before the first block
pub link-counted : (s : Settings) → InRange s → (b : ℕ) → 1 ≤ b → block_at s 1 - 1 + b * s.b ≡ link_at s b
unfolding block_at blocks_at
link-counted s r b low = let w = r.b.low in omega (arith, suc-mul (b - 1) s.b, ap (λ (k : ℕ). k * s.b) (down b low))

module _ (s : Settings) (node : List ℕ) where
  pub chain_step : (n b : ℕ) → 1 ≤ n → chain s node n b ≡ b ∷ chain s node (n - 1) (link s node b)
  unfolding chain
  chain_step n b h = ap (λ (k : ℕ). chain s node k b) (down n h)

  pub after_step : (n b : ℕ) → 1 ≤ n → after s node n b ≡ after s node (n - 1) (link s node b)
  unfolding after
  after_step n b h = ap (λ (k : ℕ). after s node k b) (down n h)

  pub after_none : (n b : ℕ) → n ≡ 0 → after s node n b ≡ b
  unfolding after
  after_none n b e = ap (λ (k : ℕ). after s node k b) e

  -- the first of n blocks, and the others
  pub within_step : (m n b : ℕ) → 1 ≤ n → Within m (chain s node n b) → ((1 ≤ b) × (b ≤ m)) × Within m (chain s node (n - 1) (link s node b))
  unfolding Within
  within_step m n b h w = subst (λ (l : List ℕ). Within m l) (chain_step n b h) w

  after_in : (m n b : ℕ) → Within m (chain s node (suc n) b) → (1 ≤ after s node n b) × (after s node n b ≤ m)
  unfolding chain after Within
  after_in m zero b w = w.0
  after_in m (suc n) b w = after_in m n (link s node b) w.1

  -- the last of n blocks
  pub last_in : (m n b : ℕ) → 1 ≤ n → Within m (chain s node n b) → (1 ≤ after s node (n - 1) b) × (after s node (n - 1) b ≤ m)
  last_in m n b h w = after_in m (n - 1) b (subst (λ (k : ℕ). Within m (chain s node k b)) (down n h) w)

  -- the same walk by numbers
  pub follows : (n b first : ℕ) → first ≡ block_at s 1 → Walks s node n b → 1 ≤ n → Follows s node (first - 1) s.b n b
  follows n b first e w h = record { walks = w; some = h; first = ap (λ (k : ℕ). k - 1) e; wide = refl }

  module _ (before width n b : ℕ) (f : Follows s node before width n b) where
    head_in : (1 ≤ b) × (b ≤ s.m)
    head_in = (within_step s.m n b f.some f.walks.within).0

    link-found : before + b * width ≡ link_at s b
    link-found = rw (f.first, f.wide) (link-counted s f.walks.stretch.range b head_in.0)

    pub follow_fits : (before + b * width < length node) × (before + b * width ≤ 85274)
    follow_fits =
        let i = head_in in
        let st = f.walks.stretch in
        let w = st.range.b.low in
        let q = st.long in
        let e = link-found in
        let k = block-fits s b i.0 i.1 in
        (omega arith, omega (arith, node-small s st.range))

    pub follow_step : (n ≡ 1 → ⊥) → Follows s node before width (n - 1) (get_or node (before + b * width) 0)
    follow_step h =
        let g = f.some in
        rw link-found
        (record {
          walks = record { stretch = f.walks.stretch; within = (within_step s.m n b g f.walks.within).1 };
          some = omega arith;
          first = f.first;
          wide = f.wide;
        })

    pub follow_after : (n ≡ 1 → ⊥) → after s node (n - 1) b ≡ after s node (n - 1 - 1) (get_or node (before + b * width) 0)
    follow_after h = let g = f.some in rw link-found (after_step (n - 1) b (omega arith))

  -- ---- a list that ends with a link 0
  list_some : (n b : ℕ) → (b ≡ 0 → ⊥) → list s node (suc n) b ≡ b ∷ list s node n (link s node b)
  unfolding list
  list_some n b h = rw (ne_eqb b 0 h)

  pub list_step : (n b : ℕ) → 1 ≤ n → (b ≡ 0 → ⊥) → list s node n b ≡ b ∷ list s node (n - 1) (link s node b)
  list_step n b h k = ap (λ (i : ℕ). list s node i b) (down n h) ∙ list_some (n - 1) b k

  pub list_none : (n b : ℕ) → b ≡ 0 → list s node n b ≡ []
  unfolding list
  list_none zero b h = refl
  list_none (suc n) b h = rw (eq-eqb b 0 h)

  pub within-list : (m n b : ℕ) → 1 ≤ n → (b ≡ 0 → ⊥) → Within m (list s node n b) → ((1 ≤ b) × (b ≤ m)) × Within m (list s node (n - 1) (link s node b))
  unfolding Within
  within-list m n b h k w = subst (λ (l : List ℕ). Within m l) (list_step n b h k) w

  -- the n-th of the list
  pub nth_none : (n b : ℕ) → b ≡ 0 → get_or (list s node n b) (n - 1) 0 ≡ 0
  nth_none n b h = rw (list_none n b h)

  pub nth_last : (n b : ℕ) → n ≡ 1 → get_or (list s node n b) (n - 1) 0 ≡ b
  nth_last n b e = same? b 0 (λ q t. nth_none n b q ∙ sym q) (λ q t. rw e (rw (list_some 0 b q)))

  pub nth_step : (n b : ℕ) → 2 ≤ n → (b ≡ 0 → ⊥) → get_or (list s node n b) (n - 1) 0 ≡ get_or (list s node (n - 1) (link s node b)) (n - 1 - 1) 0
  nth_step n b h k =
      rw (list_step n b (omega arith) k)
      (ap (λ (i : ℕ). get_or (b ∷ list s node (n - 1) (link s node b)) i 0) (down (n - 1) (omega arith)))

  -- a longer walk along the list has the same front
  pub list_front : (n m b k : ℕ) → k < n → n ≤ m → get_or (list s node n b) k 0 ≡ get_or (list s node m b) k 0
  unfolding list
  list_front zero m b k h g = absurd (omega arith)
  list_front (suc n) zero b k h g = absurd (omega arith)
  list_front (suc n) (suc m) b zero h g = same? b 0 (λ q e. rw e) (λ q e. rw e)
  list_front (suc n) (suc m) b (suc k) h g =
      same? b 0 (λ q e. rw e) (λ q e. rw e (list_front n m (link s node b) k (omega arith) (omega arith)))

  pub within_front : (w n m b : ℕ) → n ≤ m → Within w (list s node m b) → Within w (list s node n b)
  unfolding list Within
  within_front w zero m b h i = tt
  within_front w (suc n) zero b h i = absurd (omega arith)
  within_front w (suc n) (suc m) b h i =
      same? b 0 (λ q e. rw e tt) (λ q e. rw e (let j = (rw e at i) in (j.0, within_front w n m (link s node b) (omega arith) j.1)))

-- ---- in a list of blocks, 0 stands where the list has ended
pub nth_in : (m : ℕ) (l : List ℕ) (k : ℕ) → Within m l → k < length l → (1 ≤ get_or l k 0) × (get_or l k 0 ≤ m)
unfolding Within
nth_in m [] k w h = absurd (omega arith)
nth_in m (x ∷ l) zero w h = w.0
nth_in m (x ∷ l) (suc k) w h = nth_in m l k w.1 (omega arith)

pub nth_out : (m : ℕ) (l : List ℕ) (k : ℕ) → (get_or l k 0 ≡ 0 → ⊥) → k < length l
nth_out m [] k h = absurd (h refl)
nth_out m (x ∷ l) zero h = omega arith
nth_out m (x ∷ l) (suc k) h = let g = nth_out m l k h in omega arith
