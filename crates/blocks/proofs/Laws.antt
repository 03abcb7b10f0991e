-- What taking and giving back do, over rows: to the chain, to the free list, to every other chain, to words and to counts. Assumes nothing.
use mathlib.Core.Path.{◌≡◌, ap, ◌∙◌}
use mathlib.Core.List.{List, [], ◌∷◌, ◌++◌}
use Prim.Native.Nat.{ℕ, ◌+◌, ◌≤◌}
use native.Mathlib.Omega.{arith}
use lib.ListN.{length, get_or, set}
use Rattle.words.specs.Count.{occurs}
use Rattle.words.proofs.Count.{hit_self, occurs-append}
use Rattle.blocks.specs.Chain.{Once}
use Rattle.blocks.proofs.Chains.{link_in, Leads, text_in, first_in, Same, leads_same, text_same, text-words, same_trans, leads-append, leads-split, set_first, first_other, first-zero, first_same, first_is, first-length, set_link, link_other, link-length, link_same, link-words, leads_end}

-- the rows after the blocks up to y are taken from the free list
unfoldable pub taken_rows : ℕ → (ℕ → List ℕ) → ℕ → ℕ → List ℕ
taken_rows B R y = set_link B (set_first R (link_in B R y)) y 0

-- the rows after the chain that b begins and y ends is given back
unfoldable pub given_rows : ℕ → (ℕ → List ℕ) → ℕ → ℕ → ℕ → List ℕ
given_rows B R b y = set_first (set_link B R y (first_in R)) b

-- ---- taking
module _ (B : ℕ) (R : ℕ → List ℕ) (y : ℕ) where
  -- no row changes but the first and the last block's
  pub taken_other : (r : ℕ) → (r ≡ 0 → ⊥) → (r ≡ 76 + y → ⊥) → taken_rows B R y r ≡ R r
  unfolding taken_rows
  taken_other r h k = link_other B (set_first R (link_in B R y)) y 0 r k ∙ first_other R (link_in B R y) r h

  -- nor the room count
  pub taken_head : taken_rows B R y 0 ≡ set (R 0) 0 (link_in B R y)
  unfolding taken_rows
  taken_head = link_other B (set_first R (link_in B R y)) y 0 0 (λ e. omega arith) ∙ first-zero R (link_in B R y)

  pub taken-length : (r : ℕ) → length (taken_rows B R y r) ≡ length (R r)
  unfolding taken_rows
  taken-length r = link-length B (set_first R (link_in B R y)) y 0 r ∙ first-length R (link_in B R y) r

  pub taken_same : (l : List ℕ) → occurs y l ≡ 0 → Same R (taken_rows B R y) l
  unfolding taken_rows
  taken_same l o =
      same_trans R (set_first R (link_in B R y)) (set_link B (set_first R (link_in B R y)) y 0) l
      (first_same R (link_in B R y) l) (link_same B (set_first R (link_in B R y)) y 0 l o)

  -- words other than links stay
  pub taken-text : (l : List ℕ) → text_in B (taken_rows B R y) l ≡ text_in B R l
  unfolding taken_rows
  taken-text l =
      text-words B (set_first R (link_in B R y)) (set_link B (set_first R (link_in B R y)) y 0) (link-words B (set_first R (link_in B R y)) y 0) l
      ∙ text_same B R (set_first R (link_in B R y)) l (first_same R (link_in B R y) l)

  -- a chain that has not the last block taken is as it was
  pub taken-leads : (b : ℕ) (l : List ℕ) (e : ℕ) → occurs y l ≡ 0 → Leads B R b l e → Leads B (taken_rows B R y) b l e
  taken-leads b l e o h = leads_same B R (taken_rows B R y) b l e (taken_same l o) h

  -- where the free list is xs, y, ys
  module _ (xs ys : List ℕ) (wide : 1 ≤ B) (size : length (R (76 + y)) ≡ B) (once : Once (xs ++ y ∷ ys)) (free : Leads B R (first_in R) (xs ++ y ∷ ys) 0) where
    front_out : occurs y xs ≡ 0
    front_out = omega (arith, once y, occurs-append y xs (y ∷ ys), hit_self y)

    rest_out : occurs y ys ≡ 0
    rest_out = omega (arith, once y, occurs-append y xs (y ∷ ys), hit_self y)

    -- THE CHAIN that was taken: the first of the free list, in its order, the last link 0
    pub taken-chain : Leads B (taken_rows B R y) (first_in R) (xs ++ y ∷ []) 0
    unfolding taken_rows
    taken-chain =
        let f : ℕ → List ℕ = set_first R (link_in B R y) in
        let k = leads-split B R (first_in R) xs y ys 0 free in
        leads_end B f y 0 (first_in R) xs wide (first-length R (link_in B R y) (76 + y) ∙ size) front_out
        (leads_same B R f (first_in R) xs y (first_same R (link_in B R y) xs) k.0)

    -- THE FREE LIST that is left
    pub taken_free : 1 ≤ length (R 0) → Leads B (taken_rows B R y) (first_in (taken_rows B R y)) ys 0
    unfolding taken_rows
    taken_free h =
        let k = leads-split B R (first_in R) xs y ys 0 free in
        let e : first_in (taken_rows B R y) ≡ link_in B R y =
        ap (λ (w : List ℕ). get_or w 0 0) (link_other B (set_first R (link_in B R y)) y 0 0 (λ e. omega arith)) ∙ first_is R (link_in B R y) h in
        rw e (taken-leads (link_in B R y) ys 0 rest_out k.1)

  -- COUNTS are kept: what was free is in the chain or still free
  pub taken-count : (xs ys : List ℕ) (b : ℕ) → occurs b (xs ++ y ∷ []) + occurs b ys ≡ occurs b (xs ++ y ∷ ys)
  taken-count xs ys b = omega (arith, occurs-append b xs (y ∷ []), occurs-append b xs (y ∷ ys))

-- ---- giving back
module _ (B : ℕ) (R : ℕ → List ℕ) (b y : ℕ) where
  pub given_other : (r : ℕ) → (r ≡ 0 → ⊥) → (r ≡ 76 + y → ⊥) → given_rows B R b y r ≡ R r
  unfolding given_rows
  given_other r h k = first_other (set_link B R y (first_in R)) b r h ∙ link_other B R y (first_in R) r k

  pub given_head : given_rows B R b y 0 ≡ set (R 0) 0 b
  unfolding given_rows
  given_head = first-zero (set_link B R y (first_in R)) b ∙ ap (λ (w : List ℕ). set w 0 b) (link_other B R y (first_in R) 0 (λ e. omega arith))

  pub given-length : (r : ℕ) → length (given_rows B R b y r) ≡ length (R r)
  unfolding given_rows
  given-length r = first-length (set_link B R y (first_in R)) b r ∙ link-length B R y (first_in R) r

  pub given_same : (l : List ℕ) → occurs y l ≡ 0 → Same R (given_rows B R b y) l
  unfolding given_rows
  given_same l o =
      same_trans R (set_link B R y (first_in R)) (set_first (set_link B R y (first_in R)) b) l
      (link_same B R y (first_in R) l o) (first_same (set_link B R y (first_in R)) b l)

  pub given-text : (l : List ℕ) → text_in B (given_rows B R b y) l ≡ text_in B R l
  unfolding given_rows
  given-text l =
      text_same B (set_link B R y (first_in R)) (set_first (set_link B R y (first_in R)) b) l (first_same (set_link B R y (first_in R)) b l)
      ∙ text-words B R (set_link B R y (first_in R)) (link-words B R y (first_in R)) l

  -- a chain that has not the last block given back is as it was
  pub given-leads : (c : ℕ) (l : List ℕ) (e : ℕ) → occurs y l ≡ 0 → Leads B R c l e → Leads B (given_rows B R b y) c l e
  given-leads c l e o h = leads_same B R (given_rows B R b y) c l e (given_same l o) h

  -- THE FREE LIST: the chain, in its order, before the free list
  pub given-free : (xs fs : List ℕ) → 1 ≤ B → 1 ≤ length (R 0) → length (R (76 + y)) ≡ B → Once ((xs ++ y ∷ []) ++ fs)
      → Leads B R b (xs ++ y ∷ []) 0 → Leads B R (first_in R) fs 0 → Leads B (given_rows B R b y) (first_in (given_rows B R b y)) ((xs ++ y ∷ []) ++ fs) 0
  unfolding given_rows
  given-free xs fs wide head size once chain free =
      let g : ℕ → List ℕ = set_link B R y (first_in R) in
      let c : List ℕ = xs ++ y ∷ [] in
      let n = once y in
      let ox : occurs y xs ≡ 0 = omega (arith, occurs-append y (xs ++ y ∷ []) fs, occurs-append y xs (y ∷ []), hit_self y) in
      let of : occurs y fs ≡ 0 = omega (arith, occurs-append y (xs ++ y ∷ []) fs, occurs-append y xs (y ∷ []), hit_self y) in
      let k = leads-split B R b xs y [] 0 chain in
      let a : Leads B g b c (first_in R) = leads_end B R y (first_in R) b xs wide size ox k.0 in
      let d : Leads B g (first_in R) fs 0 = leads_same B R g (first_in R) fs 0 (link_same B R y (first_in R) fs of) free in
      let e : first_in (set_first g b) ≡ b = first_is g b (rw (link-length B R y (first_in R) 0) head) in
      rw e (leads_same B g (set_first g b) b (c ++ fs) 0 (first_same g b (c ++ fs)) (leads-append B g b c (first_in R) fs 0 a d))

  -- COUNTS are kept: what was in the chain or free is free
  pub given-count : (c fs : List ℕ) (x : ℕ) → occurs x (c ++ fs) ≡ occurs x c + occurs x fs
  given-count c fs x = occurs-append x c fs
