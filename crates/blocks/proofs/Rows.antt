-- A node's words and its rows: links, chains, the free list and texts are the same in both; a store in words is a row put anew. Assumes nothing.
--     link_rows, first_rows, text_rows     read in words, read in rows
--     rows_link, rows_first     a link or the first free block stored
--     chain_is, after_is, free_is     the chain that rows lead through IS the chain in words; chain-leads, free-leads     and back
--     leads-within, leads_chained, leads-free, leads-list     what the functions ask, from what the rows lead through
use mathlib.Core.Path.{◌≡◌, refl, sym, ap, ap₂, ◌∙◌, subst}
use mathlib.Core.List.{List, [], ◌∷◌, ◌++◌}
use Prim.Native.Nat.{ℕ, zero, suc, ◌+◌, ◌-◌, ◌≤◌}
use native.Mathlib.Omega.{arith}
use lib.ListN.{length, get_or, set, take, drop}
use lib.Seq.{take-take}
use borrow.Author.Tests.{eq-eqb, ne_eqb}
use Rattle.words.specs.Words.{part}
use Rattle.words.specs.Rows.{start, row}
use Rattle.words.specs.Count.{occurs}
use Rattle.words.proofs.Count.{hit_self, hit_other, down_in, count_most}
use Rattle.words.proofs.Lists.{same?}
use Rattle.words.proofs.Rows.{row-set, get_or-row, length-row}
use Rattle.settings.specs.declared.Settings.{Settings}
use Rattle.settings.specs.Range.{InRange}
use Rattle.layout.specs.Places.{block_at, link_at}
use Rattle.layout.specs.Rows.{width}
use Rattle.layout.specs.Asked.{Stretch}
use Rattle.layout.proofs.NodeRows.{width_head, width-block, start-block, row_fits}
use Rattle.blocks.specs.Chain.{link, chain, after, list, free, text, Within, Once, Chained}
use Rattle.blocks.specs.Asked.{FreeList}
use Rattle.blocks.proofs.Chains.{link_in, Leads, text_in, first_in, set_link, set_first}

-- the rows of a node's words
abbrev pub rows : Settings → List ℕ → ℕ → List ℕ
rows s l = row (width s) l

-- ---- each of a list is a block
pub within_in : (m : ℕ) (l : List ℕ) (x : ℕ) → Within m l → 1 ≤ occurs x l → (1 ≤ x) × (x ≤ m)
unfolding Within
within_in m [] x w o = absurd (omega arith)
within_in m (y ∷ l) x w o = same? x y (λ q e. rw q w.0) (λ q e. within_in m l x w.1 (omega (arith, hit_other x y q)))

pub in_within : (m : ℕ) (l : List ℕ) → ((x : ℕ) → 1 ≤ occurs x l → (1 ≤ x) × (x ≤ m)) → Within m l
unfolding Within
in_within m [] h = tt
in_within m (y ∷ l) h = (h y (omega (arith, hit_self y)), in_within m l (λ x o. h x (omega arith)))

-- blocks, no two the same, are no more than M
pub once-most : (m : ℕ) (l : List ℕ) → Within m l → Once l → length l ≤ m
once-most m l w o =
    count_most m l (λ b. same? (occurs b l) 0 (λ q e. omega arith) (λ q e. let i = within_in m l b w (omega arith) in omega (arith, o b, down_in m b i.0 i.1)))

module _ (s : Settings) (range : InRange s) where
  pub link_rows : (l : List ℕ) (b : ℕ) → 1 ≤ b → link s l b ≡ link_in s.b (rows s l) b
  link_rows l b h =
      let w = range.b.low in
      sym (get_or-row (width s) l (76 + b) (s.b - 1) (rw (width-block s b h) (omega arith)) ∙ ap (λ (k : ℕ). get_or l (k + (s.b - 1)) 0) (start-block s b h))

  pub rows_link : (l : List ℕ) (b v : ℕ) → 1 ≤ b → rows s (set l (link_at s b) v) ≡ set_link s.b (rows s l) b v
  unfolding set_link
  rows_link l b v h =
      let w = range.b.low in
      ap (λ (k : ℕ). rows s (set l (k + (s.b - 1)) v)) (sym (start-block s b h))
      ∙ row-set (width s) l (76 + b) (s.b - 1) v (rw (width-block s b h) (omega arith))

  pub first_rows : (l : List ℕ) → get_or l 0 0 ≡ first_in (rows s l)
  unfolding start
  first_rows l = sym (get_or-row (width s) l 0 0 (omega (arith, width_head s)))

  pub rows_first : (l : List ℕ) (v : ℕ) → rows s (set l 0 v) ≡ set_first (rows s l) v
  unfolding start set_first
  rows_first l v = row-set (width s) l 0 0 v (omega (arith, width_head s))

  -- a block's words
  pub part_rows : (l : List ℕ) (b : ℕ) → 1 ≤ b → part l (block_at s b) (link_at s b) ≡ take (s.b - 1) (rows s l (76 + b))
  unfolding row
  part_rows l b h =
      let w = range.b.low in
      let d : link_at s b - block_at s b ≡ s.b - 1 = omega arith in
      rw (d, width-block s b h, start-block s b h) (sym (take-take (s.b - 1) s.b (drop (block_at s b) l) (omega arith)))

  pub text_rows : (l : List ℕ) (c : List ℕ) → ((x : ℕ) → 1 ≤ occurs x c → 1 ≤ x) → text s l c ≡ text_in s.b (rows s l) c
  unfolding text
  text_rows l [] i = refl
  text_rows l (x ∷ c) i =
      ap₂ (λ (u v : List ℕ). u ++ v) (part_rows l x (i x (omega (arith, hit_self x)))) (text_rows l c (λ z o. i z (omega arith)))

  -- ---- the chain that the rows lead through
  module _ (l : List ℕ) where
    pub chain_is : (b : ℕ) (c : List ℕ) (e : ℕ) → ((x : ℕ) → 1 ≤ occurs x c → 1 ≤ x) → Leads s.b (rows s l) b c e → chain s l (length c) b ≡ c
    unfolding chain
    chain_is b [] e i h = refl
    chain_is b (x ∷ c) e i h =
        ap (λ (z : ℕ). z ∷ chain s l (length c) (link s l z)) h.0
        ∙ ap (λ (z : ℕ). x ∷ chain s l (length c) z) (link_rows l x (i x (omega (arith, hit_self x))))
        ∙ ap (λ (z : List ℕ). x ∷ z) (chain_is (link_in s.b (rows s l) x) c e (λ z o. i z (omega arith)) h.1)

    pub after_is : (b : ℕ) (c : List ℕ) (e : ℕ) → ((x : ℕ) → 1 ≤ occurs x c → 1 ≤ x) → Leads s.b (rows s l) b c e → after s l (length c) b ≡ e
    unfolding after
    after_is b [] e i h = h
    after_is b (x ∷ c) e i h =
        ap (λ (z : ℕ). after s l (length c) (link s l z)) h.0
        ∙ ap (after s l (length c)) (link_rows l x (i x (omega (arith, hit_self x))))
        ∙ after_is (link_in s.b (rows s l) x) c e (λ z o. i z (omega arith)) h.1

    pub list_is : (n b : ℕ) (c : List ℕ) → ((x : ℕ) → 1 ≤ occurs x c → 1 ≤ x) → length c ≤ n → Leads s.b (rows s l) b c 0 → list s l n b ≡ c
    unfolding list
    list_is zero b [] i k h = refl
    list_is zero b (x ∷ c) i k h = absurd (omega arith)
    list_is (suc n) b [] i k h = rw (eq-eqb b 0 h)
    list_is (suc n) b (x ∷ c) i k h =
        let ix = i x (omega (arith, hit_self x)) in
        rw (ne_eqb b 0 (λ e. omega (arith, h.0)))
        (ap (λ (z : ℕ). z ∷ list s l n (link s l z)) h.0
        ∙ ap (λ (z : ℕ). x ∷ list s l n z) (link_rows l x ix)
        ∙ ap (λ (z : List ℕ). x ∷ z) (list_is n (link_in s.b (rows s l) x) c (λ z o. i z (omega arith)) (omega arith) h.1))

    -- THE FREE LIST
    pub free_is : (c : List ℕ) → ((x : ℕ) → 1 ≤ occurs x c → 1 ≤ x) → length c ≤ s.m → Leads s.b (rows s l) (first_in (rows s l)) c 0 → free s l ≡ c
    free_is c i k h = rw (first_rows l) (list_is s.m (first_in (rows s l)) c i k h)

    -- ---- and back
    pub chain-leads : (n b : ℕ) → ((x : ℕ) → 1 ≤ occurs x (chain s l n b) → 1 ≤ x) → Leads s.b (rows s l) b (chain s l n b) (after s l n b)
    unfolding chain after
    chain-leads zero b i = refl
    chain-leads (suc n) b i =
        (refl, rw (← link_rows l b (i b (omega (arith, hit_self b)))) (chain-leads n (link s l b) (λ z o. i z (omega arith))))

    pub list-leads : (n b : ℕ) → ((x : ℕ) → 1 ≤ occurs x (list s l n b) → 1 ≤ x) → Leads s.b (rows s l) b (list s l n b) (after s l (length (list s l n b)) b)
    unfolding list after
    list-leads zero b i = refl
    list-leads (suc n) b i =
        same? b 0
        (λ q e. rw e refl)
        (λ q e.
        let j : (x : ℕ) → 1 ≤ occurs x (b ∷ list s l n (link s l b)) → 1 ≤ x = rw e at i in
        rw e (refl, rw (← link_rows l b (j b (omega (arith, hit_self b)))) (list-leads n (link s l b) (λ z o. j z (omega arith)))))

    pub free-leads : FreeList s l → Leads s.b (rows s l) (first_in (rows s l)) (free s l) 0
    free-leads f =
        subst (λ (e : ℕ). Leads s.b (rows s l) (first_in (rows s l)) (free s l) e) f.ends
        (subst (λ (b : ℕ). Leads s.b (rows s l) b (free s l) (after s l (length (free s l)) (get_or l 0 0))) (first_rows l)
        (list-leads s.m (get_or l 0 0) (λ x o. (within_in s.m (free s l) x f.within o).0)))

    -- ---- what the functions ask, from what the rows lead through
    module _ (c : List ℕ) (w : Within s.m c) where
      low : (x : ℕ) → 1 ≤ occurs x c → 1 ≤ x
      low x o = (within_in s.m c x w o).0

      pub leads-within : (b e : ℕ) → Leads s.b (rows s l) b c e → Within s.m (chain s l (length c) b)
      leads-within b e h = rw (chain_is b c e low h) w

      pub leads_chained : (b : ℕ) → Once c → Leads s.b (rows s l) b c 0 → Chained s l (length c) b
      leads_chained b o h = record { within = leads-within b 0 h; once = rw (chain_is b c 0 low h) o; ends = after_is b c 0 low h }

      module _ (o : Once c) (h : Leads s.b (rows s l) (first_in (rows s l)) c 0) where
        pub leads-free : free s l ≡ c
        leads-free = free_is c low (once-most s.m c w o) h

        pub leads-list : FreeList s l
        leads-list =
            record {
              within = rw leads-free w;
              once = rw leads-free o;
              ends = rw (leads-free, first_rows l) (after_is (first_in (rows s l)) c 0 low h);
            }

-- how long the rows are
module _ (s : Settings) (node : List ℕ) (st : Stretch s node) where
  pub block-long : (b : ℕ) → 1 ≤ b → b ≤ s.m → length (rows s node (76 + b)) ≡ s.b
  block-long b h k = length-row (width s) node (76 + b) (rw st.long (row_fits s (76 + b) (omega arith))) ∙ width-block s b h

  pub head_long : length (rows s node 0) ≡ 2
  head_long = length-row (width s) node 0 (rw st.long (row_fits s 0 (omega arith))) ∙ width_head s
