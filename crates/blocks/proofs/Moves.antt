-- Taking and giving back in words: their rows, and what the chain, the free list, other chains and texts are afterwards. Assumes nothing.
--     rows_taken, rows_given     the moves in words are the moves over rows of Laws
--     take-answer, few-answer, few-taken     the answer; where there are too few, nothing changed
--     take-free, take-chain, take-list, take_chained, take_other, take-text     what n blocks taken leave
--     give_free, give_list, give_other, give_text     what a chain given back leaves
--     give_taken     blocks taken and given back at once: nothing changed
use Rattle.std.specs.Prelude.{None, Some}
use mathlib.Core.Path.{◌≡◌, refl, sym, ap, ap₂, ◌∙◌, subst}
use mathlib.Core.Bool.{true}
use mathlib.Core.List.{List, [], ◌∷◌, ◌++◌}
use Prim.Native.Nat.{ℕ, zero, suc, ◌+◌, ◌-◌, ◌≤◌, ◌<◌}
use native.Mathlib.Omega.{arith}
use lib.Dec.{leb, eqb}
use lib.ListN.{length, get_or, set, take, drop, length-set, length-append, length-drop}
use lib.Seq.{split_at, take-suc, take_all, length-take-le, get_or-append_seam, get_or-set_same, get_or-set_other, set-set, set_comm, set-get_or}
use borrow.Author.Tests.{le-leb, lt-leb}
use Rattle.words.specs.Count.{occurs}
use Rattle.words.proofs.Count.{hit_self, occurs-append, occurs-split}
use Rattle.words.proofs.Lists.{both, same?}
use Rattle.settings.specs.declared.Settings.{Settings}
use Rattle.layout.specs.Places.{link_at}
use Rattle.layout.specs.Asked.{Stretch}
use Rattle.blocks.specs.Chain.{link, chain, after, list, free, text, Within, Once, Chained}
use Rattle.blocks.specs.Asked.{FreeList}
use Rattle.blocks.specs.Moves.{enough, taken, taken_from, taken_answer, given_back}
use Rattle.blocks.proofs.Steps.{down, head_fits}
use Rattle.blocks.proofs.Chains.{Leads, text_in, first_in, set_first, set_link, leads-split}
use Rattle.blocks.proofs.Rows.{rows, within_in, in_within, once-most, link_rows, rows_link, first_rows, rows_first, text_rows, chain_is, after_is, free_is, chain-leads, free-leads, block-long, head_long}
use Rattle.blocks.proofs.Laws.{taken_rows, given_rows, taken_other, taken-chain, taken_free, taken-text, taken-leads, taken-count, given-free, given-text, given-leads}

pub length-chain : (s : Settings) (node : List ℕ) (n b : ℕ) → length (chain s node n b) ≡ n
unfolding chain
length-chain s node zero b = refl
length-chain s node (suc n) b = ap suc (length-chain s node n (link s node b))

pub length-list : (s : Settings) (node : List ℕ) (n b : ℕ) → length (list s node n b) ≤ n
unfolding list
length-list s node zero b = omega arith
length-list s node (suc n) b = both (λ (l : List ℕ). length l ≤ suc n) (eqb b 0) [] (b ∷ list s node n (link s node b)) (omega arith) (omega (arith, length-list s node n (link s node b)))

pub length_taken : (s : Settings) (node : List ℕ) (n : ℕ) → length (taken s node n) ≡ length node
unfolding taken taken_from
length_taken s node n = both (λ (l : List ℕ). length l ≡ length node) (enough s node n) (taken_from s node n) node (simp length-set) refl

pub length-given : (s : Settings) (node : List ℕ) (n b : ℕ) → length (given_back s node n b) ≡ length node
unfolding given_back
length-given s node n b = simp length-set

none_left : (k : ℕ) → (1 ≤ k → ⊥) → k ≡ 0
none_left zero h = refl
none_left (suc k) h = absurd (h (omega arith))

module _ (s : Settings) (node : List ℕ) (st : Stretch s node) where
  pub taken-stretch : (n : ℕ) → Stretch s (taken s node n)
  taken-stretch n = record { range = st.range; long = length_taken s node n ∙ st.long }

  pub given-stretch : (n b : ℕ) → Stretch s (given_back s node n b)
  given-stretch n b = record { range = st.range; long = length-given s node n b ∙ st.long }

  -- ---- the answer; and where there are too few, nothing changed
  pub take-answer : (n : ℕ) → n ≤ length (free s node) → taken_answer s node n ≡ Some (get_or node 0 0)
  unfolding taken_answer enough
  take-answer n h = rw (le-leb n (length (free s node)) h)

  pub few-answer : (n : ℕ) → length (free s node) < n → taken_answer s node n ≡ None
  unfolding taken_answer enough
  few-answer n h = rw (lt-leb n (length (free s node)) h)

  pub few-taken : (n : ℕ) → length (free s node) < n → taken s node n ≡ node
  unfolding taken enough
  few-taken n h = rw (lt-leb n (length (free s node)) h)

  -- ---- the rows
  taken-words : (xs : List ℕ) (y : ℕ) (ys : List ℕ) → free s node ≡ xs ++ y ∷ ys → taken s node (suc (length xs)) ≡ set (set node 0 (link s node y)) (link_at s y) 0
  unfolding taken taken_from enough
  taken-words xs y ys f =
      let e : leb (suc (length xs)) (length (free s node)) ≡ true = le-leb (suc (length xs)) (length (free s node)) (rw (f, length-append xs (y ∷ ys)) (omega arith)) in
      let n : suc (length xs) - 1 ≡ length xs = omega arith in
      let g : get_or (free s node) (suc (length xs) - 1) 0 ≡ y = ap (λ (k : ℕ). get_or (free s node) k 0) n ∙ ap (λ (l : List ℕ). get_or l (length xs) 0) f ∙ get_or-append_seam xs y ys 0 in
      rw e (ap (λ (z : ℕ). set (set node 0 (link s node z)) (link_at s z) 0) g)

  pub rows_taken : (xs : List ℕ) (y : ℕ) (ys : List ℕ) → 1 ≤ y → free s node ≡ xs ++ y ∷ ys → rows s (taken s node (suc (length xs))) ≡ taken_rows s.b (rows s node) y
  unfolding taken_rows
  rows_taken xs y ys h f =
      ap (rows s) (taken-words xs y ys f)
      ∙ rows_link s st.range (set node 0 (link s node y)) y 0 h
      ∙ ap (λ (R : ℕ → List ℕ). set_link s.b R y 0)
      (rows_first s st.range node (link s node y) ∙ ap (set_first (rows s node)) (link_rows s st.range node y h))

  pub rows_given : (b : ℕ) (xs : List ℕ) (y e : ℕ) → ((x : ℕ) → 1 ≤ occurs x (xs ++ y ∷ []) → 1 ≤ x) → Leads s.b (rows s node) b (xs ++ y ∷ []) e
      → rows s (given_back s node (suc (length xs)) b) ≡ given_rows s.b (rows s node) b y
  unfolding given_rows given_back
  rows_given b xs y e i h =
      let n : suc (length xs) - 1 ≡ length xs = omega arith in
      let k = leads-split s.b (rows s node) b xs y [] e h in
      let a : after s node (suc (length xs) - 1) b ≡ y =
      ap (λ (j : ℕ). after s node j b) n ∙ after_is s st.range node b xs y (λ x o. i x (omega (arith, occurs-append x xs (y ∷ [])))) k.0 in
      ap (λ (z : ℕ). rows s (set (set node (link_at s z) (get_or node 0 0)) 0 b)) a
      ∙ rows_first s st.range (set node (link_at s y) (get_or node 0 0)) b
      ∙ ap (λ (R : ℕ → List ℕ). set_first R b)
      (rows_link s st.range node y (get_or node 0 0) (i y (omega (arith, occurs-append y xs (y ∷ []), hit_self y)))
      ∙ ap (set_link s.b (rows s node) y) (first_rows s st.range node))

  -- ---- n blocks are taken, and the free list has them
  module _ (fl : FreeList s node) (n : ℕ) (some : 1 ≤ n) (has : n ≤ length (free s node)) where
    abbrev f : List ℕ
    f = free s node

    abbrev xs : List ℕ
    xs = take (n - 1) (free s node)

    abbrev y : ℕ
    y = get_or (free s node) (n - 1) 0

    abbrev ys : List ℕ
    ys = drop (suc (n - 1)) (free s node)

    cut : f ≡ xs ++ y ∷ ys
    cut = split_at (free s node) (n - 1) 0 (omega arith)

    size_xs : suc (length xs) ≡ n
    size_xs = omega (arith, length-take-le (n - 1) (free s node) (omega arith))

    rest_is : ys ≡ drop n f
    rest_is = ap (λ (k : ℕ). drop k (free s node)) (sym (down n some))

    front_is : xs ++ y ∷ [] ≡ take n f
    front_is = sym (take-suc (free s node) (n - 1) 0 (omega arith)) ∙ ap (λ (k : ℕ). take k (free s node)) (sym (down n some))

    counts : (x : ℕ) → occurs x (xs ++ y ∷ []) + occurs x ys ≡ occurs x f
    counts x = taken-count s.b (rows s node) y xs ys x ∙ ap (occurs x) (sym cut)

    in_f : (x : ℕ) → 1 ≤ occurs x f → (1 ≤ x) × (x ≤ s.m)
    in_f x o = within_in s.m (free s node) x fl.within o

    in_y : (1 ≤ y) × (y ≤ s.m)
    in_y = in_f y (omega (arith, counts y, occurs-append y xs (y ∷ []), hit_self y))

    taken_rows_lem : rows s (taken s node n) ≡ taken_rows s.b (rows s node) y
    taken_rows_lem = ap (λ (k : ℕ). rows s (taken s node k)) (sym size_xs) ∙ rows_taken xs y ys in_y.0 cut

    chain_rows : Leads s.b (rows s (taken s node n)) (get_or node 0 0) (xs ++ y ∷ []) 0
    chain_rows =
        let w = st.range.b.low in
        let i = in_y in
        subst (λ (b : ℕ). Leads s.b (rows s (taken s node n)) b (xs ++ y ∷ []) 0) (sym (first_rows s st.range node))
        (rw taken_rows_lem
        (taken-chain s.b (rows s node) y xs ys (omega arith) (block-long s node st y i.0 i.1) (rw cut at fl.once) (rw cut at (free-leads s st.range node fl))))

    free_rows : Leads s.b (rows s (taken s node n)) (first_in (rows s (taken s node n))) ys 0
    free_rows =
        let w = st.range.b.low in
        let i = in_y in
        rw taken_rows_lem
        (taken_free s.b (rows s node) y xs ys (omega arith) (block-long s node st y i.0 i.1) (rw cut at fl.once) (rw cut at (free-leads s st.range node fl)) (omega (arith, head_long s node st)))

    size_c : length (xs ++ y ∷ []) ≡ n
    size_c = length-append xs (y ∷ []) ∙ omega (arith, size_xs)

    in_c : (x : ℕ) → 1 ≤ occurs x (xs ++ y ∷ []) → 1 ≤ x
    in_c x o = (in_f x (omega (arith, counts x))).0

    in_ys : (x : ℕ) → 1 ≤ occurs x ys → 1 ≤ x
    in_ys x o = (in_f x (omega (arith, counts x))).0

    -- THE CHAIN: the first n of the free list, in its order
    pub take-chain : chain s (taken s node n) n (get_or node 0 0) ≡ take n (free s node)
    take-chain = ap (λ (k : ℕ). chain s (taken s node n) k (get_or node 0 0)) (sym size_c) ∙ chain_is s st.range (taken s node n) (get_or node 0 0) (xs ++ y ∷ []) 0 in_c chain_rows ∙ front_is

    -- the last link 0
    pub take_end : after s (taken s node n) n (get_or node 0 0) ≡ 0
    take_end = ap (λ (k : ℕ). after s (taken s node n) k (get_or node 0 0)) (sym size_c) ∙ after_is s st.range (taken s node n) (get_or node 0 0) (xs ++ y ∷ []) 0 in_c chain_rows

    -- THE FREE LIST: the others, in their order
    pub take-free : free s (taken s node n) ≡ drop n (free s node)
    take-free =
        free_is s st.range (taken s node n) ys in_ys
        (rw (length-drop (suc (n - 1)) (free s node)) (omega (arith, length-list s node s.m (get_or node 0 0)))) free_rows
        ∙ rest_is

    -- COUNTS
    pub take_count : (x : ℕ) → occurs x (chain s (taken s node n) n (get_or node 0 0)) + occurs x (free s (taken s node n)) ≡ occurs x (free s node)
    take_count x = rw (take-chain, take-free) (sym (occurs-split x n (free s node)))

    pub take_chained : Chained s (taken s node n) n (get_or node 0 0)
    take_chained =
        record {
          within = in_within s.m (chain s (taken s node n) n (get_or node 0 0)) (λ x o. in_f x (omega (arith, take_count x)));
          once = λ x. omega (arith, take_count x, fl.once x);
          ends = take_end;
        }

    pub take-list : FreeList s (taken s node n)
    take-list =
        record {
          within = in_within s.m (free s (taken s node n)) (λ x o. in_f x (omega (arith, take_count x)));
          once = λ x. omega (arith, take_count x, fl.once x);
          ends =
              let e : free s (taken s node n) ≡ ys = take-free ∙ sym rest_is in
              rw (e, first_rows s st.range (taken s node n)) (after_is s st.range (taken s node n) (first_in (rows s (taken s node n))) ys 0 in_ys free_rows);
        }

    -- ANOTHER CHAIN is as it was
    pub take_other : (k c : ℕ) → Within s.m (chain s node k c) → ((x : ℕ) → 1 ≤ occurs x (chain s node k c) → occurs x (free s node) ≡ 0)
        → (chain s (taken s node n) k c ≡ chain s node k c) × (after s (taken s node n) k c ≡ after s node k c)
    take_other k c w apart =
        let l : List ℕ = chain s node k c in
        let i : (x : ℕ) → 1 ≤ occurs x l → 1 ≤ x = λ x o. (within_in s.m l x w o).0 in
        let o : occurs y l ≡ 0 = none l apart in
        let h : Leads s.b (rows s (taken s node n)) c l (after s node k c) =
        rw taken_rows_lem (taken-leads s.b (rows s node) y c l (after s node k c) o (chain-leads s st.range node k c i)) in
        let e : k ≡ length l = sym (length-chain s node k c) in (
          ap (λ (j : ℕ). chain s (taken s node n) j c) e ∙ chain_is s st.range (taken s node n) c l (after s node k c) i h,
          ap (λ (j : ℕ). after s (taken s node n) j c) e ∙ after_is s st.range (taken s node n) c l (after s node k c) i h,
        )
      where
        none : (l : List ℕ) → ((x : ℕ) → 1 ≤ occurs x l → occurs x (free s node) ≡ 0) → occurs y l ≡ 0
        none l a = none_left (occurs y l) (λ o. let z = a y o in omega (arith, counts y, occurs-append y xs (y ∷ []), hit_self y))

    -- words other than links stay
    pub take-text : (l : List ℕ) → Within s.m l → text s (taken s node n) l ≡ text s node l
    take-text l w =
        let i : (x : ℕ) → 1 ≤ occurs x l → 1 ≤ x = λ x o. (within_in s.m l x w o).0 in
        text_rows s st.range (taken s node n) l i
        ∙ ap (λ (R : ℕ → List ℕ). text_in s.b R l) taken_rows_lem
        ∙ taken-text s.b (rows s node) y l
        ∙ sym (text_rows s st.range node l i)

    -- BLOCKS TAKEN AND GIVEN BACK AT ONCE: nothing changed
    taken_is : taken s node n ≡ set (set node 0 (link s node y)) (link_at s y) 0
    taken_is = ap (taken s node) (sym size_xs) ∙ taken-words xs y ys cut

    last_is : after s (taken s node n) (n - 1) (get_or node 0 0) ≡ y
    last_is =
        let k = leads-split s.b (rows s (taken s node n)) (get_or node 0 0) xs y [] 0 chain_rows in
        ap (λ (j : ℕ). after s (taken s node n) j (get_or node 0 0)) (sym (length-take-le (n - 1) (free s node) (omega arith)))
        ∙ after_is s st.range (taken s node n) (get_or node 0 0) xs y (λ x o. in_c x (omega (arith, occurs-append x xs (y ∷ [])))) k.0

    pub give_taken : given_back s (taken s node n) n (get_or node 0 0) ≡ node
    unfolding given_back
    give_taken =
        let a : ℕ = link_at s y in
        let w = st.range.b.low in
        let ne : 0 ≡ a → ⊥ = λ e. omega arith in
        let h : 0 < length node = omega (arith, head_fits s, st.long) in
        let v : ℕ = link s node y in
        let f : get_or (taken s node n) 0 0 ≡ v =
        ap (λ (l : List ℕ). get_or l 0 0) taken_is ∙ get_or-set_other (set node 0 v) a 0 0 0 ne ∙ get_or-set_same node 0 v 0 h in
        ap₂ (λ (z x : ℕ). set (set (taken s node n) (link_at s z) x) 0 (get_or node 0 0)) last_is f
        ∙ ap (λ (l : List ℕ). set (set l a v) 0 (get_or node 0 0)) taken_is
        ∙ ap (λ (l : List ℕ). set l 0 (get_or node 0 0)) (set-set (set node 0 v) a 0 v ∙ set_comm node 0 a v v ne ∙ ap (λ (l : List ℕ). set l 0 v) (set-get_or node a 0))
        ∙ set-set node 0 v (get_or node 0 0)
        ∙ set-get_or node 0 0

  -- ---- the chain of n blocks from b on is given back
  module _ (fl : FreeList s node) (n b : ℕ) (some : 1 ≤ n) (ch : Chained s node n b) (apart : Once (chain s node n b ++ free s node)) where
    abbrev l : List ℕ
    l = chain s node n b

    abbrev us : List ℕ
    us = take (n - 1) (chain s node n b)

    abbrev v : ℕ
    v = get_or (chain s node n b) (n - 1) 0

    whole : us ++ v ∷ [] ≡ l
    whole =
        let e = length-chain s node n b in
        sym (take-suc (chain s node n b) (n - 1) 0 (omega arith)) ∙ take_all (suc (n - 1)) (chain s node n b) (omega arith)

    size_us : suc (length us) ≡ n
    size_us = omega (arith, length-take-le (n - 1) (chain s node n b) (omega (arith, length-chain s node n b)))

    in_l : (x : ℕ) → 1 ≤ occurs x l → (1 ≤ x) × (x ≤ s.m)
    in_l x o = within_in s.m (chain s node n b) x ch.within o

    has_v : 1 ≤ occurs v l
    has_v = subst (λ (k : List ℕ). 1 ≤ occurs v k) whole (omega (arith, occurs-append v us (v ∷ []), hit_self v))

    l_rows : Leads s.b (rows s node) b l 0
    l_rows = subst (λ (e : ℕ). Leads s.b (rows s node) b l e) ch.ends (chain-leads s st.range node n b (λ x o. (in_l x o).0))

    given_rows_lem : rows s (given_back s node n b) ≡ given_rows s.b (rows s node) b v
    given_rows_lem =
        ap (λ (k : ℕ). rows s (given_back s node k b)) (sym size_us)
        ∙ rows_given b us v 0 (rw whole (λ x o. (in_l x o).0)) (rw whole l_rows)

    back_rows : Leads s.b (rows s (given_back s node n b)) (first_in (rows s (given_back s node n b))) (l ++ free s node) 0
    back_rows =
        let w = st.range.b.low in
        let i = in_l v has_v in
        let h : Leads s.b (given_rows s.b (rows s node) b v) (first_in (given_rows s.b (rows s node) b v)) ((us ++ v ∷ []) ++ free s node) 0 =
        given-free s.b (rows s node) b v us (free s node) (omega arith) (omega (arith, head_long s node st)) (block-long s node st v i.0 i.1)
        (rw whole apart) (rw whole l_rows) (free-leads s st.range node fl) in
        rw given_rows_lem (subst (λ (k : List ℕ). Leads s.b (given_rows s.b (rows s node) b v) (first_in (given_rows s.b (rows s node) b v)) (k ++ free s node) 0) whole h)

    in_all : (x : ℕ) → 1 ≤ occurs x (l ++ free s node) → (1 ≤ x) × (x ≤ s.m)
    in_all x o = within_in s.m (l ++ free s node) x (in_within s.m (l ++ free s node) (λ z k. in_one z k)) o
      where
        in_one : (z : ℕ) → 1 ≤ occurs z (chain s node n b ++ free s node) → (1 ≤ z) × (z ≤ s.m)
        in_one z k =
            same? (occurs z (chain s node n b)) 0
            (λ q e. within_in s.m (free s node) z fl.within (omega (arith, occurs-append z (chain s node n b) (free s node))))
            (λ q e. in_l z (omega arith))

    all-within : Within s.m (l ++ free s node)
    all-within = in_within s.m (l ++ free s node) in_all

    -- THE FREE LIST: the chain, in its order, before it
    pub give_free : free s (given_back s node n b) ≡ chain s node n b ++ free s node
    give_free = free_is s st.range (given_back s node n b) (l ++ free s node) (λ x o. (in_all x o).0) (once-most s.m (l ++ free s node) all-within apart) back_rows

    -- COUNTS
    pub give_count : (x : ℕ) → occurs x (free s (given_back s node n b)) ≡ occurs x (chain s node n b) + occurs x (free s node)
    give_count x = rw give_free (occurs-append x (chain s node n b) (free s node))

    pub give_list : FreeList s (given_back s node n b)
    give_list =
        record {
          within = rw give_free all-within;
          once = rw give_free apart;
          ends = rw (give_free, first_rows s st.range (given_back s node n b))
              (after_is s st.range (given_back s node n b) (first_in (rows s (given_back s node n b))) (l ++ free s node) 0 (λ x o. (in_all x o).0) back_rows);
        }

    -- ANOTHER CHAIN is as it was
    pub give_other : (k c : ℕ) → Within s.m (chain s node k c) → ((x : ℕ) → 1 ≤ occurs x (chain s node k c) → occurs x (chain s node n b) ≡ 0)
        → (chain s (given_back s node n b) k c ≡ chain s node k c) × (after s (given_back s node n b) k c ≡ after s node k c)
    give_other k c w away =
        let t : List ℕ = chain s node k c in
        let i : (x : ℕ) → 1 ≤ occurs x t → 1 ≤ x = λ x o. (within_in s.m t x w o).0 in
        let o : occurs v t ≡ 0 = none_left (occurs v t) (λ q. let z = away v q in omega (arith, has_v)) in
        let h : Leads s.b (rows s (given_back s node n b)) c t (after s node k c) =
        rw given_rows_lem (given-leads s.b (rows s node) b v c t (after s node k c) o (chain-leads s st.range node k c i)) in
        let e : k ≡ length t = sym (length-chain s node k c) in (
          ap (λ (j : ℕ). chain s (given_back s node n b) j c) e ∙ chain_is s st.range (given_back s node n b) c t (after s node k c) i h,
          ap (λ (j : ℕ). after s (given_back s node n b) j c) e ∙ after_is s st.range (given_back s node n b) c t (after s node k c) i h,
        )

    -- words other than links stay
    pub give_text : (t : List ℕ) → Within s.m t → text s (given_back s node n b) t ≡ text s node t
    give_text t w =
        let i : (x : ℕ) → 1 ≤ occurs x t → 1 ≤ x = λ x o. (within_in s.m t x w o).0 in
        text_rows s st.range (given_back s node n b) t i
        ∙ ap (λ (R : ℕ → List ℕ). text_in s.b R t) given_rows_lem
        ∙ given-text s.b (rows s node) b v t
        ∙ sym (text_rows s st.range node t i)

-- NO ROW OF A QUEUE CHANGES where blocks are taken
pub take_row : (s : Settings) (node : List ℕ) (st : Stretch s node) → FreeList s node → (n : ℕ) → 1 ≤ n → n ≤ length (free s node)
    → (r : ℕ) → 1 ≤ r → r < 77 → rows s (taken s node n) r ≡ rows s node r
take_row s node st fl n some has r h k =
    let i = in_y s node st fl n some has in
    ap (λ (R : ℕ → List ℕ). R r) (taken_rows_lem s node st fl n some has)
    ∙ taken_other s.b (rows s node) (get_or (free s node) (n - 1) 0) r (λ e. omega arith) (λ e. omega arith)
