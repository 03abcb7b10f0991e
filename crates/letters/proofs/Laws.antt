-- What writing a letter does, in words: what is written is read back, words behind it stay, and no other chain changes. Assumes nothing.
--     word-text, word-letter     word k of a letter is the k-th of its words
--     letter_rows, lies_rows     a letter in rows is the letter in words, and may be read
--     rows_letter     a letter written, as rows
--     write_read, write_over     what is written is read back; the words behind it in the last block stay
--     write_chain, write_after, write_free     every chain and the free list are as they were, so the counts of blocks too
--     write_text, write_letter     so are the words of a chain that has no block in common
use mathlib.Core.Path.{◌≡◌, sym, ap, ◌∙◌}
use mathlib.Core.Logic.{⊎_elim}
use mathlib.Core.List.{List, ◌++◌}
use Prim.Native.Nat.{ℕ, zero, suc, ◌+◌, ◌-◌, ◌*◌, ◌/◌, ◌≤◌, ◌<◌}
use native.Mathlib.Nat.{suc-mul, zero-mul, div-eq-sub-div, mod-eq-sub-mod}
use native.Mathlib.Numerals.{add-one}
use native.Mathlib.Omega.{arith}
use lib.ListN.{length, get_or, take, get_or-append}
use lib.Seq.{get_or-take, get_or-append-add}
use Rattle.words.specs.Words.{part}
use Rattle.words.specs.Count.{occurs}
use Rattle.words.proofs.Lists.{le_or_lt}
use Rattle.words.proofs.Over.{over, over_read}
use Rattle.words.proofs.Parts.{get_d_part}
use Rattle.settings.specs.declared.Settings.{Settings}
use Rattle.layout.specs.Places.{first_free_at, block_at, link_at, node}
use Rattle.layout.specs.Asked.{Stretch}
use Rattle.layout.proofs.Fits.{block-fits}
use Rattle.blocks.specs.Chain.{needs, link, chain, after, free, text, Within, Once, Chained}
use Rattle.blocks.specs.Asked.{FreeList}
use Rattle.blocks.proofs.Chains.{Leads, text_in, first_in}
use Rattle.blocks.proofs.Rows.{rows, within_in, first_rows, text_rows, chain_is, after_is, free_is, chain-leads, free-leads, leads-within, block-long}
use Rattle.blocks.proofs.Moves.{length-chain, length-list}
use Rattle.letters.specs.Letter.{word, letter, laid, written}
use Rattle.letters.specs.Asked.{Lies}
use Rattle.letters.proofs.Texts.{fill, fill_leads, fill_other, fill_text, fill_apart}
use Rattle.letters.proofs.Rows.{chain-long, needs-enough, length-laid, rows_written}
use Rattle.letters.proofs.Steps.{own-long, word_near}

-- ---- a word of a letter
module _ (s : Settings) (node : List ℕ) (st : Stretch s node) where
  own-word : (b k : ℕ) → 1 ≤ b → b ≤ s.m → k < s.b - 1 → get_or (part node (block_at s b) (link_at s b)) k 0 ≡ get_or node (block_at s b + k) 0
  own-word b k h g l =
      let f = block-fits s b h g in
      let z = st.long in
      get_d_part node (block_at s b) (link_at s b) (omega arith) (omega arith) k (omega arith)

  word_far : (b k : ℕ) → s.b - 1 ≤ k → word s node b k ≡ word s node (link s node b) (k - (s.b - 1))
  unfolding word after
  word_far b k l =
      let w = st.range.b.low in
      let p : 0 < s.b - 1 = omega arith in
      let e : k / (s.b - 1) ≡ suc ((k - (s.b - 1)) / (s.b - 1)) = div-eq-sub-div p l ∙ add-one ((k - (s.b - 1)) / (s.b - 1)) in
      rw (e, mod-eq-sub-mod l)

  pub word-text : (n b k : ℕ) → Within s.m (chain s node n b) → k < n * (s.b - 1) → word s node b k ≡ get_or (text s node (chain s node n b)) k 0
  unfolding chain text Within
  word-text zero b k w l = absurd (omega (arith, zero-mul (s.b - 1)))
  word-text (suc n) b k w l =
      let z = own-long s node st b w.0.0 w.0.1 in
      ⊎_elim
      (λ far.
      let e : k ≡ length (part node (block_at s b) (link_at s b)) + (k - (s.b - 1)) = omega arith in
      word_far b k far
      ∙ word-text n (link s node b) (k - (s.b - 1)) w.1 (omega (arith, suc-mul n (s.b - 1)))
      ∙ sym (ap (λ (i : ℕ). get_or (part node (block_at s b) (link_at s b) ++ text s node (chain s node n (link s node b))) i 0) e
      ∙ get_or-append-add (part node (block_at s b) (link_at s b)) (text s node (chain s node n (link s node b))) (k - (s.b - 1)) 0))
      (λ near.
      word_near s node b k near
      ∙ sym (get_or-append (part node (block_at s b) (link_at s b)) (text s node (chain s node n (link s node b))) 0 k (omega arith)
      ∙ own-word b k w.0.0 w.0.1 near))
      (le_or_lt (s.b - 1) k)

  -- word k of a letter of n words
  pub word-letter : (n b k : ℕ) → Within s.m (chain s node (needs s n) b) → k < n → word s node b k ≡ get_or (letter s node n b) k 0
  unfolding letter
  word-letter n b k w l =
      word-text (needs s n) b k w (omega (arith, needs-enough s st.range n))
      ∙ sym (get_or-take n (text s node (chain s node (needs s n) b)) k 0 l)

  -- ---- a letter in rows: where they lead from b through the blocks l that n words need
  module _ (n b e : ℕ) (l : List ℕ) (w : Within s.m l) (need : length l ≡ needs s n) (h : Leads s.b (rows s node) b l e) where
    pub letter_rows : letter s node n b ≡ take n (text_in s.b (rows s node) l)
    unfolding letter
    letter_rows =
        let i : (x : ℕ) → 1 ≤ occurs x l → 1 ≤ x = λ x o. (within_in s.m l x w o).0 in
        ap (take n)
        (ap (λ (k : ℕ). text s node (chain s node k b)) (sym need)
        ∙ ap (text s node) (chain_is s st.range node b l e i h)
        ∙ text_rows s st.range node l i)

    pub lies_rows : n ≤ 1024 → Lies s node n b
    lies_rows m = record { walks = record { stretch = st; within = rw (← need) (leads-within s st.range node l w b e h) }; most = m }

-- ---- a letter written
module _ (s : Settings) (node : List ℕ) (st : Stretch s node) (b : ℕ) (ws : List ℕ) (wi : Within s.m (chain s node (needs s (length ws)) b)) where
  -- the chain, and the stretch with the letter written
  abbrev c : List ℕ
  c = chain s node (needs s (length ws)) b

  abbrev new : List ℕ
  new = written s node b ws

  in_c : (x : ℕ) → 1 ≤ occurs x c → (1 ≤ x) × (x ≤ s.m)
  in_c x o = within_in s.m (chain s node (needs s (length ws)) b) x wi o

  pub written-stretch : Stretch s (written s node b ws)
  written-stretch = record { range = st.range; long = length-laid s (needs s (length ws)) node b ws ∙ st.long }

  -- as rows
  pub rows_letter : rows s (written s node b ws) ≡ fill s.b (rows s node) (chain s node (needs s (length ws)) b) ws
  rows_letter =
      ap (λ (n : ℕ). rows s (laid s node n b ws)) (sym (length-chain s node (needs s (length ws)) b))
      ∙ rows_written s st.range node b c (after s node (needs s (length ws)) b) ws (λ x o. (in_c x o).0)
      (chain-leads s st.range node (needs s (length ws)) b (λ x o. (in_c x o).0))

  kept-leads : (n x : ℕ) → Within s.m (chain s node n x) → Leads s.b (rows s new) x (chain s node n x) (after s node n x)
  kept-leads n x w =
      rw rows_letter
      (fill_leads s.b (rows s node) c ws x (chain s node n x) (after s node n x) (chain-leads s st.range node n x (λ y o. (within_in s.m (chain s node n x) y w o).0)))

  -- EVERY CHAIN is as it was
  pub write_chain : (n x : ℕ) → Within s.m (chain s node n x) → chain s (written s node b ws) n x ≡ chain s node n x
  write_chain n x w =
      ap (λ (k : ℕ). chain s new k x) (sym (length-chain s node n x))
      ∙ chain_is s st.range new x (chain s node n x) (after s node n x) (λ y o. (within_in s.m (chain s node n x) y w o).0) (kept-leads n x w)

  pub write_after : (n x : ℕ) → Within s.m (chain s node n x) → after s (written s node b ws) n x ≡ after s node n x
  write_after n x w =
      ap (λ (k : ℕ). after s new k x) (sym (length-chain s node n x))
      ∙ after_is s st.range new x (chain s node n x) (after s node n x) (λ y o. (within_in s.m (chain s node n x) y w o).0) (kept-leads n x w)

  pub write_chained : (n x : ℕ) → Chained s node n x → Chained s (written s node b ws) n x
  write_chained n x h =
      record {
        within = rw (write_chain n x h.within) h.within;
        once = rw (write_chain n x h.within) h.once;
        ends = write_after n x h.within ∙ h.ends;
      }

  -- so is the free list
  free-kept : FreeList s node → Leads s.b (rows s new) (first_in (rows s new)) (free s node) 0
  free-kept f =
      let e : first_in (rows s new) ≡ first_in (rows s node) =
      ap first_in rows_letter ∙ ap (λ (w : List ℕ). get_or w 0 0) (fill_other s.b (rows s node) c ws 0 (λ x o z. omega arith)) in
      rw e (rw rows_letter (fill_leads s.b (rows s node) c ws (first_in (rows s node)) (free s node) 0 (free-leads s st.range node f)))

  pub write_free : FreeList s node → free s (written s node b ws) ≡ free s node
  write_free f =
      free_is s st.range new (free s node) (λ x o. (within_in s.m (free s node) x f.within o).0) (length-list s node s.m (get_or node first_free_at 0)) (free-kept f)

  pub write_list : FreeList s node → FreeList s (written s node b ws)
  write_list f =
      record {
        within = rw (write_free f) f.within;
        once = rw (write_free f) f.once;
        ends = rw (write_free f, first_rows s st.range new)
            (after_is s st.range new (first_in (rows s new)) (free s node) 0 (λ x o. (within_in s.m (free s node) x f.within o).0) (free-kept f));
      }

  -- THE WORDS of a chain that has no block in common are as they were
  pub write_text : (l : List ℕ) → Within s.m l → ((x : ℕ) → 1 ≤ occurs x l → occurs x (chain s node (needs s (length ws)) b) ≡ 0) → text s (written s node b ws) l ≡ text s node l
  write_text l w away =
      let i : (x : ℕ) → 1 ≤ occurs x l → 1 ≤ x = λ x o. (within_in s.m l x w o).0 in
      text_rows s st.range new l i
      ∙ ap (λ (R : ℕ → List ℕ). text_in s.b R l) rows_letter
      ∙ fill_apart s.b (rows s node) c ws l away
      ∙ sym (text_rows s st.range node l i)

  pub write_letter : (n x : ℕ) → Within s.m (chain s node (needs s n) x)
      → ((y : ℕ) → 1 ≤ occurs y (chain s node (needs s n) x) → occurs y (chain s node (needs s (length ws)) b) ≡ 0) → letter s (written s node b ws) n x ≡ letter s node n x
  unfolding letter
  write_letter n x w away = rw (write_chain (needs s n) x w) (ap (take n) (write_text (chain s node (needs s n) x) w away))

  -- where no block stands in the chain twice
  module _ (once : Once (chain s node (needs s (length ws)) b)) where
    -- the words lie over the front of the chain's words: those behind them stay
    pub write_over : text s (written s node b ws) (chain s node (needs s (length ws)) b) ≡ over ws (text s node (chain s node (needs s (length ws)) b))
    write_over =
        text_rows s st.range new c (λ x o. (in_c x o).0)
        ∙ ap (λ (R : ℕ → List ℕ). text_in s.b R c) rows_letter
        ∙ fill_text s.b (rows s node) c ws once (λ x o. block-long s node st x (in_c x o).0 (in_c x o).1)
        ∙ ap (over ws) (sym (text_rows s st.range node c (λ x o. (in_c x o).0)))

    -- WHAT IS WRITTEN IS READ BACK
    pub write_read : letter s (written s node b ws) (length ws) b ≡ ws
    unfolding letter
    write_read =
        let e : chain s new (needs s (length ws)) b ≡ c = write_chain (needs s (length ws)) b wi in
        rw (e, write_over) (over_read ws (text s node c) (omega (arith, chain-long s node (needs s (length ws)) b (record { stretch = st; within = wi }), needs-enough s st.range (length ws))))

-- NO ROW BUT A BLOCK'S CHANGES where a letter is written
pub write_row : (s : Settings) (node : List ℕ) (st : Stretch s node) (b : ℕ) (ws : List ℕ) (wi : Within s.m (chain s node (needs s (length ws)) b))
    → (r : ℕ) → r < 77 → rows s (written s node b ws) r ≡ rows s node r
write_row s node st b ws wi r k =
    ap (λ (R : ℕ → List ℕ). R r) (rows_letter s node st b ws wi)
    ∙ fill_other s.b (rows s node) (chain s node (needs s (length ws)) b) ws r
    (λ x o z. let i = within_in s.m (chain s node (needs s (length ws)) b) x wi o in omega arith)
