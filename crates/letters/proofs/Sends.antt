-- Blocks taken from the free list and a letter written into them: what a send and a turn do to a node's blocks. Assumes nothing.
--     take-lies     the letter may be written there; sent_rows     as rows
--     sent_read, sent_chained, sent-free, sent-list     the letter, its chain and the free list afterwards
--     sent-letter, sent_other     every other letter and its chain are as they were
use mathlib.Core.Path.{◌≡◌, sym, ap, ◌∙◌, subst}
use mathlib.Core.List.{List, [], ◌∷◌, ◌++◌}
use Prim.Native.Nat.{ℕ, suc, ◌≤◌}
use native.Mathlib.Omega.{arith}
use lib.ListN.{length, get_or, take, drop, length-append}
use Rattle.words.specs.Count.{occurs}
use Rattle.words.proofs.Count.{hit_self, occurs-append, occurs-split}
use Rattle.settings.specs.declared.Settings.{Settings}
use Rattle.layout.specs.Asked.{Stretch}
use Rattle.blocks.specs.Chain.{needs, chain, after, free, text, Within, Chained}
use Rattle.blocks.specs.Asked.{FreeList}
use Rattle.blocks.specs.Moves.{taken}
use Rattle.blocks.proofs.Chains.{Leads}
use Rattle.blocks.proofs.Rows.{rows, within_in, first_rows, free-leads, block-long}
use Rattle.blocks.proofs.Laws.{taken_rows, taken-chain}
use Rattle.blocks.proofs.Moves.{taken-stretch, rows_taken, take-chain, take_chained, take-free, take-list, take_other, take-text}
use Rattle.letters.specs.Letter.{letter, laid, written}
use Rattle.letters.specs.Asked.{Lies}
use Rattle.letters.proofs.Texts.{fill}
use Rattle.letters.proofs.Rows.{rows_written}
use Rattle.letters.proofs.Laws.{write_read, write_chained, write_chain, write_after, write_free, write_list, write_letter}
use Rattle.letters.proofs.Copies.{lies_chained}

module _ (s : Settings) (node : List ℕ) (st : Stretch s node) (fl : FreeList s node) where
  -- as rows, where the free list is xs, y, ys and the letter takes the blocks up to y
  pub sent_rows : (xs : List ℕ) (y : ℕ) (ys ws : List ℕ) → free s node ≡ xs ++ y ∷ ys → suc (length xs) ≡ needs s (length ws)
      → rows s (written s (taken s node (needs s (length ws))) (get_or node 0 0) ws) ≡ fill s.b (taken_rows s.b (rows s node) y) (xs ++ y ∷ []) ws
  sent_rows xs y ys ws f need =
      let w = st.range.b.low in
      let c : List ℕ = xs ++ y ∷ [] in
      let i : (x : ℕ) → 1 ≤ occurs x (xs ++ y ∷ ys) → (1 ≤ x) × (x ≤ s.m) = λ x o. within_in s.m (xs ++ y ∷ ys) x (rw f at fl.within) o in
      let iy = i y (omega (arith, occurs-append y xs (y ∷ ys), hit_self y)) in
      let ic : (x : ℕ) → 1 ≤ occurs x c → 1 ≤ x = λ x o. (i x (omega (arith, occurs-append x xs (y ∷ ys), occurs-append x xs (y ∷ [])))).0 in
      let e : rows s (taken s node (needs s (length ws))) ≡ taken_rows s.b (rows s node) y = subst (λ (k : ℕ). rows s (taken s node k) ≡ taken_rows s.b (rows s node) y) need (rows_taken s node st xs y ys iy.0 f) in
      let h : Leads s.b (taken_rows s.b (rows s node) y) (get_or node 0 0) c 0 =
      subst (λ (b : ℕ). Leads s.b (taken_rows s.b (rows s node) y) b c 0) (sym (first_rows s st.range node))
      (taken-chain s.b (rows s node) y xs ys (omega arith) (block-long s node st y iy.0 iy.1) (rw f at fl.once) (rw f at (free-leads s st.range node fl))) in
      let n : length c ≡ needs s (length ws) = length-append xs (y ∷ []) ∙ omega arith in
      ap (λ (k : ℕ). rows s (laid s (taken s node (needs s (length ws))) k (get_or node 0 0) ws)) (sym n)
      ∙ rows_written s st.range (taken s node (needs s (length ws))) (get_or node 0 0) c 0 ws ic (rw e h)
      ∙ ap (λ (R : ℕ → List ℕ). fill s.b R c ws) e

  module _ (ws : List ℕ) (some : 1 ≤ needs s (length ws)) (has : needs s (length ws) ≤ length (free s node)) where
    abbrev k : ℕ
    k = needs s (length ws)

    abbrev first : ℕ
    first = get_or node 0 0

    held : Chained s (taken s node k) k first
    held = take_chained s node st fl (needs s (length ws)) some has

    after-take : Stretch s (taken s node k)
    after-take = taken-stretch s node st (needs s (length ws))

    pub take-lies : length ws ≤ 1024 → Lies s (taken s node (needs s (length ws))) (length ws) (get_or node 0 0)
    take-lies m = lies_chained s (taken s node k) (length ws) first after-take m held

    -- THE LETTER is read back
    pub sent_read : letter s (written s (taken s node (needs s (length ws))) (get_or node 0 0) ws) (length ws) (get_or node 0 0) ≡ ws
    sent_read = write_read s (taken s node k) after-take first ws held.within held.once

    pub sent_chained : Chained s (written s (taken s node (needs s (length ws))) (get_or node 0 0) ws) (needs s (length ws)) (get_or node 0 0)
    sent_chained = write_chained s (taken s node k) after-take first ws held.within k first held

    -- its blocks: the first of the free list; the others are free
    pub sent-chain : chain s (written s (taken s node (needs s (length ws))) (get_or node 0 0) ws) (needs s (length ws)) (get_or node 0 0) ≡ take (needs s (length ws)) (free s node)
    sent-chain = write_chain s (taken s node k) after-take first ws held.within k first held.within ∙ take-chain s node st fl (needs s (length ws)) some has

    pub sent-free : free s (written s (taken s node (needs s (length ws))) (get_or node 0 0) ws) ≡ drop (needs s (length ws)) (free s node)
    sent-free =
        write_free s (taken s node k) after-take first ws held.within (take-list s node st fl (needs s (length ws)) some has)
        ∙ take-free s node st fl (needs s (length ws)) some has

    pub sent-list : FreeList s (written s (taken s node (needs s (length ws))) (get_or node 0 0) ws)
    sent-list = write_list s (taken s node k) after-take first ws held.within (take-list s node st fl (needs s (length ws)) some has)

    -- ANOTHER LETTER, which has no free block
    module _ (n x : ℕ) (w : Within s.m (chain s node n x)) (away : (z : ℕ) → 1 ≤ occurs z (chain s node n x) → occurs z (free s node) ≡ 0) where
      kept : (chain s (taken s node k) n x ≡ chain s node n x) × (after s (taken s node k) n x ≡ after s node n x)
      kept = take_other s node st fl (needs s (length ws)) some has n x w away

      pub sent_other : (chain s (written s (taken s node (needs s (length ws))) (get_or node 0 0) ws) n x ≡ chain s node n x)
          × (after s (written s (taken s node (needs s (length ws))) (get_or node 0 0) ws) n x ≡ after s node n x)
      sent_other =
          let v : Within s.m (chain s (taken s node k) n x) = rw kept.0 w in (
            write_chain s (taken s node k) after-take first ws held.within n x v ∙ kept.0,
            write_after s (taken s node k) after-take first ws held.within n x v ∙ kept.1,
          )

    pub sent-letter : (n x : ℕ) → Within s.m (chain s node (needs s n) x) → ((z : ℕ) → 1 ≤ occurs z (chain s node (needs s n) x) → occurs z (free s node) ≡ 0)
        → letter s (written s (taken s node (needs s (length ws))) (get_or node 0 0) ws) n x ≡ letter s node n x
    unfolding letter
    sent-letter n x w away =
        let t : List ℕ = taken s node k in
        let e : chain s t (needs s n) x ≡ chain s node (needs s n) x = (kept (needs s n) x w away).0 in
        let c : chain s t k first ≡ take k (free s node) = take-chain s node st fl (needs s (length ws)) some has in
        let apart : (z : ℕ) → 1 ≤ occurs z (chain s t (needs s n) x) → occurs z (chain s t k first) ≡ 0 =
        λ z o. (let f : occurs z (free s node) ≡ 0 = away z (subst (λ (l : List ℕ). 1 ≤ occurs z l) e o) in rw c (omega (arith, occurs-split z k (free s node)))) in
        write_letter s t after-take first ws held.within n x (rw e w) apart
        ∙ ap (take n) (ap (text s t) e ∙ take-text s node st fl (needs s (length ws)) some has (chain s node (needs s n) x) w)
