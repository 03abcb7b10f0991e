-- Words laid into a block or into a chain, as rows. Assumes nothing.
--     rows_block     a block's words stored are its row put anew
--     rows_written     the words laid into a chain are `fill` over rows
use mathlib.Core.Path.{◌≡◌, refl, sym, ap, ◌∙◌, subst}
use mathlib.Core.List.{List, [], ◌∷◌}
use Prim.Native.Nat.{ℕ, zero, suc, ◌+◌, ◌-◌, ◌*◌, ◌≤◌}
use native.Mathlib.Nat.{add-zero, mod-lt, div-add-mod}
use native.Mathlib.Omega.{arith}
use lib.ListN.{length, take, drop, length-take}
use lib.Seq.{sets, length-sets}
use Rattle.words.specs.Rows.{start}
use Rattle.words.specs.Count.{occurs}
use Rattle.words.proofs.Count.{hit_self}
use Rattle.words.proofs.Lists.{put}
use Rattle.words.proofs.Rows.{row-sets}
use Rattle.words.proofs.Over.{over, sets_over}
use Rattle.settings.specs.declared.Settings.{Settings}
use Rattle.settings.specs.Range.{InRange}
use Rattle.layout.specs.Places.{block_at}
use Rattle.layout.specs.Rows.{width}
use Rattle.layout.proofs.NodeRows.{width-block, start-block}
use Rattle.blocks.specs.Chain.{needs, link, chain, after, text, Within}
use Rattle.blocks.specs.Asked.{Walks}
use Rattle.blocks.proofs.Chains.{link_in, Leads, length-text}
use Rattle.blocks.proofs.Rows.{rows, within_in, link_rows, text_rows, chain_is, chain-leads, block-long}
use Rattle.blocks.proofs.Moves.{length-chain}
use Rattle.letters.specs.Letter.{laid}
use Rattle.letters.proofs.Texts.{fill, fill_leads}

-- a chain of n blocks has n times B-1 words
pub chain-long : (s : Settings) (node : List ℕ) (n b : ℕ) → Walks s node n b → length (text s node (chain s node n b)) ≡ n * (s.b - 1)
chain-long s node n b w =
    let st = w.stretch in
    let i : (x : ℕ) → 1 ≤ occurs x (chain s node n b) → (1 ≤ x) × (x ≤ s.m) = λ x o. within_in s.m (chain s node n b) x w.within o in
    ap length (text_rows s st.range node (chain s node n b) (λ x o. (i x o).0))
    ∙ length-text s.b (rows s node) (chain s node n b) (λ x o. block-long s node st x (i x o).0 (i x o).1)
    ∙ ap (λ (k : ℕ). k * (s.b - 1)) (length-chain s node n b)

-- the blocks needed have room for the words
pub needs-enough : (s : Settings) → InRange s → (n : ℕ) → n ≤ needs s n * (s.b - 1)
unfolding needs
needs-enough s r n =
    let w = r.b.low in
    omega (arith, div-add-mod (n + (s.b - 2)) (s.b - 1), mod-lt (n + (s.b - 2)) {m = s.b - 1} (omega arith))

pub length-laid : (s : Settings) (n : ℕ) (node : List ℕ) (b : ℕ) (ws : List ℕ) → length (laid s node n b ws) ≡ length node
unfolding laid
length-laid s zero node b ws = refl
length-laid s (suc n) node b ws =
    length-laid s n (sets node (block_at s b) (take (s.b - 1) ws)) (link s node b) (drop (s.b - 1) ws) ∙ length-sets node (block_at s b) (take (s.b - 1) ws)

module _ (s : Settings) (range : InRange s) where
  pub rows_block : (l : List ℕ) (b : ℕ) (p : List ℕ) → 1 ≤ b → length p ≤ s.b → rows s (sets l (block_at s b) p) ≡ put (rows s l) (76 + b) (over p (rows s l (76 + b)))
  rows_block l b p h k =
      ap (λ (i : ℕ). rows s (sets l i p)) (sym (start-block s b h) ∙ sym (add-zero (start (width s) (76 + b))))
      ∙ row-sets (width s) l (76 + b) 0 p (rw (width-block s b h) (omega arith))
      ∙ ap (put (rows s l) (76 + b)) (sets_over p (rows s l (76 + b)))

  block_fill : (l : List ℕ) (b : ℕ) (ws : List ℕ) → 1 ≤ b → rows s (sets l (block_at s b) (take (s.b - 1) ws)) ≡ fill s.b (rows s l) (b ∷ []) ws
  unfolding fill
  block_fill l b ws h = rows_block l b (take (s.b - 1) ws) h (rw (length-take (s.b - 1) ws) (omega arith))

  -- no chain changes where a block's words are stored
  pub block-chain : (l : List ℕ) (b : ℕ) (ws : List ℕ) (n c : ℕ) → 1 ≤ b → Within s.m (chain s l n c) → chain s (sets l (block_at s b) (take (s.b - 1) ws)) n c ≡ chain s l n c
  block-chain l b ws n c h w =
      let i : (x : ℕ) → 1 ≤ occurs x (chain s l n c) → 1 ≤ x = λ x o. (within_in s.m (chain s l n c) x w o).0 in
      let k : Leads s.b (rows s (sets l (block_at s b) (take (s.b - 1) ws))) c (chain s l n c) (after s l n c) =
      rw (block_fill l b ws h) (fill_leads s.b (rows s l) (b ∷ []) ws c (chain s l n c) (after s l n c) (chain-leads s range l n c i)) in
      ap (λ (j : ℕ). chain s (sets l (block_at s b) (take (s.b - 1) ws)) j c) (sym (length-chain s l n c))
      ∙ chain_is s range (sets l (block_at s b) (take (s.b - 1) ws)) c (chain s l n c) (after s l n c) i k

  -- ---- a chain of blocks
  pub rows_written : (l : List ℕ) (b : ℕ) (c : List ℕ) (e : ℕ) (ws : List ℕ) → ((x : ℕ) → 1 ≤ occurs x c → 1 ≤ x) → Leads s.b (rows s l) b c e
      → rows s (laid s l (length c) b ws) ≡ fill s.b (rows s l) c ws
  unfolding laid fill
  rows_written l b [] e ws i h = refl
  rows_written l b (x ∷ c) e ws i h =
      let k : ℕ = s.b - 1 in
      let l₁ : List ℕ = sets l (block_at s x) (take k ws) in
      let ix = i x (omega (arith, hit_self x)) in
      let R₁ : ℕ → List ℕ = put (rows s l) (76 + x) (over (take k ws) (rows s l (76 + x))) in
      let q : rows s l₁ ≡ R₁ = block_fill l x ws ix in
      let g : Leads s.b R₁ (link_in s.b (rows s l) x) c e = fill_leads s.b (rows s l) (x ∷ []) ws (link_in s.b (rows s l) x) c e h.1 in
      let g' : Leads s.b (rows s l₁) (link_in s.b (rows s l) x) c e = subst (λ (R : ℕ → List ℕ). Leads s.b R (link_in s.b (rows s l) x) c e) (sym q) g in
      ap (λ (z : ℕ). rows s (laid s (sets l (block_at s z) (take k ws)) (length c) (link s l z) (drop k ws))) h.0
      ∙ ap (λ (z : ℕ). rows s (laid s l₁ (length c) z (drop k ws))) (link_rows s range l x ix)
      ∙ rows_written l₁ (link_in s.b (rows s l) x) c e (drop k ws) (λ z o. i z (omega arith)) g'
      ∙ ap (λ (R : ℕ → List ℕ). fill s.b R c (drop k ws)) q
