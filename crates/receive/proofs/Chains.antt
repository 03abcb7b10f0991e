-- An item that leaves its task queue leaves every chain of blocks as it was. Assumes nothing.
use mathlib.Core.Path.{◌≡◌, sym, ap, ◌∙◌, subst}
use mathlib.Core.List.{List}
use Prim.Native.Nat.{ℕ, ◌+◌, ◌≤◌, ◌<◌}
use native.Mathlib.Omega.{arith}
use lib.ListN.{length}
use Rattle.words.specs.Count.{occurs}
use Rattle.words.proofs.Lists.{put}
use Rattle.words.proofs.Rows.{But, but_none}
use Rattle.settings.specs.declared.Settings.{Settings}
use Rattle.settings.specs.Range.{InRange}
use Rattle.layout.specs.Places.{task_at}
use Rattle.layout.specs.Numbers.{header_words, greatest_body}
use Rattle.layout.specs.Rows.{width}
use Rattle.layout.specs.Asked.{Stretch}
use Rattle.layout.proofs.NodeRows.{start_task}
use Rattle.blocks.specs.Chain.{needs, chain, after, Within}
use Rattle.blocks.specs.Moves.{given_back}
use Rattle.blocks.specs.Asked.{Walks}
use Rattle.blocks.proofs.Chains.{Leads, leads-queue}
use Rattle.blocks.proofs.Rows.{rows, within_in, chain_is, chain-leads}
use Rattle.blocks.proofs.Moves.{length-chain}
use Rattle.queues.proofs.InRow.{room_task}
use Rattle.taking.specs.Take.{taken_out}
use Rattle.taking.proofs.InRow.{but_taken}
use Rattle.taking.proofs.Taken.{length_taken}
use Rattle.sound.specs.Letters.{chain_from}
use Rattle.receive.specs.Take.{emptied}
use Rattle.receive.specs.Asked.{Whole, Leaves}
use Rattle.receive.proofs.Bodies.{needs_some, body_whole, body_most, owed_is, owed_within}

-- ---- words that differ in one row before the blocks have the same chains
module _ (s : Settings) (range : InRange s) (l : List ℕ) (r : ℕ) (h : r < 77) {m p : List ℕ} (d : But (width s) l r m p) where
  pub but_chain : (n b : ℕ) → Within s.m (chain s l n b) → chain s m n b ≡ chain s l n b
  but_chain n b w =
      let i : (x : ℕ) → 1 ≤ occurs x (chain s l n b) → 1 ≤ x = λ x o. (within_in s.m (chain s l n b) x w o).0 in
      let k : Leads s.b (put (rows s l) r p) b (chain s l n b) (after s l n b) =
      leads-queue s.b (rows s l) r p h (chain s l n b) i b (after s l n b) (chain-leads s range l n b i) in
      let k' : Leads s.b (rows s m) b (chain s l n b) (after s l n b) =
      subst (λ (R : ℕ → List ℕ). Leads s.b R b (chain s l n b) (after s l n b)) (sym d.rows) k in
      ap (λ (j : ℕ). chain s m j b) (sym (length-chain s l n b)) ∙ chain_is s range m b (chain s l n b) (after s l n b) i k'

-- ---- an item taken out of task queue q
module _ (s : Settings) (l : List ℕ) (st : Stretch s l) (q : ℕ) (h : q < 64) (i : ℕ) where
  pub taken-stretch : Stretch s (taken_out s l (task_at s q) i)
  taken-stretch = record { range = st.range; long = length_taken s l (task_at s q) i ∙ st.long }

  pub taken-chain : (n b : ℕ) → Within s.m (chain s l n b) → chain s (taken_out s l (task_at s q) i) n b ≡ chain s l n b
  taken-chain n b w =
      ap (λ (a : ℕ). chain s (taken_out s l a i) n b) (sym (start_task s q (omega arith)))
      ∙ but_chain s st.range l (13 + q) (omega arith)
      (but_taken (width s) l (13 + q) s (room_task s st.range (13 + q) (omega arith) (omega arith)) (but_none (width s) l (13 + q)) i) n b w

  pub taken-walks : (n b : ℕ) → Within s.m (chain s l n b) → Walks s (taken_out s l (task_at s q) i) n b
  taken-walks n b w = record { stretch = taken-stretch; within = rw (taken-chain n b w) w }

-- ---- the item at place k leaves, and its chain is given back
module _ (s : Settings) (w : List ℕ) (q k b n : ℕ) (h : Leaves s w q k b n) where
  leaves_whole : Whole s w b
  leaves_whole = rw h.first h.holds.letter

  pub leaves_most : n ≤ greatest_body
  leaves_most = rw h.words (body_most s w b leaves_whole)

  module _ {owed at j : ℕ} {m : List ℕ} (o : owed ≡ needs s j) (a : at ≡ task_at s q) (t : m ≡ taken_out s w at k) where
    pub leaves_walks : 1 ≤ j → j ≤ n + header_words → Walks s m owed b × (1 ≤ owed)
    leaves_walks l u =
        let g = leaves_whole in
        let y = body_whole s w b g h.words in (
          rw (t, a, o) (taken-walks s w g.stretch q h.holds.queue k (needs s j) b (owed_within s w b g j (omega arith))),
          rw o (needs_some s g.stretch.range j l),
        )

    pub leaves_is : j ≡ n + header_words → {e : List ℕ} → e ≡ given_back s m owed b → e ≡ emptied s w q 0 k
    unfolding emptied
    leaves_is u f =
        let z : owed ≡ length (chain_from s w b) = o ∙ ap (needs s) u ∙ owed_is s w b leaves_whole h.words in
        f ∙ rw (t, a, z) (ap (λ (x : ℕ). given_back s (taken_out s w (task_at s q) k) (length (chain_from s w x)) x) h.first)
