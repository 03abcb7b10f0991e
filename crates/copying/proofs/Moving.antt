-- A letter copied from one node's chain to another's, a block at a time. Assumes nothing.
use mathlib.Core.Path.{◌≡◌, refl, sym, ap, ap₂, ◌∙◌}
use mathlib.Core.Logic.{◌⊎◌, inl, inr, ⊎_elim}
use mathlib.Core.List.{List, [], ◌∷◌}
use Prim.Native.Nat.{ℕ, suc, ◌+◌, ◌-◌, ◌≤◌, ◌<◌, min}
use native.Mathlib.Omega.{arith}
use lib.ListN.{length, get_or, set, take, drop, length-set}
use lib.Seq.{sets, length-sets, take-take, take_all, drop-drop, length-take-le, get_or-set_other}
use Rattle.words.specs.Words.{part, splice}
use Rattle.words.proofs.Lists.{le_or_lt}
use Rattle.words.proofs.Parts.{get_d_part, length_part, splice-part, splice-set, splice-splice, part-splice, length-splice, drop-take}
use Rattle.settings.specs.declared.Settings.{Settings}
use Rattle.layout.specs.Places.{block_at, node_at, node_end, node_size, node, with_node}
use Rattle.layout.specs.Asked.{Sized}
use Rattle.layout.proofs.Fits.{block-fits}
use Rattle.blocks.specs.Chain.{needs, link, chain, text}
use Rattle.blocks.specs.Asked.{Walks}
use Rattle.letters.specs.Letter.{letter, piece, laid, copied}
use Rattle.letters.proofs.Steps.{piece_is, piece-long, head_block, walks-rest, front_words, rest-words, laid_none, laid_step, walks-laid}
use Rattle.letters.proofs.UnderWay.{sets_more}
use Rattle.letters.proofs.Copies.{inside, before_node, node-long, length-letter, put-long, put_to, put_again, put-away}
use Rattle.copying.specs.Asked.{Moves, CopiesBlock, Copies}

-- ---- a word that a run of stores leaves
sets-away : (p l : List ℕ) (a i : ℕ) → (i < a) ⊎ (a + length p ≤ i) → get_or (sets l a p) i 0 ≡ get_or l i 0
sets-away [] l a i h = refl
sets-away (x ∷ p) l a i h =
    sets-away p (set l a x) (suc a) i (⊎_elim (λ u. inl (omega arith)) (λ u. inr (omega arith)) h)
    ∙ get_or-set_other l a i x 0 (λ e. ⊎_elim (λ u. omega arith) (λ u. omega arith) h)

-- ---- words read and stored in a part are words of the list
module _ (l : List ℕ) (a e : ℕ) (h : a ≤ e) (g : e ≤ length l) where
  part_in : (b f : ℕ) → f ≤ e - a → part (part l a e) b f ≡ part l (a + b) (a + f)
  part_in b f z =
      let c : f - b ≡ a + f - (a + b) = omega arith in
      ap (take (f - b)) (drop-take b (e - a) (drop a l))
      ∙ take-take (f - b) (e - a - b) (drop b (drop a l)) (omega arith)
      ∙ ap₂ (λ (k : ℕ) (r : List ℕ). take k r) c (drop-drop b a l)

  splice_one : (q : List ℕ) → length q ≡ e - a → (k x : ℕ) → k < e - a → splice l a e (set q k x) ≡ set (splice l a e q) (a + k) x
  splice_one q z k x w =
      let r : List ℕ = splice l a e q in
      sym (splice-splice l a e h g q z (set q k x))
      ∙ ap (λ (p : List ℕ). splice r a e (set p k x)) (sym (part-splice l a e h g q z))
      ∙ splice-set r a e h (rw (length-splice l a e h g q z) g) k x w

  splice-sets : (p q : List ℕ) (k : ℕ) → length q ≡ e - a → k + length p ≤ e - a → splice l a e (sets q k p) ≡ sets (splice l a e q) (a + k) p
  splice-sets [] q k z w = refl
  splice-sets (x ∷ p) q k z w =
      let c : a + suc k ≡ suc (a + k) = omega arith in
      splice-sets p (set q k x) (suc k) (length-set q k x ∙ z) (omega arith)
      ∙ ap₂ (λ (r : List ℕ) (i : ℕ). sets r i p) (splice_one q z k x (omega arith)) c

  sets_in : (p : List ℕ) (k : ℕ) → k + length p ≤ e - a → sets l (a + k) p ≡ splice l a e (sets (part l a e) k p)
  sets_in p k w = sym (splice-sets p (part l a e) k (length_part l a e h g) w ∙ ap (λ (r : List ℕ). sets r (a + k) p) (splice-part l a e h g))

-- ---- words moved in a list
module _ (m : List ℕ) (from to n : ℕ) (w : Moves m from to n) where
  abbrev moving : List ℕ
  moving = part m from (from + n)

  moving_long : length moving ≡ n
  moving_long = length_part m from (from + n) (omega arith) w.reads ∙ omega arith

  -- the words up to k stand; one more
  pub moved_more : (k : ℕ) (l : List ℕ) → k < n → l ≡ sets m to (take k (part m from (from + n)))
      → set l (to + k) (get_or l (from + k) 0) ≡ sets m to (take (k + 1) (part m from (from + n)))
  moved_more k l h e =
      let z = moving_long in
      let lq : length (take k moving) ≡ k = length-take-le k moving (omega arith) in
      let o : (from + k < to) ⊎ (to + length (take k moving) ≤ from + k) = ⊎_elim (λ u. inl (omega arith)) (λ u. inr (omega arith)) w.apart in
      ap₂ (λ (r : List ℕ) (x : ℕ). set r (to + k) x) e
      (ap (λ (r : List ℕ). get_or r (from + k) 0) e ∙ sets-away (take k moving) m to (from + k) o ∙ sym (get_d_part m from (from + n) (omega arith) w.reads k (omega arith)))
      ∙ sets_more moving m to k (omega arith)

  pub moved_all : (k : ℕ) (l : List ℕ) → n ≤ k → l ≡ sets m to (take k (part m from (from + n))) → l ≡ sets m to (part m from (from + n))
  moved_all k l h e = let z = moving_long in e ∙ ap (sets m to) (take_all k moving (omega arith))

-- ---- one block
module _ (s : Settings) (m : List ℕ) (i x j y : ℕ) (w : CopiesBlock s m i x j y) (left n from to : ℕ)
    (en : n ≡ min left (s.b - 1)) (ef : from ≡ node_at s i + block_at s x) (et : to ≡ node_at s j + block_at s y) where
  pub block_moves : Moves m from to n
  block_moves =
      let f = block-fits s x w.from.low w.from.high in
      let t = block-fits s y w.to.low w.to.high in
      let c = inside s m w.sized i w.source in
      let d = inside s m w.sized j w.destination in
      let o = w.apart in
      record {
        reads = omega arith;
        writes = omega arith;
        apart = ⊎_elim (λ h. inl (omega (arith, before_node s m w.sized i j (omega arith)))) (λ h. inr (omega (arith, before_node s m w.sized j i h))) (le_or_lt i j);
      }

  piece_moved : part m from (from + n) ≡ piece s (node s m i) x 0 left
  piece_moved =
      let r = w.sized.range.b.low in
      let f = block-fits s x w.from.low w.from.high in
      let c : node_at s i + block_at s x + n ≡ node_at s i + (block_at s x + n) = omega arith in
      ap (λ (k : ℕ). part m k (k + n)) ef
      ∙ ap (λ (k : ℕ). part m (node_at s i + block_at s x) k) c
      ∙ sym (piece_is s (node s m i) w.from.stretch x w.from.low w.from.high 0 (omega arith) left n (block_at s x) (omega arith) (omega arith)
      ∙ part_in m (node_at s i) (node_end s i) (omega arith) (inside s m w.sized i w.source) (block_at s x) (block_at s x + n) (omega arith))

  pub block_moved : (l : List ℕ) → l ≡ sets m to (part m from (from + n)) → l ≡ with_node s m j (sets (node s m j) (block_at s y) (piece s (node s m i) x 0 left))
  block_moved l e =
      let r = w.sized.range.b.low in
      let t = block-fits s y w.to.low w.to.high in
      let k = piece-long s (node s m i) w.from.stretch x w.from.low w.from.high 0 (omega arith) left n (block_at s x) (omega arith) (omega arith) in
      e ∙ ap₂ (λ (z : ℕ) (p : List ℕ). sets m z p) et piece_moved
      ∙ sets_in m (node_at s j) (node_end s j) (omega arith) (inside s m w.sized j w.destination) (piece s (node s m i) x 0 left) (block_at s y) (omega arith)

-- ---- a copy under way: `owed` blocks from x on and from y on, and `left` words, are still to be copied
pub record UnderWay (s : Settings) (m₀ : List ℕ) (n i b j c : ℕ) (m : List ℕ) (owed left x y : ℕ) : Type 0 where
  pub sized : Sized s m
  pub from : Walks s (node s m i) owed x
  pub to : Walks s (node s m j) owed y
  pub is : with_node s m j (laid s (node s m j) owed y (take left (text s (node s m i) (chain s (node s m i) owed x)))) ≡ copied s m₀ n i b j c

module _ (s : Settings) (m₀ : List ℕ) (n i b j c : ℕ) (w : Copies s m₀ n i b j c) where
  pub way_starts : (owed : ℕ) → owed ≡ needs s n → UnderWay s m₀ n i b j c m₀ owed n b c
  unfolding copied letter
  way_starts owed e =
      rw e
      (record {
        sized = w.sized;
        from = w.from.walks;
        to = w.to.walks;
        is = ap (λ (k : ℕ). with_node s m₀ j (laid s (node s m₀ j) (needs s k) c (letter s (node s m₀ i) n b))) (sym (length-letter s (node s m₀ i) n b w.from));
      })

  module _ (m : List ℕ) (owed left x y : ℕ) (u : UnderWay s m₀ n i b j c m owed left x y) where
    abbrev words : List ℕ
    words = take left (text s (node s m i) (chain s (node s m i) owed x))

    pub way-ends : owed ≡ 0 → m ≡ copied s m₀ n i b j c
    way-ends e =
        sym (ap (with_node s m j) (laid_none s (node s m j) owed y u.to words e)
        ∙ splice-part m (node_at s j) (node_end s j) (omega arith) (inside s m u.sized j w.destination))
        ∙ u.is

    module _ (some : 1 ≤ owed) where
      pub way_block : CopiesBlock s m i x j y
      way_block =
          record {
            sized = u.sized;
            source = w.source;
            destination = w.destination;
            apart = w.apart;
            from = head_block s (node s m i) owed x u.from some;
            to = head_block s (node s m j) owed y u.to some;
          }

      abbrev new : List ℕ
      new = sets (node s m j) (block_at s y) (piece s (node s m i) x 0 left)

      new_long : length new ≡ node_size s
      new_long = length-sets (node s m j) (block_at s y) (piece s (node s m i) x 0 left) ∙ node-long s m u.sized j w.destination

      new_is : new ≡ sets (node s m j) (block_at s y) (take (s.b - 1) words)
      new_is = ap (sets (node s m j) (block_at s y)) (sym (front_words s (node s m i) owed x u.from some left))

      module _ (k x' y' : ℕ) (m' : List ℕ) (ek : k ≡ min left (s.b - 1)) (ex : x' ≡ link s (node s m i) x) (ey : y' ≡ link s (node s m j) y) (em : m' ≡ with_node s m j new) where
        at_j : node s m' j ≡ new
        at_j = ap (λ (l : List ℕ). node s l j) em ∙ put_to s m u.sized j w.destination new new_long

        at_i : node s m' i ≡ node s m i
        at_i = ap (λ (l : List ℕ). node s l i) em ∙ put-away s m u.sized j w.destination new new_long i w.apart

        abbrev rest : List ℕ
        rest = take (left - k) (text s (node s m i) (chain s (node s m i) (owed - 1) x'))

        rest_is : rest ≡ drop (s.b - 1) words
        rest_is =
            ap (λ (z : ℕ). take (left - k) (text s (node s m i) (chain s (node s m i) (owed - 1) z))) ex
            ∙ sym (rest-words s (node s m i) owed x u.from some left k ek)

        pub way_goes : UnderWay s m₀ n i b j c m' (owed - 1) (left - k) x' y'
        way_goes =
            record {
              sized = record { range = u.sized.range; long = ap length em ∙ put-long s m u.sized j w.destination new new_long ∙ u.sized.long };
              from = rw (at_i, ex) (walks-rest s (node s m i) owed x u.from some);
              to = rw at_j (walks-laid s (node s m j) owed y u.to words some y' new ey new_is);
              is = ap₂ (λ (p q : List ℕ). with_node s m' j (laid s p (owed - 1) y' (take (left - k) (text s q (chain s q (owed - 1) x'))))) at_j at_i
                  ∙ ap (λ (l : List ℕ). with_node s l j (laid s new (owed - 1) y' rest)) em
                  ∙ put_again s m u.sized j w.destination new new_long (laid s new (owed - 1) y' rest)
                  ∙ ap (with_node s m j)
                  (ap (laid s new (owed - 1) y') rest_is ∙ laid_step s (node s m j) owed y u.to words some y' new ey new_is)
                  ∙ u.is;
            }
