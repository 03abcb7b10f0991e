-- Lengths of the fresh words, and zeroes with a word stored. Assumes nothing.
use mathlib.Core.Path.{◌≡◌, refl, sym, ap, ◌∙◌}
use mathlib.Core.List.{List, [], ◌∷◌, ◌++◌, append-nil, append_assoc}
use Prim.Native.Nat.{ℕ, zero, suc, ◌+◌, ◌-◌, ◌*◌, ◌≤◌, ◌<◌}
use native.Mathlib.Nat.{suc-mul, zero-mul, add-mul, add-sub_cancel}
use native.Mathlib.Omega.{arith}
use native.Mathlib.Numerals.{add-one}
use lib.ListN.{length, set, take, drop, replicate, length-append, length-replicate, replicate-append-replicate, drop_of_length-le, take-append-drop}
use borrow.Author.Tests.{lt-ltb, le-ltb}
use lib.Seq.{take_at, drop_at, drop-drop, set_at}
use borrow.Rule.Slice.PartMut.{put_mid}
use Rattle.words.specs.Words.{part, splice}
use Rattle.words.proofs.Parts.{grown, back}
use Rattle.settings.specs.declared.Settings.{Settings}
use Rattle.settings.specs.Range.{InRange}
use Rattle.layout.specs.Places.{table_words, nodes_at, blocks_at, block_at, link_at, node_size, node_at, memory_size}
use Rattle.setup.specs.Fresh.{next_free, fresh_block, fresh_blocks, fresh_front, fresh_node, fresh_nodes, fresh_head, fresh_memory}

-- the first zeroes of many, and those behind them
take-zeroes : (n m : ℕ) → take n (replicate {A = ℕ} (n + m) 0) ≡ replicate n 0
take-zeroes n m =
    ap (take n) (sym (replicate-append-replicate n m 0)) ∙ take_at (replicate n 0) (replicate m 0) n (length-replicate n 0)

drop-zeroes : (n m : ℕ) → drop n (replicate {A = ℕ} (n + m) 0) ≡ replicate m 0
drop-zeroes n m =
    ap (drop n) (sym (replicate-append-replicate n m 0)) ∙ drop_at (replicate n 0) (replicate m 0) n (length-replicate n 0)

-- a stretch has words
pub some_words : (s : Settings) → 1 ≤ node_size s
unfolding node_size blocks_at
some_words s = omega arith

-- a node's stretch whose first k blocks are linked, and whose other words behind the front are 0
unfoldable pub linked : Settings → ℕ → List ℕ
linked s k = (fresh_front s ++ fresh_blocks s k) ++ replicate ((s.m - k) * s.b) 0

-- a memory d whose words before the stretches are h, with its first i stretches laid
unfoldable pub laid_nodes : Settings → List ℕ → List ℕ → ℕ → List ℕ
laid_nodes s h d i = (h ++ fresh_nodes s i) ++ drop (node_at s i) d

-- a memory that was filled with zeroes
pub cleared : (s : Settings) (d m : List ℕ) → (((y : ℕ) → y ≡ 0 → y ≡ 0) → m ≡ replicate (length d) 0) → length d ≡ memory_size s → m ≡ replicate (memory_size s) 0
cleared s d m e z = e (λ y h. h) ∙ ap (λ (n : ℕ). replicate {A = ℕ} n 0) z

module _ (s : Settings) (r : InRange s) where
  pub length-block : (b : ℕ) → length (fresh_block s b) ≡ s.b
  unfolding fresh_block
  length-block b = simp (length-append, length-replicate) (omega arith)

  pub length-blocks : (k : ℕ) → length (fresh_blocks s k) ≡ k * s.b
  unfolding fresh_blocks
  length-blocks zero = sym (zero-mul s.b)
  length-blocks (suc k) =
      length-append (fresh_blocks s k) (fresh_block s (suc k)) ∙ omega (arith, length-blocks k, length-block (suc k), suc-mul k s.b)

  pub length_front : length (fresh_front s) ≡ blocks_at s
  unfolding fresh_front blocks_at
  length_front = omega (arith, length-replicate {A = ℕ} (blocks_at s - 1) 0)

  pub length-node : length (fresh_node s) ≡ node_size s
  unfolding fresh_node node_size blocks_at
  length-node =
      length-append (fresh_front s) (fresh_blocks s s.m) ∙ omega (arith, length_front, length-blocks s.m)

  pub length-nodes : (k : ℕ) → length (fresh_nodes s k) ≡ k * node_size s
  unfolding fresh_nodes
  length-nodes zero = sym (zero-mul (node_size s))
  length-nodes (suc k) =
      length-append (fresh_nodes s k) (fresh_node s) ∙ omega (arith, length-nodes k, length-node, suc-mul k (node_size s))

  pub length_head : length (fresh_head s) ≡ 24
  unfolding fresh_head
  length_head = refl

  -- the zeroes of one block and those behind it
  next-zeroes : (k : ℕ) → k < s.m → replicate {A = ℕ} ((s.m - k) * s.b) 0 ≡ replicate (s.b - 1) 0 ++ (0 ∷ replicate ((s.m - (k + 1)) * s.b) 0)
  next-zeroes k h =
      let w = r.b.low in
      let e : s.m - k ≡ suc (s.m - (k + 1)) = omega arith in
      let f : (s.m - k) * s.b ≡ s.b - 1 + suc ((s.m - (k + 1)) * s.b) = ap (λ (x : ℕ). x * s.b) e ∙ omega (arith, suc-mul (s.m - (k + 1)) s.b) in
      ap (λ (x : ℕ). replicate {A = ℕ} x 0) f ∙ sym (replicate-append-replicate (s.b - 1) (suc ((s.m - (k + 1)) * s.b)) 0)

  length-laid : (k : ℕ) → length (fresh_front s ++ fresh_blocks s k) ≡ blocks_at s + k * s.b
  length-laid k = length-append (fresh_front s) (fresh_blocks s k) ∙ omega (arith, length_front, length-blocks k)

  -- a stretch of zeroes whose first word is stored anew
  pub linked_none : (d : List ℕ) → d ≡ replicate (node_size s) 0 → set d 0 1 ≡ linked s 0
  unfolding linked fresh_front fresh_blocks node_size blocks_at
  linked_none d e =
      let f : node_size s ≡ suc (blocks_at s - 1 + s.m * s.b) = omega arith in
      let g : s.m - 0 ≡ s.m = omega arith in
      ap (λ (l : List ℕ). set l 0 1) (e ∙ ap (λ (x : ℕ). replicate {A = ℕ} x 0) f)
      ∙ ap (λ (l : List ℕ). 1 ∷ l) (sym (replicate-append-replicate (blocks_at s - 1) (s.m * s.b) 0))
      ∙ ap (λ (l : List ℕ). l ++ replicate (s.m * s.b) 0) (sym (append-nil (1 ∷ replicate (blocks_at s - 1) 0)))
      ∙ ap (λ (y : ℕ). (fresh_front s ++ []) ++ replicate {A = ℕ} (y * s.b) 0) (sym g)

  linked_more : (k at : ℕ) → k + 1 < s.m → at ≡ link_at s (k + 1) → set (linked s k) at (k + 1 + 1) ≡ linked s (k + 1)
  unfolding linked fresh_blocks fresh_block next_free block_at
  linked_more k at h e =
      let p : List ℕ = fresh_front s ++ fresh_blocks s k in
      let zs : List ℕ = replicate (s.b - 1) 0 in
      let rest : List ℕ = replicate ((s.m - (k + 1)) * s.b) 0 in
      let x : ℕ = k + 1 + 1 in
      let w = r.b.low in
      let n : length (p ++ zs) ≡ at = length-append p zs ∙ omega (arith, length-laid k, length-replicate {A = ℕ} (s.b - 1) 0, e, ap (λ (y : ℕ). y * s.b) (add-sub_cancel k 1)) in
      let q : next_free s (suc k) ≡ x = rw (lt-ltb (suc k) s.m (omega arith)) (omega arith) in
      ap (λ (l : List ℕ). set (p ++ l) at x) (next-zeroes k (omega arith))
      ∙ ap (λ (l : List ℕ). set l at x) (sym (append_assoc p zs (0 ∷ rest)))
      ∙ set_at (p ++ zs) 0 rest x at n
      ∙ append_assoc p zs (x ∷ rest)
      ∙ sym (append_assoc p (zs ++ (x ∷ [])) rest ∙ ap (λ (l : List ℕ). p ++ l) (append_assoc zs (x ∷ []) rest))
      ∙ ap (λ (l : List ℕ). l ++ rest) (append_assoc (fresh_front s) (fresh_blocks s k) (zs ++ (x ∷ [])))
      ∙ ap (λ (v : ℕ). (fresh_front s ++ (fresh_blocks s k ++ (zs ++ (v ∷ [])))) ++ rest) (sym q)
      ∙ ap (λ (y : ℕ). (fresh_front s ++ fresh_blocks s y) ++ rest) (sym (add-one k))

  -- a turn of the loop, at block b
  pub linked_turn : (b at : ℕ) → 1 ≤ b → b < s.m → at ≡ link_at s b → set (linked s (b - 1)) at (b + 1) ≡ linked s (b + 1 - 1)
  linked_turn b at h g e =
      let d : b - 1 + 1 ≡ b = omega arith in
      let f : b + 1 - 1 ≡ b = omega arith in
      ap (λ (y : ℕ). set (linked s (b - 1)) at (y + 1)) (sym d) ∙ linked_more (b - 1) at (omega arith) (e ∙ ap (link_at s) (sym d)) ∙ ap (linked s) (d ∙ sym f)

  pub linked_all : (k : ℕ) → k + 1 ≡ s.m → linked s k ≡ fresh_node s
  unfolding linked fresh_node fresh_blocks fresh_block next_free
  linked_all k e =
      let w = r.b.low in
      let f : s.m ≡ suc k = omega arith in
      let g : (s.m - k) * s.b ≡ s.b - 1 + 1 = ap (λ (y : ℕ). y * s.b) one ∙ omega arith in
      let q : next_free s (suc k) ≡ 0 = rw (le-ltb (suc k) s.m (omega arith)) in
      ap (λ (y : ℕ). (fresh_front s ++ fresh_blocks s k) ++ replicate {A = ℕ} y 0) g
      ∙ ap (λ (l : List ℕ). (fresh_front s ++ fresh_blocks s k) ++ l) (sym (replicate-append-replicate (s.b - 1) 1 0))
      ∙ append_assoc (fresh_front s) (fresh_blocks s k) (replicate (s.b - 1) 0 ++ (0 ∷ []))
      ∙ ap (λ (v : ℕ). fresh_front s ++ (fresh_blocks s k ++ (replicate (s.b - 1) 0 ++ (v ∷ [])))) (sym q)
      ∙ ap (λ (y : ℕ). fresh_front s ++ fresh_blocks s y) (sym f)
    where
      one : s.m - k ≡ 1
      one = omega arith

  pub nodes_none : (d : List ℕ) → d ≡ laid_nodes s (take nodes_at d) d 0
  unfolding laid_nodes fresh_nodes node_at
  nodes_none d =
      let z : 536 + 0 * node_size s ≡ 536 = omega (arith, zero-mul (node_size s)) in
      cut 536 d ∙ ap (λ (k : ℕ). (take 536 d ++ []) ++ drop k d) (sym z)
    where
      cut : (n : ℕ) (l : List ℕ) → l ≡ (take n l ++ []) ++ drop n l
      cut n l = rw (append-nil, take-append-drop n l)

  -- stretch i, where i are laid and what is behind them is zeroes
  pub nodes_next : (h d m : List ℕ) (i a n : ℕ) → a ≡ node_at s i → n ≡ node_size s → i < 6 → length h ≡ nodes_at → drop nodes_at d ≡ replicate (6 * node_size s) 0
      → m ≡ laid_nodes s h d i → part m a (a + n) ≡ replicate (node_size s) 0
  unfolding laid_nodes node_at
  nodes_next h d m i a n e f g l q j =
      let w : ℕ = node_size s in
      let p : List ℕ = h ++ fresh_nodes s i in
      let z : length p ≡ a = length-append h (fresh_nodes s i) ∙ omega (arith, length-nodes i) in
      let o : 6 * w ≡ i * w + (w + (5 - i) * w) = ap (λ (k : ℕ). k * w) six ∙ add-mul i (suc (5 - i)) w ∙ omega (arith, suc-mul (5 - i) w) in
      let u : a + n - a ≡ w = omega arith in
      let v : drop a d ≡ replicate (w + (5 - i) * w) 0 =
      ap (λ (k : ℕ). drop k d) e
      ∙ sym (drop-drop (i * w) 536 d)
      ∙ ap (drop (i * w)) (q ∙ ap (λ (k : ℕ). replicate {A = ℕ} k 0) o)
      ∙ drop-zeroes (i * w) (w + (5 - i) * w) in
      ap (λ (t : List ℕ). part t a (a + n)) (j ∙ ap (λ (k : ℕ). p ++ drop k d) (sym e))
      ∙ ap (take (a + n - a)) (drop_at p (drop a d) a z ∙ v)
      ∙ ap (λ (k : ℕ). take k (replicate {A = ℕ} (w + (5 - i) * w) 0)) u
      ∙ take-zeroes w ((5 - i) * w)
    where
      six : 6 ≡ i + suc (5 - i)
      six = omega arith

  pub nodes_more : (h d : List ℕ) (i : ℕ) → length h ≡ nodes_at
      → splice (laid_nodes s h d i) (node_at s i) (node_at s i + node_size s) (fresh_node s) ≡ laid_nodes s h d (i + 1)
  unfolding laid_nodes fresh_nodes node_at
  nodes_more h d i l =
      let p : List ℕ = h ++ fresh_nodes s i in
      let a : ℕ = 536 + i * node_size s in
      let f : a + node_size s ≡ 536 + (i + 1) * node_size s = rw (add-one i) (omega (arith, suc-mul i (node_size s))) in
      let z : length p ≡ a = length-append h (fresh_nodes s i) ∙ omega (arith, length-nodes i) in
      grown d p (fresh_node s) a (a + node_size s) z (omega arith)
      ∙ rw (f, append_assoc h (fresh_nodes s i) (fresh_node s), add-one i)

  pub nodes_all : (h d : List ℕ) → length d ≡ memory_size s → laid_nodes s h d 6 ≡ h ++ fresh_nodes s 6
  unfolding laid_nodes memory_size node_at
  nodes_all h d z = rw (drop_of_length-le d {i = 536 + 6 * node_size s} (omega arith), append-nil)

  -- ---- what comes back from the call that lays a stretch

  pub node-back : (h d m p : List ℕ) (i a n : ℕ) → a ≡ node_at s i → n ≡ node_size s → length h ≡ nodes_at → m ≡ laid_nodes s h d i → p ≡ fresh_node s
      → put_mid a (a + n - a) m p ≡ laid_nodes s h d (i + 1)
  node-back h d m p i a n e f l j q = back a (a + n) m (omega arith) q ∙ rw (e, f, j) (nodes_more h d i l)

  -- ---- words m that are cleared, in which the head p and then the table q are lent and come back laid
  module _ (m : List ℕ) (o : m ≡ replicate (memory_size s) 0) where
    pub head_next : part m 0 24 ≡ replicate 24 0
    unfolding memory_size
    head_next =
        let k : memory_size s ≡ 24 + (512 + 6 * node_size s) = omega arith in
        ap (take 24) (o ∙ ap (λ (x : ℕ). replicate {A = ℕ} x 0) k) ∙ take-zeroes 24 (512 + 6 * node_size s)

    module _ (p q t : List ℕ) (z : length t ≡ table_words) (e : p ≡ fresh_head s) (f : q ≡ t) where
      laid : put_mid 24 (536 - 24) (put_mid 0 (24 - 0) m p) q ≡ (fresh_head s ++ t) ++ drop 536 m
      laid =
          back 24 536 (put_mid 0 (24 - 0) m p) (omega arith) f
          ∙ ap (λ (l : List ℕ). splice l 24 536 t) (back 0 24 m (omega arith) e)
          ∙ grown m (fresh_head s) t 24 536 length_head (omega arith)

      length_top : length (fresh_head s ++ t) ≡ 536
      length_top = length-append (fresh_head s) t ∙ omega (arith, length_head)

      -- behind them the zeroes still stand
      pub nodes_start : drop nodes_at (put_mid 24 (536 - 24) (put_mid 0 (24 - 0) m p) q) ≡ replicate (6 * node_size s) 0
      unfolding memory_size
      nodes_start =
          ap (drop 536) laid
          ∙ drop_at (fresh_head s ++ t) (drop 536 m) 536 length_top
          ∙ ap (drop 536) o
          ∙ drop-zeroes 536 (6 * node_size s)

      pub memory-back : (n : List ℕ) → n ≡ take nodes_at (put_mid 24 (536 - 24) (put_mid 0 (24 - 0) m p) q) ++ fresh_nodes s 6 → n ≡ fresh_memory s t
      unfolding fresh_memory
      memory-back n g =
          g
          ∙ ap (λ (l : List ℕ). take 536 l ++ fresh_nodes s 6) laid
          ∙ ap (λ (l : List ℕ). l ++ fresh_nodes s 6) (take_at (fresh_head s ++ t) (drop 536 m) 536 length_top)
