-- What copying a letter from one node to another does to the memory. Assumes nothing.
--     copy_to, copy_other, copy_rows     the copy is made in the destination's stretch alone
--     copy_read     the letter in its chain there is the letter
--     lies_less, lies_chained     what a chain of the blocks needed gives to the functions on letters
use mathlib.Core.Path.{◌≡◌, sym, ap, ap₂, ◌∙◌}
use mathlib.Core.Logic.{⊎_elim}
use mathlib.Core.List.{List}
use Prim.Native.Nat.{ℕ, zero, suc, ◌+◌, ◌-◌, ◌*◌, ◌≤◌, ◌<◌}
use native.Mathlib.Nat.{div-lt_iff_lt-mul, le_trans}
use native.Mathlib.Omega.{arith}
use lib.ListN.{length}
use lib.Seq.{length-take-le}
use Rattle.words.specs.Words.{splice}
use Rattle.words.specs.Rows.{row}
use Rattle.words.proofs.Lists.{put, le_or_lt}
use Rattle.words.proofs.Parts.{length_part, part-splice, splice-splice, part_before, part-after, length-splice}
use Rattle.words.proofs.Rows.{start_lt, row-splice}
use Rattle.settings.specs.declared.Settings.{Settings}
use Rattle.layout.specs.Places.{node_size, node_at, node_end, node, with_node}
use Rattle.layout.specs.Rows.{memory_width}
use Rattle.layout.specs.Asked.{Stretch, Sized}
use Rattle.layout.proofs.MemoryRows.{stretch-fits, start-stretch, width-stretch}
use Rattle.blocks.specs.Chain.{needs, link, chain, text, Within, Chained}
use Rattle.letters.specs.Letter.{letter, written, copied}
use Rattle.letters.specs.Asked.{Lies}
use Rattle.letters.proofs.Rows.{chain-long, needs-enough, length-laid}
use Rattle.letters.proofs.Laws.{write_read}

-- ---- what a letter's functions ask
needs_less : (s : Settings) → 4 ≤ s.b → (k n : ℕ) → k ≤ n → needs s k ≤ needs s n
unfolding needs
needs_less s w k n h =
    let p : 0 < s.b - 1 = omega arith in
    let q : k + (s.b - 2) < (needs s n + 1) * (s.b - 1) =
    lt_le (k + (s.b - 2)) (n + (s.b - 2)) ((needs s n + 1) * (s.b - 1)) (omega arith) ((div-lt_iff_lt-mul {k = s.b - 1} p).0 (omega arith)) in
    let r : needs s k < needs s n + 1 = (div-lt_iff_lt-mul {k = s.b - 1} p).1 q in
    omega arith
  where
    lt_le : (x y z : ℕ) → x ≤ y → y < z → x < z
    lt_le x y z a b = omega arith

within-chain : (s : Settings) (stretch : List ℕ) (k n b : ℕ) → k ≤ n → Within s.m (chain s stretch n b) → Within s.m (chain s stretch k b)
unfolding chain Within
within-chain s stretch zero n b h w = tt
within-chain s stretch (suc k) zero b h w = absurd (omega arith)
within-chain s stretch (suc k) (suc n) b h w = (w.0, within-chain s stretch k n (link s stretch b) (omega arith) w.1)

-- fewer words lie there too: the header of a letter, and each of its words
pub lies_less : (s : Settings) (stretch : List ℕ) (k n b : ℕ) → k ≤ n → Lies s stretch n b → Lies s stretch k b
lies_less s stretch k n b h l =
    record {
      walks = record { stretch = l.walks.stretch; within = within-chain s stretch (needs s k) (needs s n) b (needs_less s l.walks.stretch.range.b.low k n h) l.walks.within };
      most = le_trans h l.most;
    }

pub lies_chained : (s : Settings) (stretch : List ℕ) (n b : ℕ) → Stretch s stretch → n ≤ 1024 → Chained s stretch (needs s n) b → Lies s stretch n b
lies_chained s stretch n b st m c = record { walks = record { stretch = st; within = c.within }; most = m }

pub length-letter : (s : Settings) (stretch : List ℕ) (n b : ℕ) → Lies s stretch n b → length (letter s stretch n b) ≡ n
unfolding letter
length-letter s stretch n b l =
    length-take-le n (text s stretch (chain s stretch (needs s n) b))
    (omega (arith, chain-long s stretch (needs s n) b l.walks, needs-enough s l.walks.stretch.range n))

-- ---- the nodes of a memory
module _ (s : Settings) (memory : List ℕ) (sz : Sized s memory) where
  pub inside : (k : ℕ) → k < 6 → node_end s k ≤ length memory
  inside k h = rw sz.long (stretch-fits s k h)

  pub node-long : (k : ℕ) → k < 6 → length (node s memory k) ≡ node_size s
  node-long k h = length_part memory (node_at s k) (node_end s k) (omega arith) (inside k h) ∙ omega arith

  pub node-stretch : (k : ℕ) → k < 6 → Stretch s (node s memory k)
  node-stretch k h = record { range = sz.range; long = node-long k h }

  pub before_node : (k j : ℕ) → k < j → node_end s k ≤ node_at s j
  before_node k j h = omega (arith, start_lt (memory_width s) (9 + k) (9 + j) (omega arith), start-stretch s k, start-stretch s j, width-stretch s k)

  -- a stretch put in the place of node j's
  module _ (j : ℕ) (j6 : j < 6) (u : List ℕ) (z : length u ≡ node_size s) where
    u_long : length u ≡ node_end s j - node_at s j
    u_long = z ∙ omega arith

    pub put-long : length (with_node s memory j u) ≡ length memory
    put-long = length-splice memory (node_at s j) (node_end s j) (omega arith) (inside j j6) u u_long

    pub put_to : node s (with_node s memory j u) j ≡ u
    put_to = part-splice memory (node_at s j) (node_end s j) (omega arith) (inside j j6) u u_long

    pub put_again : (v : List ℕ) → with_node s (with_node s memory j u) j v ≡ with_node s memory j v
    put_again = splice-splice memory (node_at s j) (node_end s j) (omega arith) (inside j j6) u u_long

    pub put-away : (k : ℕ) → (k ≡ j → ⊥) → node s (with_node s memory j u) k ≡ node s memory k
    put-away k ne =
        ⊎_elim
        (λ le. part_before memory (node_at s j) (node_end s j) (omega arith) (inside j j6) u u_long (node_at s k) (node_end s k) (omega arith) (before_node k j (omega arith)))
        (λ lt. part-after memory (node_at s j) (node_end s j) (omega arith) (inside j j6) u u_long (node_at s k) (node_end s k) (before_node j k lt))
        (le_or_lt k j)

  module _ (n i b j c : ℕ) (j6 : j < 6) where
    abbrev put_in : List ℕ
    put_in = written s (node s memory j) c (letter s (node s memory i) n b)

    in_long : length put_in ≡ node_size s
    in_long =
        length-laid s (needs s (length (letter s (node s memory i) n b))) (node s memory j) c (letter s (node s memory i) n b)
        ∙ node-long j j6

    -- the destination's stretch has the letter written
    pub copy_to : node s (copied s memory n i b j c) j ≡ written s (node s memory j) c (letter s (node s memory i) n b)
    unfolding copied
    copy_to = put_to j j6 put_in in_long

    -- the other nodes' stretches are as they were
    pub copy_other : (k : ℕ) → (k ≡ j → ⊥) → node s (copied s memory n i b j c) k ≡ node s memory k
    unfolding copied
    copy_other k ne = put-away j j6 put_in in_long k ne

    -- as rows of the memory
    pub copy_rows : row (memory_width s) (copied s memory n i b j c) ≡ put (row (memory_width s) memory) (9 + j) (written s (node s memory j) c (letter s (node s memory i) n b))
    unfolding copied
    copy_rows =
        ap₂ (λ (a w : ℕ). row (memory_width s) (splice memory a (a + w) put_in)) (sym (start-stretch s j)) (sym (width-stretch s j))
        ∙ row-splice (memory_width s) memory (9 + j) put_in (rw (start-stretch s j, width-stretch s j) (inside j j6)) (rw (width-stretch s j) in_long)

    -- THE COPY IS THE LETTER
    pub copy_read : Lies s (node s memory i) n b → Chained s (node s memory j) (needs s n) c → letter s (node s (copied s memory n i b j c) j) n c ≡ letter s (node s memory i) n b
    copy_read l ch =
        let ws : List ℕ = letter s (node s memory i) n b in
        let e : length ws ≡ n = length-letter s (node s memory i) n b l in
        let r : letter s (written s (node s memory j) c ws) (length ws) c ≡ ws =
        write_read s (node s memory j) (node-stretch j j6) c ws (rw e ch.within) (rw e ch.once) in
        ap (λ (m : List ℕ). letter s m n c) copy_to ∙ ap (λ (k : ℕ). letter s (written s (node s memory j) c ws) k c) (sym e) ∙ r
