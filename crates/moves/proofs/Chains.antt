-- The moves of blocks, each by `chain_change`: blocks taken for a letter, its words written, its chain given back. Assumes nothing.
--     take_keeps     the first blocks of the free list go on their way as a letter
--     write_keeps     the words of the letter on its way are written
--     give_keeps     the chain of the letter on its way goes before the free list
use mathlib.Core.Path.{◌≡◌, sym, ap, ◌∙◌, subst}
use mathlib.Core.List.{List, [], ◌∷◌, ◌++◌}
use Prim.Native.Nat.{ℕ, ◌+◌, ◌≤◌, ◌<◌}
use native.Mathlib.Omega.{arith}
use lib.ListN.{length, get_or, take}
use lib.Seq.{length-take-le}
use Rattle.words.specs.Count.{hit, occurs, down_from}
use Rattle.words.proofs.Count.{hit_self, occurs-append, down_range, down_once, sum_le}
use Rattle.words.proofs.Lists.{put}
use Rattle.settings.specs.declared.Settings.{Settings}
use Rattle.layout.proofs.NodeRows.{width_head, width-block}
use Rattle.blocks.specs.Chain.{needs, Once}
use Rattle.blocks.proofs.Chains.{Leads, text_in, first_in, leads_first, length-text}
use Rattle.blocks.proofs.Laws.{taken_rows, given_rows, taken_other, taken-length, taken-text, taken-chain, taken_free, taken-count, given_other, given-length, given-free}
use Rattle.letters.proofs.Texts.{fill, fill_other, fill_length, fill_leads, fill_read}
use Rattle.letters.proofs.Rows.{needs-enough}
use Rattle.machine.specs.Machine.{Letter, first, Node, All, many}
use Rattle.machine.specs.Core.{Held, Core}
use Rattle.moves.proofs.Made.{freed}
use Rattle.moves.proofs.Core.{free-most, block-long, chain_change}

module _ (s : Settings) (R : ℕ → ℕ → List ℕ) (N : ℕ → Node) (core : Core s R N) (i : ℕ) (h : i < 6) where
  head_long : length (R i 0) ≡ 2
  head_long = core.sizes i 0 h (omega arith) ∙ width_head s

  size : (b : ℕ) → 1 ≤ occurs b (down_from s.m) → length (R i (76 + b)) ≡ s.b
  size b o = block-long s R N core i b h o ∙ width-block s b (down_range s.m b o).0

  -- ---- TAKE: blocks for a letter of n words
  module _ (none : (N i).letters 77 ≡ []) (xs : List ℕ) (y : ℕ) (ys : List ℕ) (fr : (N i).free ≡ xs ++ y ∷ ys) (n : ℕ) (need : length (xs ++ y ∷ []) ≡ needs s n) where
    abbrev c : List ℕ
    c = xs ++ y ∷ []

    abbrev Q : ℕ → List ℕ
    Q = taken_rows s.b (R i) y

    -- its words are what stood in the blocks
    abbrev L : Letter
    L = record { chain = xs ++ y ∷ []; words = take n (text_in s.b (R i) (xs ++ y ∷ [])) }

    counts : (b : ℕ) → occurs b c + occurs b ys ≡ occurs b (N i).free
    counts b = taken-count s.b (R i) y xs ys b ∙ ap (occurs b) (sym fr)

    once : Once (xs ++ y ∷ ys)
    once = λ b. subst (λ (l : List ℕ). occurs b l ≤ 1) fr (omega (arith, free-most s R N core i b h, down_once s.m b))

    has_y : 1 ≤ occurs y (down_from s.m)
    has_y = omega (arith, counts y, free-most s R N core i y h, occurs-append y xs (y ∷ []), hit_self y)

    leads : Leads s.b (R i) (first_in (R i)) (xs ++ y ∷ ys) 0
    leads = subst (λ (l : List ℕ). Leads s.b (R i) (first_in (R i)) l 0) fr (core.free i h)

    size_c : (b : ℕ) → 1 ≤ occurs b c → length (R i (76 + b)) ≡ s.b
    size_c b o = size b (omega (arith, counts b, free-most s R N core i b h))

    words_long : length (take n (text_in s.b (R i) c)) ≡ n
    words_long =
        length-take-le n (text_in s.b (R i) c) (rw (length-text s.b (R i) c size_c, need) (needs-enough s core.range n))

    held : Held s Q L
    held =
        let w = core.range.b.low in
        let t : Leads s.b Q (first_in (R i)) c 0 = taken-chain s.b (R i) y xs ys (omega arith) (size y has_y) once leads in
        record {
          leads = rw (leads_first s.b Q (first_in (R i)) xs y [] 0 t) t;
          reads = rw (words_long, taken-text s.b (R i) y c);
          blocks = rw words_long need;
        }

    pub take_keeps : Core s (put R i (taken_rows s.b (R i) y)) (put N i (freed (N i) ys (record { chain = xs ++ y ∷ []; words = take n (text_in s.b (R i) (xs ++ y ∷ [])) } ∷ [])))
    take_keeps =
        let w = core.range.b.low in
        let v = down_range s.m y has_y in
        chain_change s R N core i h Q ys (L ∷ [])
        (taken-length s.b (R i) y)
        (λ r a b. taken_other s.b (R i) y r (λ e. omega arith) (λ e. omega arith))
        (λ b a z. taken_other s.b (R i) y (76 + b) (λ e. omega arith) (λ e.
        let q : b ≡ y = omega arith in
        let o : occurs y (N i).free + many y ((N i).letters 77) ≡ 0 = rw (← q) z in
        omega (arith, counts y, occurs-append y xs (y ∷ []), hit_self y)))
        (taken_free s.b (R i) y xs ys (omega arith) (size y has_y) once leads (omega (arith, head_long)))
        (held, tt)
        (λ b. omega (arith, counts b, ap (many b) none))

  -- ---- the letter on its way
  module _ (L : Letter) (one : (N i).letters 77 ≡ L ∷ []) where
    most : (b : ℕ) → occurs b L.chain + occurs b (N i).free ≤ occurs b (down_from s.m)
    most b = omega (arith, core.once i b h, ap (many b) one, sum_le 78 (λ k. many b ((N i).letters k)) 77 (omega arith))

    pub held_one : Held s (R i) L
    held_one = let a : All (Held s (R i)) (L ∷ []) = rw one at (core.letters i 77 h (omega arith)) in a.0

    pub in_chain : (b : ℕ) → 1 ≤ occurs b L.chain → (1 ≤ b) × (b ≤ s.m)
    in_chain b o = down_range s.m b (omega (arith, most b))

    -- ---- WRITE
    module _ (ws : List ℕ) (need : length L.chain ≡ needs s (length ws)) where
      abbrev W : ℕ → List ℕ
      W = fill s.b (R i) L.chain ws

      size_l : (b : ℕ) → 1 ≤ occurs b L.chain → length (R i (76 + b)) ≡ s.b
      size_l b o = size b (omega (arith, most b))

      pub write_keeps : Core s (put R i (fill s.b (R i) L.chain ws)) (put N i (freed (N i) (N i).free (record { chain = L.chain; words = ws } ∷ [])))
      write_keeps =
          let e : first_in W ≡ first_in (R i) = ap (λ (w : List ℕ). get_or w 0 0) (fill_other s.b (R i) L.chain ws 0 (λ b o z. omega arith)) in
          chain_change s R N core i h W (N i).free (record { chain = L.chain; words = ws } ∷ [])
          (fill_length s.b (R i) L.chain ws)
          (λ r a b. fill_other s.b (R i) L.chain ws r (λ x o z. omega (arith, in_chain x o)))
          (λ b a z. fill_other s.b (R i) L.chain ws (76 + b) (λ x o q.
          let k : b ≡ x = omega arith in
          let u : occurs x (N i).free + many x ((N i).letters 77) ≡ 0 = rw (← k) z in
          omega (arith, ap (many x) one)))
          (rw e (fill_leads s.b (R i) L.chain ws (first_in (R i)) (N i).free 0 (core.free i h))) (
            record {
              leads = fill_leads s.b (R i) L.chain ws (first L) L.chain 0 held_one.leads;
              reads = fill_read s.b (R i) L.chain ws (λ b. omega (arith, most b, down_once s.m b)) size_l (rw need (needs-enough s core.range (length ws)));
              blocks = need;
            },
            tt,
          )
          (λ b. omega (arith, ap (many b) one))

    -- ---- GIVE BACK
    module _ (xs : List ℕ) (y : ℕ) (ch : L.chain ≡ xs ++ y ∷ []) where
      abbrev G : ℕ → List ℕ
      G = given_rows s.b (R i) (first L) y

      count_y : (b : ℕ) → occurs b L.chain ≡ occurs b xs + hit b y
      count_y b = ap (occurs b) ch ∙ omega (arith, occurs-append b xs (y ∷ []))

      y_in : 1 ≤ occurs y (down_from s.m)
      y_in = omega (arith, most y, count_y y, hit_self y)

      once_all : Once ((xs ++ y ∷ []) ++ (N i).free)
      once_all = λ b. subst (λ (l : List ℕ). occurs b (l ++ (N i).free) ≤ 1) ch (omega (arith, occurs-append b L.chain (N i).free, most b, down_once s.m b))

      back : Leads s.b G (first_in G) (L.chain ++ (N i).free) 0
      back =
          let w = core.range.b.low in
          subst (λ (l : List ℕ). Leads s.b G (first_in G) (l ++ (N i).free) 0) (sym ch)
          (given-free s.b (R i) (first L) y xs (N i).free (omega arith) (omega (arith, head_long)) (size y y_in) once_all
          (subst (λ (l : List ℕ). Leads s.b (R i) (first L) l 0) ch held_one.leads) (core.free i h))

      pub give_keeps : Core s (put R i (given_rows s.b (R i) (first L) y)) (put N i (freed (N i) (L.chain ++ (N i).free) []))
      give_keeps =
          let v = down_range s.m y y_in in
          chain_change s R N core i h G (L.chain ++ (N i).free) []
          (given-length s.b (R i) (first L) y)
          (λ r a b. given_other s.b (R i) (first L) y r (λ e. omega arith) (λ e. omega arith))
          (λ b a z. given_other s.b (R i) (first L) y (76 + b) (λ e. omega arith) (λ e.
          let q : b ≡ y = omega arith in
          let u : occurs y (N i).free + many y ((N i).letters 77) ≡ 0 = rw (← q) z in
          omega (arith, ap (many y) one, count_y y, hit_self y)))
          back tt
          (λ b. omega (arith, occurs-append b L.chain (N i).free, ap (many b) one))
