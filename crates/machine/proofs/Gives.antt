-- What a memory that represents a machine gives to the functions on its stretches: what they ask for, by the names of their crates. Assumes nothing.
--     gives_stretch, gives_list, gives_free, gives_takes     a stretch, its free list, blocks that may be asked of it
--     gives_send, gives_ack, gives_task     the queues in words hold the letters' first blocks; gives_findable     a letter may be looked for
--     gives_row, gives_flagged     a task queue with its flag, in its row and in words
--     gives_chain, gives_chained, gives_lies, gives_letter, gives_told, gives_source     a letter in its chain
use mathlib.Core.Path.{◌≡◌, sym, ap, ◌∙◌, subst}
use mathlib.Core.List.{List, [], ◌∷◌}
use Prim.Native.Nat.{ℕ, zero, suc, ◌+◌, ◌-◌, ◌≤◌, ◌<◌}
use native.Mathlib.Nat.{zero-div, zero-mod}
use native.Mathlib.Omega.{arith}
use lib.ListN.{length, get_or, take}
use Rattle.words.specs.Count.{occurs, down_from}
use Rattle.words.proofs.Count.{down_range, down_once, count_most, sum_le}
use Rattle.words.proofs.Lists.{same?}
use Rattle.settings.specs.declared.Settings.{Settings}
use Rattle.settings.specs.Range.{InRange}
use Rattle.layout.specs.Places.{node, memory_size, send_at, ack_at, task_at, gap_word, block_at}
use Rattle.layout.specs.Numbers.{source_task_word}
use Rattle.layout.specs.Asked.{Stretch}
use Rattle.layout.proofs.NodeRows.{start-send, start_ack, start_task, width_task}
use Rattle.blocks.specs.Chain.{needs, chain, after, free, text, Chained}
use Rattle.blocks.specs.Asked.{FreeList, Takes}
use Rattle.blocks.proofs.Chains.{first_in}
use Rattle.blocks.proofs.Rows.{in_within, first_rows, free_is, chain_is, after_is, text_rows}
use Rattle.letters.specs.Letter.{word, told, letter}
use Rattle.letters.specs.Asked.{Lies}
use Rattle.letters.proofs.Laws.{word-letter}
use Rattle.letters.proofs.Copies.{node-stretch}
use Rattle.queues.specs.Queue.{send_kind, ack_kind, task_kind, item_at}
use Rattle.queues.specs.Items.{gap_flag}
use Rattle.queues.proofs.Items.{FirstLive}
use Rattle.queues.proofs.Ring.{Ring, ring_queue}
use Rattle.queues.proofs.InRow.{room-send, room_ack, room_task}
use Rattle.queues.proofs.Tasks.{TaskRing}
use Rattle.taking.specs.Find.{Findable}
use Rattle.machine.specs.Machine.{Letter, gap, first, firsts, Node, many}
use Rattle.machine.specs.Core.{rows_of, Held, Core}
use Rattle.machine.specs.Represents.{Right}
use Rattle.machine.proofs.Letters.{all_at, many_at, alive, first_in_lem, Among}
use Rattle.machine.proofs.Places.{seat-send, line-send, seat_ack, line_ack, seat_task, line_task, kind-send, kind_ack, kind_task, row_words, row_word}

firsts-most : (m : ℕ) (ls : List Letter) → Among m ls → (j : ℕ) → get_or (firsts ls) j 0 ≤ m
firsts-most m [] a j = omega arith
firsts-most m (L ∷ ls) a zero =
    same? (first L) 0
    (λ q e. omega arith)
    (λ q e. (down_range m (first L) (omega (arith, a (first L), first_in_lem L (alive L q)))).1)
firsts-most m (L ∷ ls) a (suc j) = firsts-most m ls (λ b. omega (arith, a b)) j

word-zero : (s : Settings) (l : List ℕ) (b : ℕ) → get_or l (block_at s b + 0) 0 ≡ word s l b 0
unfolding word after
word-zero s l b = rw (zero-div (s.b - 1), zero-mod (s.b - 1))

module _ (s : Settings) (memory : List ℕ) (size : length memory ≡ memory_size s) (N : ℕ → Node) (core : Core s (rows_of s memory) N) where
  abbrev r : InRange s
  r = core.range

  pub gives_stretch : (i : ℕ) → i < 6 → Stretch s (node s memory i)
  gives_stretch i h = node-stretch s memory (record { range = core.range; long = size }) i h

  pub gives_among : (i p : ℕ) → i < 6 → p < 78 → Among s.m ((N i).letters p)
  gives_among i p h g = λ b. omega (arith, core.once i b h, sum_le 78 (λ k. many b ((N i).letters k)) p g)

  -- ---- THE FREE LIST
  module _ (i : ℕ) (h : i < 6) where
    few : (x : ℕ) → occurs x (N i).free ≤ occurs x (down_from s.m)
    few x = omega (arith, core.once i x h)

    pub gives_list : free s (node s memory i) ≡ (N i).free
    gives_list =
        free_is s r (node s memory i) (N i).free (λ x o. (down_range s.m x (omega (arith, few x))).0) (count_most s.m (N i).free few) (core.free i h)

    pub gives_free : FreeList s (node s memory i)
    gives_free =
        record {
          within = rw gives_list (in_within s.m (N i).free (λ x o. down_range s.m x (omega (arith, few x))));
          once = rw gives_list (λ x. omega (arith, few x, down_once s.m x));
          ends = rw (gives_list, first_rows s r (node s memory i))
              (after_is s r (node s memory i) (first_in (rows_of s memory i)) (N i).free 0 (λ x o. (down_range s.m x (omega (arith, few x))).0) (core.free i h));
        }

    pub gives_takes : (n : ℕ) → 1 ≤ n → n ≤ s.m → Takes s (node s memory i) n
    gives_takes n a b = record { stretch = gives_stretch i h; free = gives_free; some = a; most = b }

  -- ---- QUEUES
  pub gives_send : (i k : ℕ) → i < 6 → k < 6 → Ring (send_kind s) (node s memory i) (send_at s k) (firsts ((N i).letters (1 + k)))
  gives_send i k h g =
      row_words s (node s memory i) (gives_stretch i h) (send_kind s) (1 + k) (omega arith) (room-send s r (1 + k) (omega arith) (omega arith)) (send_at s k) (start-send s k (omega arith)) (firsts ((N i).letters (1 + k)))
      (rw (kind-send s k g, seat-send i k g, line-send i k g) at (core.queues i (1 + k) h (omega arith) (omega arith)))

  -- acknowledge queue k on node i holds letters of node k
  pub gives_ack : (i k : ℕ) → i < 6 → k < 6 → Ring (ack_kind s) (node s memory i) (ack_at s k) (firsts ((N k).letters (7 + i)))
  gives_ack i k h g =
      row_words s (node s memory i) (gives_stretch i h) (ack_kind s) (7 + k) (omega arith) (room_ack s r (7 + k) (omega arith) (omega arith)) (ack_at s k) (start_ack s k (omega arith)) (firsts ((N k).letters (7 + i)))
      (rw (kind_ack s i h, seat_ack k i h, line_ack k i h) at (core.queues k (7 + i) g (omega arith) (omega arith)))

  module _ (i q : ℕ) (h : i < 6) (g : q < 64) where
    abbrev ls : List Letter
    ls = (N i).letters (13 + q)

    row_ring : Ring (task_kind s) (rows_of s memory i (13 + q)) 0 (firsts ls)
    row_ring = rw (kind_task s q g, seat_task i q g, line_task i q g) at (core.queues i (13 + q) h (omega arith) (omega arith))

    pub gives_task : Ring (task_kind s) (node s memory i) (task_at s q) (firsts ((N i).letters (13 + q)))
    gives_task =
        row_words s (node s memory i) (gives_stretch i h) (task_kind s) (13 + q) (omega arith) (room_task s r (13 + q) (omega arith) (omega arith)) (task_at s q) (start_task s q (omega arith)) (firsts ls) row_ring

    pub gives_findable : Findable s (node s memory i) (task_at s q)
    gives_findable =
        let t = gives_task in
        record {
          stretch = gives_stretch i h;
          queue = ring_queue (task_kind s) (node s memory i) (task_at s q) t;
          blocks = λ j a. most j (t.slots j (omega (arith, t.count, t.fits)));
        }
      where
        most : (j : ℕ) → item_at (task_kind s) (node s memory i) (task_at s q) j ≡ get_or (firsts ls) j 0 → item_at (task_kind s) (node s memory i) (task_at s q) j ≤ s.m
        most j e = rw e (firsts-most s.m ls (gives_among i (13 + q) h (omega arith)) j)

    -- with the flag right and the first letter live
    module _ (flag : get_or (rows_of s memory i (13 + q)) gap_word 0 ≡ gap_flag (firsts ((N i).letters (13 + q)))) (front : FirstLive (firsts ((N i).letters (13 + q)))) where
      pub gives_row : TaskRing s (rows_of s memory i (13 + q)) 0 (firsts ((N i).letters (13 + q)))
      gives_row = record { ring = row_ring; first = front; flag = flag }

      pub gives_flagged : TaskRing s (node s memory i) (task_at s q) (firsts ((N i).letters (13 + q)))
      gives_flagged =
          record {
            ring = gives_task;
            first = front;
            flag = sym (row_word s (node s memory i) (gives_stretch i h) (task_kind s) (13 + q) (omega arith) (room_task s r (13 + q) (omega arith) (omega arith)) (task_at s q) (start_task s q (omega arith)) 2
                (rw (width_task s (13 + q) (omega arith) (omega arith)) (omega arith)))
                ∙ flag;
          }

  -- ---- THE LETTER AT INDEX n OF PLACE p OF NODE i
  module _ (i p n : ℕ) (h : i < 6) (g : p < 78) (a : n < length ((N i).letters p)) where
    abbrev l : List ℕ
    l = node s memory i

    abbrev L : Letter
    L = get_or ((N i).letters p) n gap

    held : Held s (rows_of s memory i) L
    held = all_at (Held s (rows_of s memory i)) n ((N i).letters p) a (core.letters i p h g)

    chain-few : (x : ℕ) → occurs x L.chain ≤ occurs x (down_from s.m)
    chain-few x = omega (arith, gives_among i p h g x, many_at x n ((N i).letters p) a)

    in_chain : (x : ℕ) → 1 ≤ occurs x L.chain → (1 ≤ x) × (x ≤ s.m)
    in_chain x o = down_range s.m x (omega (arith, chain-few x))

    pub gives_chain : chain s (node s memory i) (length (get_or ((N i).letters p) n gap).chain) (first (get_or ((N i).letters p) n gap)) ≡ (get_or ((N i).letters p) n gap).chain
    gives_chain = chain_is s r l (first L) L.chain 0 (λ x o. (in_chain x o).0) held.leads

    pub gives_chained : Chained s (node s memory i) (length (get_or ((N i).letters p) n gap).chain) (first (get_or ((N i).letters p) n gap))
    gives_chained =
        record {
          within = rw gives_chain (in_within s.m L.chain in_chain);
          once = rw gives_chain (λ x. omega (arith, chain-few x, down_once s.m x));
          ends = after_is s r l (first L) L.chain 0 (λ x o. (in_chain x o).0) held.leads;
        }

    chain-needs : Chained s l (needs s (length L.words)) (first L)
    chain-needs = subst (λ (k : ℕ). Chained s l k (first L)) held.blocks gives_chained

    pub gives_letter : letter s (node s memory i) (length (get_or ((N i).letters p) n gap).words) (first (get_or ((N i).letters p) n gap)) ≡ (get_or ((N i).letters p) n gap).words
    unfolding letter
    gives_letter =
        ap (λ (k : ℕ). take (length L.words) (text s l (chain s l k (first L)))) (sym held.blocks)
        ∙ ap (λ (c : List ℕ). take (length L.words) (text s l c)) gives_chain
        ∙ ap (take (length L.words)) (text_rows s r l L.chain (λ x o. (in_chain x o).0))
        ∙ held.reads

    module _ (table : List ℕ) (ok : Right table i p (get_or ((N i).letters p) n gap).words) where
      pub gives_lies : Lies s (node s memory i) (length (get_or ((N i).letters p) n gap).words) (first (get_or ((N i).letters p) n gap))
      gives_lies = record { walks = record { stretch = gives_stretch i h; within = chain-needs.within }; most = ok.most }

      pub gives_word : (k : ℕ) → k < length (get_or ((N i).letters p) n gap).words → word s (node s memory i) (first (get_or ((N i).letters p) n gap)) k ≡ get_or (get_or ((N i).letters p) n gap).words k 0
      gives_word k b =
          word-letter s l (gives_stretch i h) (length L.words) (first L) k chain-needs.within b ∙ ap (λ (w : List ℕ). get_or w k 0) gives_letter

      pub gives_told : told s (node s memory i) (first (get_or ((N i).letters p) n gap)) ≡ length (get_or ((N i).letters p) n gap).words
      gives_told = gives_word 4 ok.least ∙ ok.told

      -- the word that finding a letter looks at
      pub gives_source : get_or (node s memory i) (block_at s (first (get_or ((N i).letters p) n gap)) + source_task_word) 0 ≡ get_or (get_or ((N i).letters p) n gap).words source_task_word 0
      gives_source = word-zero s l (first L) ∙ gives_word 0 (omega (arith, ok.least))
