-- A MEMORY FRESH FROM SET UP IS SOUND: it represents the fresh machine. Assumes nothing.
use mathlib.Core.Path.{◌≡◌, refl, sym, ap, ◌∙◌, subst}
use mathlib.Core.Bool.{true}
use mathlib.Core.List.{List, [], ◌∷◌, ◌++◌, append_assoc}
use mathlib.Core.Logic.{⊎_elim}
use Prim.Native.Nat.{ℕ, zero, suc, ◌+◌, ◌-◌, ◌*◌, ◌%◌, ◌≤◌, ◌<◌}
use native.Mathlib.Nat.{suc-mul, zero-mul, mul-le-mul_right}
use native.Mathlib.Numerals.{add-one}
use native.Mathlib.Omega.{arith}
use lib.ListN.{length, get_or, take, drop, replicate, length-append, length-replicate, length-drop, get_or-append, get_or-eq_default}
use lib.Seq.{get_or-append-add, drop-append-add, drop-append-le, take-append-le, take_all, take_at, drop_at}
use borrow.Author.Tests.{lt-ltb, le-ltb}
use Rattle.words.specs.Rows as word_rows
use Rattle.words.specs.Count.{occurs, down_from}
use Rattle.words.proofs.Count.{occurs-append}
use Rattle.words.proofs.Lists.{same?, le_or_lt}
use Rattle.words.proofs.Rows.{start_lt, place_in, length-row, get_or-row}
use Rattle.settings.specs.declared.Settings.{Settings}
use Rattle.settings.specs.Range.{in_range, InRange}
use Rattle.settings.proofs.Laws.{range-true}
use Rattle.layout.specs.Places.{table_words, blocks_at, block_at, node_size, node_at, memory_size, node}
use Rattle.layout.specs.Rows.{width}
use Rattle.layout.proofs.NodeRows.{width_head, start-block, row_fits}
use Rattle.tasks.specs.Table.{right_table}
use Rattle.tasks.proofs.Laws.{right_length_lem}
use Rattle.blocks.specs.Chain.{link}
use Rattle.blocks.proofs.Chains.{Leads, link_in, first_in, leads-append}
use Rattle.blocks.proofs.Rows.{rows, link_rows, first_rows}
use Rattle.queues.specs.declared.Kind.{Kind}
use Rattle.queues.specs.Queue.{send_kind, ack_kind, task_kind}
use Rattle.queues.specs.Items.{gap_flag}
use Rattle.queues.proofs.Ring.{Ring}
use Rattle.queues.proofs.InRow.{Room, room-send, room_ack, room_task}
use Rattle.sound.specs.Reading.{settings_in, table_in}
use Rattle.sound.specs.Sound.{sound}
use Rattle.setup.specs.Fresh.{next_free, fresh_block, fresh_blocks, fresh_front, fresh_node, fresh_nodes, fresh_head, fresh_memory}
use Rattle.setup.proofs.Laws.{length-blocks, length_front, length-node, length-nodes, length_head}
use Rattle.machine.specs.Core.{rows_of, seat, line, kind, Core}
use Rattle.machine.specs.Represents.{WellFormed, Shows, RepresentsAt}
use Rattle.machine.specs.Fresh.{up_to, fresh_machine}
use Rattle.machine.proofs.Places.{at_place, seat-send, line-send, seat_ack, line_ack, seat_task, line_task, kind-send, kind_ack, kind_task}
use Rattle.machine.proofs.Counts.{sum_none}
use Rattle.machine.proofs.Back.{represents_sound_at}

zeroes : (n k : ℕ) → get_or {A = ℕ} (replicate n 0) k 0 ≡ 0
zeroes zero k = refl
zeroes (suc n) zero = refl
zeroes (suc n) (suc k) = zeroes n k

pub occurs_up : (n x : ℕ) → occurs x (up_to n) ≡ occurs x (down_from n)
unfolding up_to
occurs_up zero x = refl
occurs_up (suc n) x = occurs-append x (up_to n) (suc n ∷ []) ∙ omega (arith, occurs_up n x)

-- words that are 0 are a queue with no items
zero_ring : (k : Kind) (l : List ℕ) → Room k (length l) → ((x : ℕ) → get_or l x 0 ≡ 0) → Ring k l 0 []
zero_ring k l r z =
    record {
      placed = record { lies = omega (arith, r.room); some = r.some; small = r.small; low = r.low; high = r.high };
      begins = rw (z 0) (omega (arith, r.some));
      count = z (0 + 1);
      fits = omega arith;
      slots = λ i h. z (0 + (k.head + (get_or l 0 0 + i) % k.slots));
    }

module _ (s : Settings) (r : InRange s) where
  -- ---- a fresh node
  fresh_first : get_or (fresh_node s) 0 0 ≡ 1
  unfolding fresh_node fresh_front
  fresh_first = refl

  fresh-zero : (k : ℕ) → 1 ≤ k → k < blocks_at s → get_or (fresh_node s) k 0 ≡ 0
  unfolding fresh_node fresh_front
  fresh-zero zero h g = absurd (omega arith)
  fresh-zero (suc k) h g =
      get_or-append (replicate (blocks_at s - 1) 0) (fresh_blocks s s.m) 0 k (rw (length-replicate {A = ℕ} (blocks_at s - 1) 0) (omega arith))
      ∙ zeroes (blocks_at s - 1) k

  block_last : (b : ℕ) → get_or (fresh_block s b) (s.b - 1) 0 ≡ next_free s b
  unfolding fresh_block
  block_last b =
      let e : s.b - 1 ≡ length {A = ℕ} (replicate (s.b - 1) 0) + 0 = omega (arith, length-replicate {A = ℕ} (s.b - 1) 0) in
      ap (λ (k : ℕ). get_or (replicate (s.b - 1) 0 ++ (next_free s b ∷ [])) k 0) e ∙ get_or-append-add (replicate (s.b - 1) 0) (next_free s b ∷ []) 0 0

  blocks-link : (k b : ℕ) → b < k → get_or (fresh_blocks s k) (b * s.b + (s.b - 1)) 0 ≡ next_free s (suc b)
  unfolding fresh_blocks
  blocks-link zero b h = absurd (omega arith)
  blocks-link (suc k) b h =
      let w = r.b.low in
      let z = length-blocks s r k in
      same? b k
      (λ q e.
      let d : b * s.b + (s.b - 1) ≡ length (fresh_blocks s k) + (s.b - 1) = rw (q, z) in
      rw d (get_or-append-add (fresh_blocks s k) (fresh_block s (suc k)) (s.b - 1) 0 ∙ block_last (suc k) ∙ ap (λ (j : ℕ). next_free s (suc j)) (sym q)))
      (λ q e.
      get_or-append (fresh_blocks s k) (fresh_block s (suc k)) 0 (b * s.b + (s.b - 1))
      (omega (arith, suc-mul b s.b, mul-le-mul_right s.b (suc_le b k q h)))
      ∙ blocks-link k b (omega arith))
    where
      suc_le : (b k : ℕ) → (b ≡ k → ⊥) → b < suc k → suc b ≤ k
      suc_le b k q h = omega arith

  fresh-link : (b : ℕ) → 1 ≤ b → b ≤ s.m → link s (fresh_node s) b ≡ next_free s b
  unfolding fresh_node block_at
  fresh-link b h g =
      let e : blocks_at s + (b - 1) * s.b + (s.b - 1) ≡ length (fresh_front s) + ((b - 1) * s.b + (s.b - 1)) = omega (arith, length_front s r) in
      let d : suc (b - 1) ≡ b = omega arith in
      ap (λ (k : ℕ). get_or (fresh_front s ++ fresh_blocks s s.m) k 0) e
      ∙ get_or-append-add (fresh_front s) (fresh_blocks s s.m) ((b - 1) * s.b + (s.b - 1)) 0
      ∙ blocks-link s.m (b - 1) (omega arith)
      ∙ ap (next_free s) d

  abbrev R : ℕ → List ℕ
  R = rows s (fresh_node s)

  link_next : (b : ℕ) → 1 ≤ b → b ≤ s.m → link_in s.b R b ≡ next_free s b
  link_next b h g = sym (link_rows s r (fresh_node s) b h) ∙ fresh-link b h g

  free_to : (k : ℕ) → k < s.m → Leads s.b R 1 (up_to k) (suc k)
  unfolding up_to next_free
  free_to zero h = refl
  free_to (suc k) h =
      leads-append s.b R 1 (up_to k) (suc k) (suc k ∷ []) (suc (suc k)) (free_to k (omega arith))
      (refl, link_next (suc k) (omega arith) (omega arith) ∙ rw (lt-ltb (suc k) s.m h) (add-one (suc k)))

  free_all : Leads s.b R (first_in R) (up_to s.m) 0
  unfolding up_to next_free
  free_all =
      let w = r.m.low in
      let k : ℕ = s.m - 1 in
      let e : suc k ≡ s.m = omega arith in
      let f : first_in R ≡ 1 = sym (first_rows s r (fresh_node s)) ∙ fresh_first in
      rw f
      (subst (λ (n : ℕ). Leads s.b R 1 (up_to n) 0) e
      (leads-append s.b R 1 (up_to k) (suc k) (suc k ∷ []) 0 (free_to k (omega arith))
      (refl, link_next (suc k) (omega arith) (omega arith) ∙ rw (le-ltb (suc k) s.m (omega arith)))))

  -- the rows of its queues are 0
  row-long : (q : ℕ) → q < 77 + s.m → length (R q) ≡ width s q
  row-long q h = length-row (width s) (fresh_node s) q (rw (length-node s r) (row_fits s q h))

  first_block : block_at s 1 ≡ blocks_at s
  unfolding block_at
  first_block = omega (arith, zero-mul s.b)

  ends : word_rows.start (width s) 77 ≡ blocks_at s
  ends = start-block s 1 (omega arith) ∙ first_block

  row_zero : (q : ℕ) → 1 ≤ q → q < 77 → (x : ℕ) → get_or (R q) x 0 ≡ 0
  row_zero q h g x =
      ⊎_elim
      (λ a. get_or-eq_default (R q) 0 {n = x} (rw (row-long q (omega arith)) a))
      (λ a.
      get_or-row (width s) (fresh_node s) q x a
      ∙ fresh-zero (word_rows.start (width s) q + x) (omega (arith, start_lt (width s) 0 q (omega arith), width_head s))
      (rw (← ends) (place_in (width s) 77 q x g a)))
      (le_or_lt (width s q) x)

  module _ (table : List ℕ) (t : length table ≡ table_words) where
    abbrev m : List ℕ
    m = fresh_memory s table

    abbrev h : List ℕ
    h = fresh_head s ++ table

    long_h : length h ≡ 536
    long_h = length-append (fresh_head s) table ∙ omega (arith, length_head s r)

    pub fresh-size : length (fresh_memory s table) ≡ memory_size s
    unfolding fresh_memory memory_size
    fresh-size = length-append h (fresh_nodes s 6) ∙ omega (arith, long_h, length-nodes s r 6)

    pub fresh-settings : settings_in (fresh_memory s table) ≡ s
    unfolding fresh_memory fresh_head
    fresh-settings = refl

    pub fresh-table : table_in (fresh_memory s table) ≡ table
    unfolding fresh_memory
    fresh-table =
        rw (append_assoc (fresh_head s) table (fresh_nodes s 6), drop_at (fresh_head s) (table ++ fresh_nodes s 6) 24 (length_head s r))
        (take_at table (fresh_nodes s 6) 512 t)

    -- the words between the settings and the table
    head_zero : (k : ℕ) → 5 ≤ k → k < 24 → get_or (fresh_memory s table) k 0 ≡ 0
    unfolding fresh_memory fresh_head
    head_zero k lo hi =
        let five : List ℕ = s.b ∷ s.m ∷ s.s ∷ s.a ∷ s.t ∷ [] in
        let e : k ≡ 5 + (k - 5) = omega arith in
        get_or-append h (fresh_nodes s 6) 0 k (rw long_h (omega arith))
        ∙ get_or-append (fresh_head s) table 0 k (rw (length_head s r) hi)
        ∙ ap (λ (j : ℕ). get_or (five ++ replicate 19 0) j 0) e
        ∙ get_or-append-add five (replicate 19 0) (k - 5) 0
        ∙ zeroes 19 (k - 5)

    nodes_at_lem : (n i : ℕ) → i < n → take (node_size s) (drop (i * node_size s) (fresh_nodes s n)) ≡ fresh_node s
    unfolding fresh_nodes
    nodes_at_lem zero i g = absurd (omega arith)
    nodes_at_lem (suc n) i g =
        let z = length-nodes s r n in
        same? i n
        (λ q e. rw (q, drop_at (fresh_nodes s n) (fresh_node s) (n * node_size s) z) (take_all (node_size s) (fresh_node s) (omega (arith, length-node s r))))
        (λ q e.
        let w : suc i * node_size s ≤ n * node_size s = mul-le-mul_right (node_size s) (suc_le i n q g) in
        let u = suc-mul i (node_size s) in
        rw (drop-append-le (i * node_size s) (fresh_nodes s n) (fresh_node s) (omega arith))
        (take-append-le (node_size s) (drop (i * node_size s) (fresh_nodes s n)) (fresh_node s) (rw (length-drop (i * node_size s) (fresh_nodes s n)) (omega arith))
        ∙ nodes_at_lem n i (omega arith)))
      where
        suc_le : (b k : ℕ) → (b ≡ k → ⊥) → b < suc k → suc b ≤ k
        suc_le b k q h = omega arith

    pub fresh-node : (i : ℕ) → i < 6 → node s (fresh_memory s table) i ≡ fresh_node s
    unfolding fresh_memory node_at
    fresh-node i g =
        let e : 536 + i * node_size s ≡ length h + i * node_size s = omega (arith, long_h) in
        let d : 536 + i * node_size s + node_size s - (536 + i * node_size s) ≡ node_size s = omega arith in
        rw d (ap (λ (k : ℕ). take (node_size s) (drop k (h ++ fresh_nodes s 6))) e ∙ ap (take (node_size s)) (drop-append-add h (fresh_nodes s 6) (i * node_size s)) ∙ nodes_at_lem 6 i g)

    rows_fresh : (i : ℕ) → i < 6 → rows_of s (fresh_memory s table) i ≡ R
    rows_fresh i g = ap (rows s) (fresh-node i g)

    fresh-room : (k : Kind) (q : ℕ) → q < 77 → Room k (width s q) → Room k (length (R q))
    fresh-room k q g x = rw (row-long q (omega arith)) x

    ring_fresh : (k : Kind) (i q : ℕ) → i < 6 → 1 ≤ q → q < 77 → Room k (width s q) → Ring k (rows_of s (fresh_memory s table) i q) 0 []
    ring_fresh k i q g a b x = rw (fresh-node i g) (zero_ring k (R q) (fresh-room k q b x) (row_zero q a b))

    core-fresh : Core s (rows_of s (fresh_memory s table)) (fresh_machine s).node
    core-fresh =
        record {
          range = r;
          sizes = λ i q g k. rw (fresh-node i g) (row-long q k);
          free = λ i g. rw (fresh-node i g) free_all;
          queues = λ i p g a b.
              at_place (λ (p : ℕ). Ring (kind s p) (rows_of s (fresh_memory s table) (seat i p) (line i p)) 0 [])
              (λ k u. rw (kind-send s k u, seat-send i k u, line-send i k u) (ring_fresh (send_kind s) i (1 + k) g (omega arith) (omega arith) (room-send s r (1 + k) (omega arith) (omega arith))))
              (λ k u. rw (kind_ack s k u, seat_ack i k u, line_ack i k u) (ring_fresh (ack_kind s) k (7 + i) u (omega arith) (omega arith) (room_ack s r (7 + i) (omega arith) (omega arith))))
              (λ q u. rw (kind_task s q u, seat_task i q u, line_task i q u) (ring_fresh (task_kind s) i (13 + q) g (omega arith) (omega arith) (room_task s r (13 + q) (omega arith) (omega arith))))
              p a b;
          letters = λ i p g k. tt;
          once = λ i b g. omega (arith, occurs_up s.m b, sum_none 78 (λ p. zero) (λ p k. refl));
        }

    shows-fresh : Shows s (fresh_memory s table) (fresh_machine s)
    unfolding gap_flag
    shows-fresh =
        record {
          turn = head_zero 5 (omega arith) (omega arith);
          stage = λ j g. head_zero (6 + j * 3) (omega arith) (omega arith);
          other = λ j g. head_zero (6 + j * 3 + 1) (omega arith) (omega arith);
          hand = λ j g. head_zero (6 + j * 3 + 2) (omega arith) (omega arith);
          flags = λ i q g k. rw (fresh-node i g) (row_zero (13 + q) (omega arith) (omega arith) 2);
        }

    formed-fresh : WellFormed (table_in (fresh_memory s table)) (fresh_machine s)
    formed-fresh =
        record {
          turn = omega arith;
          order = record {
            still = λ i g. refl;
            live = λ i p g k. tt;
            fronts = λ i q g k a e. omega arith;
            itself = λ i g. refl;
            itself_ack = λ i g. refl;
            unbound = λ i q g k z. refl;
            letters = λ i p g k. tt;
          };
          positions = λ j g. record {
            none = λ z. refl;
            most = omega arith;
            names = λ z. absurd (omega arith);
            another = λ z. absurd (omega arith);
            waits = λ z. absurd (omega arith);
            hand = λ z. refl;
            copy = λ z. absurd (omega arith);
          };
        }

    pub fresh_represents : right_table table ≡ true → RepresentsAt s (fresh_memory s table) (fresh_machine s)
    fresh_represents e =
        record {
          size = fresh-size;
          table = rw fresh-table e;
          core = core-fresh;
          shows = shows-fresh;
          formed = formed-fresh;
        }

pub fresh-sound : (s : Settings) (table : List ℕ) → in_range s ≡ true → right_table table ≡ true → sound (fresh_memory s table) ≡ true
fresh-sound s table a b =
    let r = range-true s a in
    let t = right_length_lem table b in
    represents_sound_at s (fresh_memory s table) (fresh_machine s) (fresh-settings s r table t) (fresh_represents s r table t b)
