-- What a sound memory gives: its parts and sizes, its queues, its free lists, its letters. Assumes nothing.
use mathlib.Core.Path.{◌≡◌, sym, ◌∙◌}
use mathlib.Core.Bool.{true, ◌&&◌, false≢true}
use mathlib.Core.List.{List, [], ◌∷◌}
use mathlib.Core.Logic.{⊎_elim}
use Prim.Native.Nat.{ℕ, suc, ◌+◌, ◌-◌, ◌≤◌, ◌<◌}
use native.Mathlib.Omega.{arith}
use lib.Dec.{eqb, leb}
use lib.ListN.{length, get_or}
use borrow.Author.Tests.{eqb-true, eq-eqb, ne_eqb, leb-true}
use Rattle.words.specs.Words.{every, all}
use Rattle.words.specs.Count.{occurs}
use Rattle.words.proofs.Lists.{le_or_lt, and-true, every_at, all_head}
use Rattle.words.proofs.Parts.{length_part}
use Rattle.words.proofs.Count.{occurs-append}
use Rattle.settings.specs.declared.Settings.{Settings}
use Rattle.settings.specs.Range.{in_range, InRange}
use Rattle.settings.proofs.Laws.{range-true}
use Rattle.layout.specs.Places.{nodes, task_queues, first_free_at, send_at, ack_at, task_at, gap_word, node_size, node_at, memory_size, node}
use Rattle.layout.specs.Asked.{Stretch, Sized}
use Rattle.layout.proofs.MemoryRows.{stretch-fits}
use Rattle.tasks.specs.Table.{right_table}
use Rattle.blocks.specs.Chain.{after, free, Within}
use Rattle.blocks.specs.Asked.{FreeList}
use Rattle.blocks.proofs.Rows.{within_in}
use Rattle.queues.specs.Queue.{send_kind, ack_kind, task_kind, items, item_at, Queue}
use Rattle.queues.specs.Items.{gap_flag}
use Rattle.queues.specs.Tasks.{TaskQueue}
use Rattle.queues.proofs.Placing.{placed-send, placed_ack, placed_task}
use Rattle.queues.proofs.Views.{length-contents, contents_item}
use Rattle.sound.specs.Reading.{settings_in, turn_in, table_in, send_items, task_items}
use Rattle.sound.specs.Queues.{in_shape, none_to_itself, none_unbound, first_live, right_send, right_ack, right_task, right_queues}
use Rattle.sound.specs.Letters.{chain_from, ends_well}
use Rattle.sound.specs.Positions.{right_position}
use Rattle.sound.specs.Blocks.{standing, visits, each_once, right_letters}
use Rattle.sound.specs.Sound.{right_size, sound}
use Rattle.sound.proofs.Shapes.{shape_queue}

-- each number passes the test of a block, so each is one
pub all-within : (m : ℕ) (l : List ℕ) → all (λ x. leb 1 x && leb x m) l ≡ true → Within m l
unfolding Within
all-within m [] e = tt
all-within m (x ∷ l) e =
    let h = all_head (λ x. leb 1 x && leb x m) x l e in
    let k = and-true (leb 1 x) (leb x m) h.0 in
    ((leb-true 1 x k.0, leb-true x m k.1), all-within m l h.1)

module _ (memory : List ℕ) (e : sound memory ≡ true) where
  abbrev s : Settings
  s = settings_in memory

  -- ---- the six rules, apart
  rule₁ : right_size memory ≡ true
  unfolding sound
  rule₁ = (and-true (right_size memory) _ e).0

  rest₁ : right_table (table_in memory) && (every nodes (right_queues s memory) && (every nodes (right_position s memory) && (every nodes (each_once s memory) && every nodes (right_letters s memory)))) ≡ true
  unfolding sound
  rest₁ = (and-true (right_size memory) _ e).1

  pub gives_table : right_table (table_in memory) ≡ true
  gives_table = (and-true (right_table (table_in memory)) _ rest₁).0

  rest₂ : every nodes (right_queues s memory) && (every nodes (right_position s memory) && (every nodes (each_once s memory) && every nodes (right_letters s memory))) ≡ true
  rest₂ = (and-true (right_table (table_in memory)) _ rest₁).1

  pub gives_queues : (i : ℕ) → i < 6 → right_queues s memory i ≡ true
  gives_queues = every_at (right_queues s memory) 6 (and-true (every nodes (right_queues s memory)) _ rest₂).0

  rest₃ : every nodes (right_position s memory) && (every nodes (each_once s memory) && every nodes (right_letters s memory)) ≡ true
  rest₃ = (and-true (every nodes (right_queues s memory)) _ rest₂).1

  pub gives_position : (i : ℕ) → i < 6 → right_position s memory i ≡ true
  gives_position = every_at (right_position s memory) 6 (and-true (every nodes (right_position s memory)) _ rest₃).0

  rest₄ : every nodes (each_once s memory) && every nodes (right_letters s memory) ≡ true
  rest₄ = (and-true (every nodes (right_position s memory)) _ rest₃).1

  pub gives_once : (i : ℕ) → i < 6 → each_once s memory i ≡ true
  gives_once = every_at (each_once s memory) 6 (and-true (every nodes (each_once s memory)) _ rest₄).0

  pub gives_letters : (i : ℕ) → i < 6 → right_letters s memory i ≡ true
  gives_letters = every_at (right_letters s memory) 6 (and-true (every nodes (each_once s memory)) _ rest₄).1

  -- ---- sizes
  pub gives_range : InRange s
  unfolding right_size
  gives_range = range-true s (and-true (in_range s) _ rule₁).0

  sized : eqb (length memory) (memory_size s) && leb (turn_in memory) 5 ≡ true
  unfolding right_size
  sized = (and-true (in_range s) _ rule₁).1

  pub gives_sized : Sized s memory
  gives_sized = record { range = gives_range; long = eqb-true (length memory) (memory_size s) (and-true (eqb (length memory) (memory_size s)) (leb (turn_in memory) 5) sized).0 }

  pub gives_turn : turn_in memory ≤ 5
  gives_turn = leb-true (turn_in memory) 5 (and-true (eqb (length memory) (memory_size s)) (leb (turn_in memory) 5) sized).1

  pub gives_stretch : (i : ℕ) → i < 6 → Stretch s (node s memory i)
  gives_stretch i h =
      record {
        range = gives_range;
        long = length_part memory (node_at s i) (node_at s i + node_size s) (omega arith) (omega (arith, stretch-fits s i h, gives_sized.long)) ∙ omega arith;
      }

  -- ---- queues
  module _ (i : ℕ) (h : i < 6) where
    abbrev w : List ℕ
    w = node s memory i

    three : (every nodes (right_send s memory i) ≡ true) × ((every nodes (right_ack s memory i) ≡ true) × (every task_queues (right_task s memory i) ≡ true))
    unfolding right_queues
    three =
        let a = and-true (every nodes (right_send s memory i)) _ (gives_queues i h) in
        (a.0, and-true (every nodes (right_ack s memory i)) (every task_queues (right_task s memory i)) a.1)

    pub gives_send : (k : ℕ) → k < 6 → Queue (send_kind s) w (send_at s k)
    unfolding right_send
    gives_send k g =
        shape_queue (send_kind s) w (send_at s k) (placed-send s w (gives_stretch i h) k g)
        (and-true (in_shape (send_kind s) w (send_at s k)) _ (every_at (right_send s memory i) 6 three.0 k g)).0

    pub gives_ack : (k : ℕ) → k < 6 → Queue (ack_kind s) w (ack_at s k)
    unfolding right_ack
    gives_ack k g =
        shape_queue (ack_kind s) w (ack_at s k) (placed_ack s w (gives_stretch i h) k g)
        (and-true (in_shape (ack_kind s) w (ack_at s k)) _ (every_at (right_ack s memory i) 6 three.1.0 k g)).0

    -- the items of a send queue are blocks
    pub gives_send-items : (k : ℕ) → k < 6 → all (λ b. leb 1 b && leb b s.m) (send_items s memory i k) ≡ true
    unfolding right_send
    gives_send-items k g =
        let a = and-true (in_shape (send_kind s) w (send_at s k)) _ (every_at (right_send s memory i) 6 three.0 k g) in
        (and-true (none_to_itself s memory i k (send_items s memory i k)) _ a.1).1

    module _ (q : ℕ) (g : q < 64) where
      abbrev xs : List ℕ
      xs = task_items s memory i q

      task₁ : (in_shape (task_kind s) w (task_at s q) ≡ true)
          × (none_unbound s memory i q xs && (all (λ b. leb b s.m) xs && (first_live s memory i xs && eqb (get_or w (task_at s q + gap_word) 0) (gap_flag xs))) ≡ true)
      unfolding right_task
      task₁ = and-true (in_shape (task_kind s) w (task_at s q)) _ (every_at (right_task s memory i) 64 three.1.1 q g)

      task₂ : (all (λ b. leb b s.m) xs ≡ true) × (first_live s memory i xs && eqb (get_or w (task_at s q + gap_word) 0) (gap_flag xs) ≡ true)
      task₂ = and-true (all (λ b. leb b s.m) xs) _ (and-true (none_unbound s memory i q xs) _ task₁.1).1

      -- the items of a task queue are 0 to M
      pub gives_task_items : all (λ b. leb b s.m) xs ≡ true
      gives_task_items = task₂.0

      task_queue : Queue (task_kind s) w (task_at s q)
      task_queue = shape_queue (task_kind s) w (task_at s q) (placed_task s w (gives_stretch i h) q g) task₁.0

      pub gives_task : TaskQueue s w (task_at s q)
      gives_task =
          let a = and-true (first_live s memory i xs) (eqb (get_or w (task_at s q + gap_word) 0) (gap_flag xs)) task₂.1 in
          record {
            queue = task_queue;
            first = λ n z. first n z a.0;
            flag = eqb-true (get_or w (task_at s q + gap_word) 0) (gap_flag xs) a.1;
          }
        where
          first : 0 < items (task_kind s) w (task_at s q) → item_at (task_kind s) w (task_at s q) 0 ≡ 0 → first_live s memory i xs ≡ true → ⊥
          first n z t =
              let l : length xs ≡ items (task_kind s) w (task_at s q) = length-contents (task_kind s) w (task_at s q) task_queue in
              let y : get_or xs 0 0 ≡ 0 = sym (contents_item (task_kind s) w (task_at s q) task_queue 0 (omega (arith, task_queue.count))) ∙ z in
              false≢true (rw (ne_eqb (length xs) 0 (λ u. omega arith), eq-eqb (get_or xs 0 0) 0 y) at t)

    -- ---- the free list
    free_well : ends_well s w (get_or w first_free_at 0) ≡ true
    unfolding each_once
    free_well = (and-true (ends_well s w (get_or w first_free_at 0)) _ (gives_once i h)).0

    -- each block is visited once
    pub gives_visits : (b : ℕ) → b < s.m → occurs (suc b) (visits s memory i) ≡ 1
    unfolding each_once
    gives_visits b l =
        eqb-true (occurs (suc b) (visits s memory i)) 1
        (every_at (λ b. eqb (occurs (suc b) (visits s memory i)) 1) s.m (and-true (ends_well s w (get_or w first_free_at 0)) _ (gives_once i h)).1 b l)

    free-once : Within s.m (free s w) → (b : ℕ) → occurs b (free s w) ≤ 1
    unfolding visits
    free-once a b =
        ⊎_elim (λ l. l)
        (λ l.
        let r = within_in s.m (free s w) b a (omega arith) in
        let d : suc (b - 1) ≡ b = omega arith in
        let v : occurs b (visits s memory i) ≡ 1 = rw d at (gives_visits (b - 1) (omega arith)) in
        omega (arith, occurs-append b (free s w) (standing s memory i 77)))
        (le_or_lt (occurs b (free s w)) 1)

    pub gives_free : FreeList s w
    unfolding ends_well
    gives_free =
        let a = and-true (all (λ x. leb 1 x && leb x s.m) (chain_from s w (get_or w first_free_at 0))) _ free_well in
        record {
          within = all-within s.m (free s w) a.0;
          once = free-once (all-within s.m (free s w) a.0);
          ends = eqb-true (after s w (length (free s w)) (get_or w first_free_at 0)) 0 a.1;
        }
