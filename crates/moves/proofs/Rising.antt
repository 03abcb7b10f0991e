-- WHAT HOLDS BETWEEN MOVES IS KEPT where a count rises: of a node's room, of an acknowledge queue and of a task queue that were found full. Assumes nothing.
--     row_works     one row anew, its flag the same; room_works, ack_full_works, task_full_works
use mathlib.Core.Path.{◌≡◌, sym, ap, ◌∙◌}
use mathlib.Core.List.{List}
use Prim.Native.Nat.{ℕ, ◌+◌, ◌≤◌, ◌<◌}
use native.Mathlib.Omega.{arith}
use lib.ListN.{length, get_or, set, length-set}
use Rattle.words.specs.Words.{more}
use Rattle.words.specs.Rows as word_rows
use Rattle.words.proofs.Lists.{same?}
use Rattle.words.proofs.Rows.{but_none, but_set}
use Rattle.settings.specs.declared.Settings.{Settings}
use Rattle.layout.specs.Places.{node_size, node, with_node, ack_at, task_at, room_at}
use Rattle.layout.specs.Rows.{width}
use Rattle.layout.specs.Asked.{Stretch}
use Rattle.layout.proofs.NodeRows.{width_head, start_ack}
use Rattle.queues.specs.Queue.{ack_kind}
use Rattle.queues.specs.Moves.{counted, appended}
use Rattle.queues.specs.Items.{gap_flag}
use Rattle.queues.proofs.Tasks.{TaskRing}
use Rattle.queues.proofs.Views.{length-appended}
use Rattle.gaps.specs.Close.{task_appended}
use Rattle.machine.specs.Machine.{firsts, Node}
use Rattle.machine.specs.Core.{rows_of, Core}
use Rattle.machine.proofs.Places.{seat_ack, line_ack, kind_ack}
use Rattle.machine.proofs.Gives.{gives_stretch, gives_row}
use Rattle.moves.proofs.Made.{put_row, Working}
use Rattle.moves.proofs.Rows.{row_same, row_other, row-node}
use Rattle.moves.proofs.Queues.{length-counted, length_task_appended, task_full_flag}
use Rattle.moves.proofs.Memory.{with_long, row_with}
use Rattle.moves.proofs.Words.{room-words, appended-row, ack_full, task_append-row, task_full_words}

module _ (s : Settings) (table memory : List ℕ) (N : ℕ → Node) (wk : Working s table memory N) where
  abbrev R : ℕ → ℕ → List ℕ
  R = rows_of s memory

  stretch : (i : ℕ) → i < 6 → Stretch s (node s memory i)
  stretch i h = gives_stretch s memory wk.size N wk.core i h

  -- one row anew, in which the flag, if it has one, is the same
  module _ (i : ℕ) (h : i < 6) (l : List ℕ) (long : length l ≡ node_size s) (r : ℕ) (w : List ℕ) (row : rows_of s (with_node s memory i l) ≡ put_row (rows_of s memory) i r w)
      (flag : 13 ≤ r → get_or w 2 0 ≡ get_or (rows_of s memory i r) 2 0) (core : Core s (rows_of s (with_node s memory i l)) N) where
    flag_same : (k q : ℕ) → get_or (rows_of s (with_node s memory i l) k (13 + q)) 2 0 ≡ get_or (rows_of s memory k (13 + q)) 2 0
    flag_same k q =
        ap (λ (Q : ℕ → ℕ → List ℕ). get_or (Q k (13 + q)) 2 0) row
        ∙ same? k i
        (λ e t. same? (13 + q) r
        (λ f u. rw (e, f) (ap (λ (x : List ℕ). get_or x 2 0) (row_same R i r w) ∙ flag (omega arith)))
        (λ f u. ap (λ (x : List ℕ). get_or x 2 0) (row_other R i r w k (13 + q) f)))
        (λ e t. ap (λ (x : List ℕ). get_or x 2 0) (row-node R i r w k (13 + q) e))

    pub row_works : Working s table (with_node s memory i l) N
    row_works =
        record {
          size = with_long s memory wk.size i h l long ∙ wk.size;
          core = core;
          order = wk.order;
          flags = λ k q a g. flag_same k q ∙ wk.flags k q a g;
        }

  -- ---- THE ROOM COUNT of node i
  module _ (i : ℕ) (h : i < 6) where
    room_row : rows_of s (with_node s memory i (counted (node s memory i) room_at)) ≡ put_row (rows_of s memory) i 0 (set (rows_of s memory i 0) (0 + 1) (more (get_or (node s memory i) 1 0)))
    unfolding counted word_rows.start
    room_row =
        let o : List ℕ = node s memory i in
        let v : ℕ = more (get_or o 1 0) in
        row_with s memory wk.size i h (set o 1 v) (length-set o 1 v ∙ (stretch i h).long) 0 (set (R i 0) (0 + 1) v)
        (but_set (width s) o 0 (but_none (width s) o 0) 1 (rw (width_head s) (omega arith)) v)

    pub room_works : Working s table (with_node s memory i (counted (node s memory i) room_at)) N
    room_works =
        row_works i h (counted (node s memory i) 1) (length-counted (node s memory i) 1 ∙ (stretch i h).long) 0 (set (R i 0) (0 + 1) (more (get_or (node s memory i) 1 0))) room_row (λ z. absurd (omega arith))
        (room-words s memory wk.size N wk.core i h)

  -- ---- AN ACKNOWLEDGE QUEUE FULL: acknowledge queue i on node j, whose letters are those of node i
  pub ack_full_works : (i j : ℕ) → i < 6 → j < 6 → (x : ℕ) → s.a ≤ length ((N i).letters (7 + j)) → Working s table (with_node s memory j (appended (ack_kind s) (node s memory j) (ack_at s i) x)) N
  ack_full_works i j h g x full =
      let c : rows_of s (with_node s memory j (appended (ack_kind s) (node s memory j) (ack_at s i) x)) ≡ put_row (rows_of s memory) j (7 + i) (appended (ack_kind s) (rows_of s memory j (7 + i)) 0 x) =
      rw (seat_ack i j g, line_ack i j g, kind_ack s j g, start_ack s i (omega arith)) at (appended-row s memory wk.size N wk.core i (7 + j) h (omega arith) (omega arith) x) in
      row_works j g (appended (ack_kind s) (node s memory j) (ack_at s i) x) (length-appended (ack_kind s) (node s memory j) (ack_at s i) x ∙ (stretch j g).long)
      (7 + i) (appended (ack_kind s) (rows_of s memory j (7 + i)) 0 x) c (λ z. absurd (omega arith))
      (ack_full s memory wk.size N wk.core i j h g x full)

  -- ---- A TASK QUEUE FULL: task queue q of node i, without a gap
  pub task_full_works : (i q : ℕ) → i < 6 → q < 64 → (x : ℕ) → length ((N i).letters (13 + q)) ≡ s.t → gap_flag (firsts ((N i).letters (13 + q))) ≡ 0
      → Working s table (with_node s memory i (task_appended s (node s memory i) (task_at s q) x)) N
  task_full_works i q h g x full gaps =
      let t : TaskRing s (rows_of s memory i (13 + q)) 0 (firsts ((N i).letters (13 + q))) = gives_row s memory wk.size N wk.core i q h g (wk.flags i q h g) (wk.order.fronts i q h g) in
      row_works i h (task_appended s (node s memory i) (task_at s q) x) (length_task_appended s (node s memory i) (task_at s q) x ∙ (stretch i h).long)
      (13 + q) (task_appended s (rows_of s memory i (13 + q)) 0 x) (task_append-row s memory wk.size N wk.core i q h g t x)
      (λ z. (task_full_flag s R N wk.core i q h g t x full gaps).flag ∙ sym t.flag)
      (task_full_words s memory wk.size N wk.core i q h g t x full gaps)
