-- A count that rises, of a node's room or of a full queue, leaves the machine as it was. Assumes nothing.
use mathlib.Core.Path.{◌≡◌, refl, sym, ap, ◌∙◌, subst}
use mathlib.Core.List.{List}
use Prim.Native.Nat.{ℕ, ◌+◌, ◌≤◌, ◌<◌}
use native.Mathlib.Omega.{arith}
use lib.ListN.{length, get_or, set, length-set}
use Rattle.words.specs.Words.{more}
use Rattle.words.specs.Rows as word_rows
use Rattle.words.proofs.Lists.{same?}
use Rattle.words.proofs.Rows.{but_none, but_set}
use Rattle.settings.specs.declared.Settings.{Settings}
use Rattle.layout.specs.Places.{node_size, node, with_node, send_at, task_at, room_at, task_full_word, full_word}
use Rattle.layout.specs.Rows.{width}
use Rattle.layout.specs.Asked.{Stretch}
use Rattle.layout.proofs.NodeRows.{width_head, start-send, start_task}
use Rattle.queues.specs.Queue.{send_kind, task_kind}
use Rattle.queues.specs.Moves.{counted}
use Rattle.queues.proofs.InRow.{room-send, room_task, but_counted}
use Rattle.queues.proofs.Ring.{Ring, ring_counted}
use Rattle.queues.proofs.Tasks.{TaskRing, task_counted}
use Rattle.machine.specs.Machine.{firsts, Machine}
use Rattle.machine.specs.Core.{rows_of, Core}
use Rattle.machine.specs.Represents.{RepresentsAt}
use Rattle.machine.proofs.Places.{seat-send, line-send, kind-send}
use Rattle.machine.proofs.Gives.{gives_stretch, gives_row}
use Rattle.moves.proofs.Made.{put_row}
use Rattle.moves.proofs.Rows.{row_same, row_other, row-node}
use Rattle.moves.proofs.Core.{word-put}
use Rattle.moves.proofs.Queues.{length-counted, task_word}
use Rattle.moves.proofs.Memory.{row_with}
use Rattle.moves.proofs.Words.{room-words}
use Rattle.moves.proofs.Formed.{with_nodes}
use Rattle.send_keeps.proofs.After.{represents_with}

module _ (s : Settings) (memory : List ℕ) (m : Machine) (rep : RepresentsAt s memory m) (i : ℕ) (h : i < 6) where
  abbrev R : ℕ → ℕ → List ℕ
  R = rows_of s memory

  abbrev o : List ℕ
  o = node s memory i

  stretch : Stretch s (node s memory i)
  stretch = gives_stretch s memory rep.size m.node rep.core i h

  send_ring : (k : ℕ) → k < 6 → Ring (send_kind s) (R i (1 + k)) 0 (firsts ((m.node i).letters (1 + k)))
  send_ring k g = rw (kind-send s k g, seat-send i k g, line-send i k g) at (rep.core.queues i (1 + k) h (omega arith) (omega arith))

  task_ring : (q : ℕ) → q < 64 → TaskRing s (R i (13 + q)) 0 (firsts ((m.node i).letters (13 + q)))
  task_ring q g = gives_row s memory rep.size m.node rep.core i q h g (rep.shows.flags i q h g) (rep.formed.order.fronts i q h g)

  -- one row anew, in which the flag, if it has one, is the same
  module _ (l : List ℕ) (long : length l ≡ node_size s) (r : ℕ) (w : List ℕ) (row : rows_of s (with_node s memory i l) ≡ put_row (rows_of s memory) i r w) (flag : 13 ≤ r → get_or w 2 0 ≡ get_or (rows_of s memory i r) 2 0)
      (core : Core s (rows_of s (with_node s memory i l)) m.node) where
    word_same : (k q : ℕ) → get_or (rows_of s (with_node s memory i l) k (13 + q)) 2 0 ≡ get_or (rows_of s memory k (13 + q)) 2 0
    word_same k q =
        ap (λ (Q : ℕ → ℕ → List ℕ). get_or (Q k (13 + q)) 2 0) row
        ∙ same? k i
        (λ e t. same? (13 + q) r
        (λ f u. rw (e, f) (ap (λ (x : List ℕ). get_or x 2 0) (row_same R i r w) ∙ flag (omega arith)))
        (λ f u. ap (λ (x : List ℕ). get_or x 2 0) (row_other R i r w k (13 + q) f)))
        (λ e t. ap (λ (x : List ℕ). get_or x 2 0) (row-node R i r w k (13 + q) e))

    row_keeps : RepresentsAt s (with_node s memory i l) (with_nodes m m.node)
    row_keeps =
        represents_with s memory m rep i h l long m.node core (λ k g. refl)
        (λ k q a g. word_same k q ∙ rep.shows.flags k q a g) rep.formed

  -- 5: THE ROOM COUNT
  room_row : rows_of s (with_node s memory i (counted (node s memory i) room_at)) ≡ put_row (rows_of s memory) i 0 (set (rows_of s memory i 0) (0 + 1) (more (get_or (node s memory i) 1 0)))
  unfolding counted word_rows.start
  room_row =
      let v : ℕ = more (get_or o 1 0) in
      row_with s memory rep.size i h (set o 1 v) (length-set o 1 v ∙ stretch.long) 0 (set (R i 0) (0 + 1) v)
      (but_set (width s) o 0 (but_none (width s) o 0) 1 (rw (width_head s) (omega arith)) v)

  pub room_keeps : RepresentsAt s (with_node s memory i (counted (node s memory i) room_at)) (with_nodes m m.node)
  room_keeps =
      row_keeps (counted o 1) (length-counted o 1 ∙ stretch.long) 0 (set (R i 0) (0 + 1) (more (get_or o 1 0))) room_row (λ z. absurd (omega arith))
      (room-words s memory rep.size m.node rep.core i h)

  -- 6: THE FULL COUNT of a task queue
  pub task_full_keeps : (q : ℕ) → q < 64 → RepresentsAt s (with_node s memory i (counted (node s memory i) (task_at s q + task_full_word))) (with_nodes m m.node)
  task_full_keeps q g =
      row_keeps (counted o (task_at s q + 3)) (length-counted o (task_at s q + 3) ∙ stretch.long) (13 + q) (counted (R i (13 + q)) (0 + 3)) row
      (λ z. t.flag ∙ sym (task_ring q g).flag)
      (subst (λ (Q : ℕ → ℕ → List ℕ). Core s Q m.node) (sym row)
      (task_word s R m.node rep.core i q h g (counted (R i (13 + q)) (0 + 3)) (length-counted (R i (13 + q)) (0 + 3)) t.ring))
    where
      t : TaskRing s (counted (R i (13 + q)) (0 + 3)) 0 (firsts ((m.node i).letters (13 + q)))
      t = task_counted s (R i (13 + q)) 0 (firsts ((m.node i).letters (13 + q))) (task_ring q g) 3 (omega arith) (omega arith)

      row : rows_of s (with_node s memory i (counted o (task_at s q + 3))) ≡ put_row (rows_of s memory) i (13 + q) (counted (R i (13 + q)) (0 + 3))
      row =
          let at : ℕ = word_rows.start (width s) (13 + q) in
          ap (λ (a : ℕ). rows_of s (with_node s memory i (counted o (a + 3)))) (sym (start_task s q (omega arith)))
          ∙ row_with s memory rep.size i h (counted o (at + 3)) (length-counted o (at + 3) ∙ stretch.long) (13 + q) (counted (R i (13 + q)) (0 + 3))
          (but_counted (width s) o (13 + q) (task_kind s) (room_task s rep.core.range (13 + q) (omega arith) (omega arith)) (but_none (width s) o (13 + q)) 3 (omega arith))

  -- and of a send queue
  pub send_full_keeps : (k : ℕ) → k < 6 → RepresentsAt s (with_node s memory i (counted (node s memory i) (send_at s k + full_word))) (with_nodes m m.node)
  send_full_keeps k g =
      row_keeps (counted o (send_at s k + 2)) (length-counted o (send_at s k + 2) ∙ stretch.long) (1 + k) (counted (R i (1 + k)) (0 + 2)) row
      (λ z. absurd (omega arith))
      (subst (λ (Q : ℕ → ℕ → List ℕ). Core s Q m.node) (sym row) core)
    where
      ring : Ring (send_kind s) (counted (R i (1 + k)) (0 + 2)) 0 (firsts ((m.node i).letters (1 + k)))
      ring = ring_counted (send_kind s) (R i (1 + k)) 0 (firsts ((m.node i).letters (1 + k))) (send_ring k g)

      core : Core s (put_row R i (1 + k) (counted (R i (1 + k)) (0 + 2))) m.node
      core =
          rw (seat-send i k g, line-send i k g) at
          (word-put s R m.node rep.core i (1 + k) h (omega arith) (omega arith) (counted (R i (1 + k)) (0 + 2))
          (rw (seat-send i k g, line-send i k g) (length-counted (R i (1 + k)) (0 + 2))) (rw (kind-send s k g) ring))

      row : rows_of s (with_node s memory i (counted o (send_at s k + 2))) ≡ put_row (rows_of s memory) i (1 + k) (counted (R i (1 + k)) (0 + 2))
      row =
          let at : ℕ = word_rows.start (width s) (1 + k) in
          ap (λ (a : ℕ). rows_of s (with_node s memory i (counted o (a + 2)))) (sym (start-send s k (omega arith)))
          ∙ row_with s memory rep.size i h (counted o (at + 2)) (length-counted o (at + 2) ∙ stretch.long) (1 + k) (counted (R i (1 + k)) (0 + 2))
          (but_counted (width s) o (1 + k) (send_kind s) (room-send s rep.core.range (1 + k) (omega arith) (omega arith)) (but_none (width s) o (1 + k)) 2 (omega arith))
