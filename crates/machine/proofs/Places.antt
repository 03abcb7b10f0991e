-- The places of a node: which row shows which, of what kind, and what the words show there. Assumes nothing.
--     at_place     what holds of each send, acknowledge and task queue holds of every place 1 to 76
--     seat-.., line-.., kind-..     by kind of place; ring_row, row_words, row_ring     a queue in words is a queue in its row, and back
--     shown-..     what the words show at each kind of place; begun-low, begun_task     against the blocks that begin letters
use mathlib.Core.Path.{◌≡◌, refl, ap, ◌∙◌, subst}
use mathlib.Core.Bool.{true}
use mathlib.Core.List.{List, []}
use mathlib.Core.Logic.{⊎_elim}
use Prim.Native.Nat.{ℕ, ◌+◌, ◌-◌, ◌≤◌, ◌<◌}
use native.Mathlib.Omega.{arith}
use lib.ListN.{length, get_or}
use borrow.Author.Tests.{lt-ltb, le-ltb}
use Rattle.words.specs.Rows as word_rows
use Rattle.words.proofs.Lists.{le_or_lt}
use Rattle.words.proofs.Rows.{but_none, length-row, get_or-row}
use Rattle.settings.specs.declared.Settings.{Settings}
use Rattle.layout.specs.Rows.{width}
use Rattle.layout.specs.Asked.{Stretch}
use Rattle.layout.proofs.NodeRows.{by-send, by_ack, by_task, row_fits}
use Rattle.blocks.proofs.Rows.{rows}
use Rattle.queues.specs.declared.Kind.{Kind}
use Rattle.queues.specs.Queue.{send_kind, ack_kind, task_kind, contents, Placed}
use Rattle.queues.specs.Items.{live}
use Rattle.queues.proofs.Ring.{Ring, ring_of, ring_queue, ring_contents}
use Rattle.queues.proofs.InRow.{Room, ring_up, ring_down}
use Rattle.sound.proofs.Shapes.{shape_queue, queue_shape}
use Rattle.sound.specs.Reading.{send_items, ack_items, task_items}
use Rattle.sound.specs.Queues.{in_shape}
use Rattle.sound.specs.Positions.{held}
use Rattle.sound.specs.Blocks.{begun}
use Rattle.machine.specs.Spelled.{shown}
use Rattle.machine.specs.Core.{seat, line, kind}

-- ---- every place is of one kind
pub at_place : (P : ℕ → Type 0) → ((k : ℕ) → k < 6 → P (1 + k)) → ((k : ℕ) → k < 6 → P (7 + k)) → ((q : ℕ) → q < 64 → P (13 + q))
    → (p : ℕ) → 1 ≤ p → p < 77 → P p
at_place P f g t p h l =
    ⊎_elim
    (λ a.
    ⊎_elim
    (λ b. let e : 13 + (p - 13) ≡ p = omega arith in subst P e (t (p - 13) (omega arith)))
    (λ b. let e : 7 + (p - 7) ≡ p = omega arith in subst P e (g (p - 7) (omega arith)))
    (le_or_lt 13 p))
    (λ a. let e : 1 + (p - 1) ≡ p = omega arith in subst P e (f (p - 1) (omega arith)))
    (le_or_lt 7 p)

module _ (i k : ℕ) (h : k < 6) where
  pub seat-send : seat i (1 + k) ≡ i
  unfolding seat
  seat-send = by-send (1 + k) i i (1 + k - 7) i i (omega arith) (omega arith)

  pub line-send : line i (1 + k) ≡ 1 + k
  unfolding line
  line-send = by-send (1 + k) (1 + k) (1 + k) (7 + i) (1 + k) (1 + k) (omega arith) (omega arith)

  pub seat_ack : seat i (7 + k) ≡ k
  unfolding seat
  seat_ack = by_ack (7 + k) i i (7 + k - 7) i i (omega arith) (omega arith) ∙ omega arith

  pub line_ack : line i (7 + k) ≡ 7 + i
  unfolding line
  line_ack = by_ack (7 + k) (7 + k) (7 + k) (7 + i) (7 + k) (7 + k) (omega arith) (omega arith)

module _ (i q : ℕ) (h : q < 64) where
  pub seat_task : seat i (13 + q) ≡ i
  unfolding seat
  seat_task = by_task (13 + q) i i (13 + q - 7) i i (omega arith) (omega arith)

  pub line_task : line i (13 + q) ≡ 13 + q
  unfolding line
  line_task = by_task (13 + q) (13 + q) (13 + q) (7 + i) (13 + q) (13 + q) (omega arith) (omega arith)

module _ (s : Settings) where
  pub kind-send : (k : ℕ) → k < 6 → kind s (1 + k) ≡ send_kind s
  unfolding kind
  kind-send k h = by-send (1 + k) (send_kind s) (send_kind s) (ack_kind s) (task_kind s) (send_kind s) (omega arith) (omega arith)

  pub kind_ack : (k : ℕ) → k < 6 → kind s (7 + k) ≡ ack_kind s
  unfolding kind
  kind_ack k h = by_ack (7 + k) (send_kind s) (send_kind s) (ack_kind s) (task_kind s) (send_kind s) (omega arith) (omega arith)

  pub kind_task : (q : ℕ) → q < 64 → kind s (13 + q) ≡ task_kind s
  unfolding kind
  kind_task q h = by_task (13 + q) (send_kind s) (send_kind s) (ack_kind s) (task_kind s) (send_kind s) (omega arith) (omega arith)

-- a place's node is a node, its row a queue's row
pub seat_in : (i p : ℕ) → i < 6 → 1 ≤ p → p < 77 → seat i p < 6
seat_in i p l h k =
    at_place (λ (p : ℕ). seat i p < 6)
    (λ k g. rw (seat-send i k g) l) (λ k g. rw (seat_ack i k g) g) (λ q g. rw (seat_task i q g) l) p h k

pub line_in : (i p : ℕ) → i < 6 → 1 ≤ p → p < 77 → (1 ≤ line i p) × (line i p < 77)
line_in i p l h k =
    at_place (λ (p : ℕ). (1 ≤ line i p) × (line i p < 77))
    (λ k g. rw (line-send i k g) (omega arith, omega arith)) (λ k g. rw (line_ack i k g) (omega arith, omega arith)) (λ q g. rw (line_task i q g) (omega arith, omega arith)) p h k

-- ---- a queue in a node's words, and in its row
module _ (s : Settings) (l : List ℕ) (st : Stretch s l) (k : Kind) (r : ℕ) (in-r : r < 77 + s.m) (room : Room k (width s r)) (a : ℕ) (at : word_rows.start (width s) r ≡ a) where
  row-size : length (rows s l r) ≡ width s r
  row-size = length-row (width s) l r (rw st.long (row_fits s r in-r))

  pub ring_row : in_shape k l a ≡ true → Ring k (rows s l r) 0 (contents k l a)
  ring_row e =
      let p : Placed k l a = record { lies = omega (arith, room.room, row_fits s r in-r, st.long); some = room.some; small = room.small; low = room.low; high = room.high } in
      ring_down (width s) l r k room (but_none (width s) l r) (contents k l a) row-size
      (rw at (ring_of k l a (shape_queue k l a p e)))

  pub row_words : (xs : List ℕ) → Ring k (rows s l r) 0 xs → Ring k l a xs
  row_words xs g = rw at at (ring_up (width s) l r k room (but_none (width s) l r) xs (rw st.long (row_fits s r in-r)) g)

  pub row_ring : (xs : List ℕ) → Ring k (rows s l r) 0 xs → (in_shape k l a ≡ true) × (contents k l a ≡ xs)
  row_ring xs g =
      let u = row_words xs g in
      (queue_shape k l a (ring_queue k l a u), ring_contents k l a u)

  pub row_word : (j : ℕ) → j < width s r → get_or (rows s l r) j 0 ≡ get_or l (a + j) 0
  row_word j h = get_or-row (width s) l r j h ∙ ap (λ (n : ℕ). get_or l (n + j) 0) at

-- ---- what the words show
module _ (s : Settings) (memory : List ℕ) (i : ℕ) where
  pub shown-hand : shown s memory i 0 ≡ held s memory i
  unfolding shown
  shown-hand = refl

  pub shown-transit : shown s memory i 77 ≡ []
  unfolding shown
  shown-transit = refl

  pub shown-send : (k : ℕ) → k < 6 → shown s memory i (1 + k) ≡ send_items s memory i k
  unfolding shown
  shown-send k h =
      let e : 1 + k - 1 ≡ k = omega arith in
      by-send (1 + k) (held s memory i) (send_items s memory i (1 + k - 1)) (ack_items s memory (1 + k - 7) i) (task_items s memory i (1 + k - 13)) [] (omega arith) (omega arith)
      ∙ ap (send_items s memory i) e

  pub shown_ack : (k : ℕ) → k < 6 → shown s memory i (7 + k) ≡ ack_items s memory k i
  unfolding shown
  shown_ack k h =
      let e : 7 + k - 7 ≡ k = omega arith in
      by_ack (7 + k) (held s memory i) (send_items s memory i (7 + k - 1)) (ack_items s memory (7 + k - 7) i) (task_items s memory i (7 + k - 13)) [] (omega arith) (omega arith)
      ∙ ap (λ (j : ℕ). ack_items s memory j i) e

  pub shown_task : (q : ℕ) → q < 64 → shown s memory i (13 + q) ≡ task_items s memory i q
  unfolding shown
  shown_task q h =
      let e : 13 + q - 13 ≡ q = omega arith in
      by_task (13 + q) (held s memory i) (send_items s memory i (13 + q - 1)) (ack_items s memory (13 + q - 7) i) (task_items s memory i (13 + q - 13)) [] (omega arith) (omega arith)
      ∙ ap (task_items s memory i) e

  -- the blocks that begin letters are those shown, gaps left out
  pub begun-low : (p : ℕ) → p < 13 → begun s memory i p ≡ shown s memory i p
  unfolding begun shown
  begun-low p h = rw (lt-ltb p 13 h)

  pub begun_task : (p : ℕ) → 13 ≤ p → p < 77 → begun s memory i p ≡ live (shown s memory i p)
  unfolding begun shown
  begun_task p h l = rw (le-ltb p 1 (omega arith), le-ltb p 7 (omega arith), le-ltb p 13 h, lt-ltb p 77 l)
