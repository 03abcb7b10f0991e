-- The rows of a node's stretch start where the document puts its queues and blocks, and end where the stretch ends. Assumes nothing.
use mathlib.Core.Path.{◌≡◌, refl, ap, ◌∙◌}
use Prim.Native.Nat.{ℕ, ◌+◌, ◌-◌, ◌*◌, ◌≤◌, ◌<◌}
use native.Mathlib.Omega.{arith}
use borrow.Author.Tests.{lt-ltb, le-ltb}
use Rattle.words.specs.Rows.{start}
use Rattle.words.proofs.Rows.{start_add, start_lt}
use Rattle.settings.specs.declared.Settings.{Settings}
use Rattle.layout.specs.Places.{queue_head, task_head, send_at, ack_at, task_at, blocks_at, block_at, node_size}
use Rattle.layout.specs.Rows.{by_row, width}

module _ {ℓ} {X : Type ℓ} (r : ℕ) (h n a t b : X) where
  pub by_head : r < 1 → by_row r h n a t b ≡ h
  by_head p = rw (lt-ltb r 1 p)

  pub by-send : 1 ≤ r → r < 7 → by_row r h n a t b ≡ n
  by-send p q = rw (le-ltb r 1 p, lt-ltb r 7 q)

  pub by_ack : 7 ≤ r → r < 13 → by_row r h n a t b ≡ a
  by_ack p q = rw (le-ltb r 1 (omega arith), le-ltb r 7 p, lt-ltb r 13 q)

  pub by_task : 13 ≤ r → r < 77 → by_row r h n a t b ≡ t
  by_task p q = rw (le-ltb r 1 (omega arith), le-ltb r 7 (omega arith), le-ltb r 13 p, lt-ltb r 77 q)

  pub by-block : 77 ≤ r → by_row r h n a t b ≡ b
  by-block p = rw (le-ltb r 1 (omega arith), le-ltb r 7 (omega arith), le-ltb r 13 (omega arith), le-ltb r 77 p)

module _ (s : Settings) where
  -- how wide each kind of row is
  pub width_head : width s 0 ≡ 2
  unfolding width
  width_head = refl

  pub width-send : (r : ℕ) → 1 ≤ r → r < 7 → width s r ≡ queue_head + s.s
  unfolding width
  width-send r p q = by-send r 2 (3 + s.s) (3 + s.a) (5 + s.t) s.b p q

  pub width_ack : (r : ℕ) → 7 ≤ r → r < 13 → width s r ≡ queue_head + s.a
  unfolding width
  width_ack r p q = by_ack r 2 (3 + s.s) (3 + s.a) (5 + s.t) s.b p q

  pub width_task : (r : ℕ) → 13 ≤ r → r < 77 → width s r ≡ task_head + s.t
  unfolding width
  width_task r p q = by_task r 2 (3 + s.s) (3 + s.a) (5 + s.t) s.b p q

  pub width-block : (b : ℕ) → 1 ≤ b → width s (76 + b) ≡ s.b
  unfolding width
  width-block b h = by-block (76 + b) 2 (3 + s.s) (3 + s.a) (5 + s.t) s.b (omega arith)

  -- where each kind of row starts
  pub start-send : (k : ℕ) → k ≤ 6 → start (width s) (1 + k) ≡ send_at s k
  unfolding start send_at
  start-send k h = start_add (width s) 1 (3 + s.s) k (λ j l. width-send (1 + j) (omega arith) (omega arith)) ∙ omega (arith, width_head)

  pub start_ack : (k : ℕ) → k ≤ 6 → start (width s) (7 + k) ≡ ack_at s k
  unfolding ack_at send_at
  start_ack k h =
      start_add (width s) 7 (3 + s.a) k (λ j l. width_ack (7 + j) (omega arith) (omega arith))
      ∙ ap (λ x. x + k * (3 + s.a)) (start-send 6 (omega arith))

  pub start_task : (q : ℕ) → q ≤ 64 → start (width s) (13 + q) ≡ task_at s q
  unfolding task_at ack_at
  start_task q h =
      start_add (width s) 13 (5 + s.t) q (λ j l. width_task (13 + j) (omega arith) (omega arith))
      ∙ ap (λ x. x + q * (5 + s.t)) (start_ack 6 (omega arith))

  start-blocks : (k : ℕ) → start (width s) (77 + k) ≡ blocks_at s + k * s.b
  unfolding blocks_at task_at width
  start-blocks k =
      start_add (width s) 77 s.b k (λ j l. by-block (77 + j) 2 (3 + s.s) (3 + s.a) (5 + s.t) s.b (omega arith))
      ∙ ap (λ x. x + k * s.b) (start_task 64 (omega arith))

  pub start-block : (b : ℕ) → 1 ≤ b → start (width s) (76 + b) ≡ block_at s b
  unfolding block_at
  start-block b h = let e : 76 + b ≡ 77 + (b - 1) = omega arith in rw e (start-blocks (b - 1))

  -- the last row ends where the stretch ends
  pub start_end : start (width s) (77 + s.m) ≡ node_size s
  unfolding node_size blocks_at
  start_end = start-blocks s.m

  -- EVERY PLACE OF A STRETCH LIES IN IT
  pub row_fits : (r : ℕ) → r < 77 + s.m → start (width s) r + width s r ≤ node_size s
  row_fits r h = omega (arith, start_lt (width s) r (77 + s.m) h, start_end)
