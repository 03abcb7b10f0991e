-- Each queue and block lies in its stretch, and N is small. Assumes nothing.
use mathlib.Core.Path.{◌≡◌}
use Prim.Native.Nat.{ℕ, ◌+◌, ◌≤◌, ◌<◌}
use native.Mathlib.Nat.{mul-le-mul}
use native.Mathlib.Omega.{arith}
use Rattle.words.specs.Rows.{start}
use Rattle.settings.specs.declared.Settings.{Settings}
use Rattle.settings.specs.Range.{InRange}
use Rattle.layout.specs.Places.{nodes_at, queue_head, task_head, send_at, ack_at, task_at, block_at, node_size, memory_size}
use Rattle.layout.specs.Rows.{width}
use Rattle.layout.proofs.NodeRows.{row_fits, width-send, width_ack, width_task, width-block, start-send, start_ack, start_task, start-block}

pub node-small : (s : Settings) → InRange s → node_size s ≤ 85274
unfolding node_size
node-small s r = omega (arith, mul-le-mul r.m.high r.b.high)

module _ (s : Settings) where
  -- row r is w words wide and starts at a
  fits : (r w a : ℕ) → r < 77 + s.m → width s r ≡ w → start (width s) r ≡ a → a + w ≤ node_size s
  fits r w a h e f = omega (arith, row_fits s r h)

  pub send-fits : (k : ℕ) → k < 6 → send_at s k + (queue_head + s.s) ≤ node_size s
  send-fits k h = fits (1 + k) (3 + s.s) (send_at s k) (omega arith) (width-send s (1 + k) (omega arith) (omega arith)) (start-send s k (omega arith))

  pub ack_fits : (k : ℕ) → k < 6 → ack_at s k + (queue_head + s.a) ≤ node_size s
  ack_fits k h = fits (7 + k) (3 + s.a) (ack_at s k) (omega arith) (width_ack s (7 + k) (omega arith) (omega arith)) (start_ack s k (omega arith))

  pub task_fits : (q : ℕ) → q < 64 → task_at s q + (task_head + s.t) ≤ node_size s
  task_fits q h = fits (13 + q) (5 + s.t) (task_at s q) (omega arith) (width_task s (13 + q) (omega arith) (omega arith)) (start_task s q (omega arith))

  pub block-fits : (b : ℕ) → 1 ≤ b → b ≤ s.m → block_at s b + s.b ≤ node_size s
  block-fits b l h = fits (76 + b) s.b (block_at s b) (omega arith) (width-block s b l) (start-block s b l)

-- the words before the stretches lie in the memory
pub nodes_fit : (s : Settings) → nodes_at ≤ memory_size s
unfolding memory_size
nodes_fit s = omega arith
