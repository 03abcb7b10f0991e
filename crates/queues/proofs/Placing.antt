-- Each queue of a node's stretch has its room where the layout puts it. Assumes nothing.
use Prim.Native.Nat.{ℕ, ◌<◌}
use mathlib.Core.List.{List}
use native.Mathlib.Omega.{arith}
use Rattle.settings.specs.declared.Settings.{Settings}
use Rattle.layout.specs.Places.{send_at, ack_at, task_at}
use Rattle.layout.specs.Asked.{Stretch}
use Rattle.layout.proofs.Fits.{send-fits, ack_fits, task_fits}
use Rattle.queues.specs.Queue.{send_kind, ack_kind, task_kind, Placed}

module _ (s : Settings) (node : List ℕ) (w : Stretch s node) where
  pub placed-send : (k : ℕ) → k < 6 → Placed (send_kind s) node (send_at s k)
  placed-send k h = record { lies = omega (arith, send-fits s k h, w.long); some = w.range.s.low; small = w.range.s.high; low = omega arith; high = omega arith }

  pub placed_ack : (k : ℕ) → k < 6 → Placed (ack_kind s) node (ack_at s k)
  placed_ack k h = record { lies = omega (arith, ack_fits s k h, w.long); some = w.range.a.low; small = w.range.a.high; low = omega arith; high = omega arith }

  pub placed_task : (q : ℕ) → q < 64 → Placed (task_kind s) node (task_at s q)
  placed_task q h = record { lies = omega (arith, task_fits s q h, w.long); some = w.range.t.low; small = w.range.t.high; low = omega arith; high = omega arith }
