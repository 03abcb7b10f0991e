-- `queues::QueueAt::drop_first` meets its contract. Assumes nothing.
use mathlib.Core.Path.{ap₂}
use Prim.Native.Nat.{ℕ, ◌+◌, ◌-◌}
use lib.ListN.{get_or, set}
use Rattle.queues.specs.Moves.{dropped}
use Rattle.queues.proofs.Slots.{slot_past}
use Rattle.queues.proofs.QueueAt.drop_first.Goals as goal

pub returns : goal.returns
unfolding dropped
returns c =
    let x = c.args in
    let l = x.node.now in (
      ap₂ (λ (a n : ℕ). set (set (set l a 0) x.self.at n) (x.self.at + 1) (get_or l (x.self.at + 1) 0 - 1)) c.slot-slot.ensures.is
          (slot_past x.self.kind x.self.at (get_or l x.self.at 0) 1 c.slot-second.result c.slot-second.ensures.is),
      simp c.slot-slot.ensures.is,
    )
