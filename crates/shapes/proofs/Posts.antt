-- The six send queues of a stretch stand one behind the other, and so do the six acknowledge queues. Assumes nothing.
use mathlib.Core.Path.{◌≡◌, refl, ap, ◌∙◌}
use mathlib.Core.Bool.{Bool}
use mathlib.Core.List.{List}
use Prim.Native.Nat.{ℕ, ◌+◌, ◌*◌, ◌<◌}
use native.Mathlib.Omega.{arith}
use lib.Dec.{eqb}
use Rattle.words.specs.Words.{every}
use Rattle.settings.specs.declared.Settings.{Settings}
use Rattle.layout.specs.Asked.{Stretch}
use Rattle.layout.specs.Places.{nodes, queue_head, send_at, ack_at}
use Rattle.layout.proofs.Fits.{send-fits, ack_fits}
use Rattle.queues.specs.declared.Kind.{Kind}
use Rattle.queues.specs.Queue.{send_kind, ack_kind, Placed}
use Rattle.sound.proofs.Given.{placed-send, placed_ack}
use Rattle.sound.proofs.Tests.{every_same}
use Rattle.shapes.specs.Shape.{right_post, right_sends, right_acks}

module _ (s : Settings) where
  send_is : (j : ℕ) → send_at s 0 + j * (queue_head + s.s) ≡ send_at s j
  unfolding send_at
  send_is j = omega arith

  ack_is : (j : ℕ) → ack_at s 0 + j * (queue_head + s.a) ≡ ack_at s j
  unfolding ack_at
  ack_is j = omega arith

module _ (s : Settings) (l : List ℕ) (k : Kind) (first : ℕ) where
  pub placed_sends : Stretch s l → k ≡ send_kind s → first ≡ send_at s 0 → (j : ℕ) → j < nodes → Placed k l (first + j * (k.head + k.slots))
  placed_sends st e f j h = rw (e, f, send_is s j) (placed-send s l st (send_kind s) (send_at s j) refl (send-fits s j h))

  pub placed_acks : Stretch s l → k ≡ ack_kind s → first ≡ ack_at s 0 → (j : ℕ) → j < nodes → Placed k l (first + j * (k.head + k.slots))
  placed_acks st e f j h = rw (e, f, ack_is s j) (placed_ack s l st (ack_kind s) (ack_at s j) refl (ack_fits s j h))

  module _ (i : ℕ) (r : Bool) (t : r ≡ every nodes (λ j. right_post k l (first + j * (k.head + k.slots)) s.m (eqb j i))) where
    pub sends_are : k ≡ send_kind s → first ≡ send_at s 0 → r ≡ right_sends s l i
    unfolding right_sends
    sends_are e f = t ∙ rw (e, f) (every_same _ _ nodes (λ j h. ap (λ (q : ℕ). right_post (send_kind s) l q s.m (eqb j i)) (send_is s j)))

    pub acks_are : k ≡ ack_kind s → first ≡ ack_at s 0 → r ≡ right_acks s l i
    unfolding right_acks
    acks_are e f = t ∙ rw (e, f) (every_same _ _ nodes (λ j h. ap (λ (q : ℕ). right_post (ack_kind s) l q s.m (eqb j i)) (ack_is s j)))
