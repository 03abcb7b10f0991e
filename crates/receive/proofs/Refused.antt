-- A memory that is not sound is refused by 1, and nothing changes. Assumes nothing.
use Rattle.std.specs.Prelude.{Err}
use mathlib.Core.Path.{◌≡◌}
use mathlib.Core.Bool.{false}
use mathlib.Core.List.{List}
use Prim.Native.Nat.{ℕ}
use Rattle.sound.specs.Sound.{sound}
use Rattle.receive.specs.declared.ReceiveRefusal.TheVariants.{NotSound}
use Rattle.receive.specs.Outcome.{refused_by, receive}

pub not_sound_lem : (memory : List ℕ) (destination source : ℕ) (out : List ℕ) → sound memory ≡ false
    → refused_by memory destination source out (Err NotSound) ≡ receive memory destination source out
unfolding receive
not_sound_lem memory destination source out e = rw e
