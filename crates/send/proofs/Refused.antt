-- A memory that is not sound is refused by 1, and nothing changes. Assumes nothing.
use Rattle.std.specs.Prelude.{Err}
use mathlib.Core.Path.{◌≡◌}
use mathlib.Core.Bool.{false}
use mathlib.Core.List.{List}
use Prim.Native.Nat.{ℕ}
use Rattle.sound.specs.Sound.{sound}
use Rattle.posting.specs.declared.SendRefusal.TheVariants.{NotSound}
use Rattle.send.specs.Outcome.{refused_by, send}

pub not_sound_lem : (memory : List ℕ) (source destination : ℕ) (body : List ℕ) → sound memory ≡ false
    → refused_by (Err NotSound) memory ≡ send memory source destination body
unfolding send
not_sound_lem memory source destination body e = rw e
