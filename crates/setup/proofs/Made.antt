-- What the constructor of the settings makes is in range. Assumes nothing.
use mathlib.Core.Path.{◌≡◌, sym, ◌∙◌}
use Prim.Native.Nat.{ℕ}
use Rattle.std.specs.Prelude.{Option, Some}
use Rattle.settings.specs.declared.Settings.{Settings}
use Rattle.settings.specs.Range.{InRange}
use Rattle.settings.specs.Made.{made_settings}
use Rattle.settings.proofs.Laws.{told_made, range-true}

pub made_range : (g : Settings) (x : Option Settings) (b m s a t : ℕ) → x ≡ made_settings b m s a t → x ≡ Some g → InRange g
made_range g x b m s a t e f = let k = told_made b m s a t g (sym e ∙ f) in range-true g (rw k.1 at k.0)
