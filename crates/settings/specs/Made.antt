-- What the constructor of the settings answers for any five numbers.
use Rattle.std.specs.Prelude.{cond, ℕ, Option, Some, None}
use Rattle.settings.specs.Range.{in_range}
use Rattle.settings.specs.declared.Settings.{Settings}

abbrev pub settings_of : ℕ → ℕ → ℕ → ℕ → ℕ → Settings
settings_of B M S A T = record { b = B; m = M; s = S; a = A; t = T }

-- the five; none where one is out of range
unfoldable pub made_settings : ℕ → ℕ → ℕ → ℕ → ℕ → Option Settings
made_settings B M S A T = cond (in_range (settings_of B M S A T)) (Some (settings_of B M S A T)) None
