-- The comparison of letters that the fourth rule asks for, and what may be taken as known before it.
use Rattle.std.specs.Prelude.{◌≡◌, Bool, true, cond, List, ℕ, ◌<◌, eqb}
use Rattle.settings.specs.declared.Settings.{Settings}
use Rattle.layout.specs.Places.{nodes}
use Rattle.sound.specs.Reading.{stage_of}
use Rattle.sound.specs.Positions.{holds_copy}
use Rattle.sound.specs.Blocks.{right_letters}
use Rattle.places.specs.Given.{Looked}

module _ (s : Settings) (memory : List ℕ) where
  -- in stage 2, 'the letter in its chain equals the first letter of that queue'
  unfoldable pub copy_right : ℕ → Bool
  copy_right j = cond (eqb (stage_of memory j) 2) (holds_copy s memory j) true

  -- all that the rules ask for but the comparison of letters
  pub record Lettered : Type 0 where
    pub looked : Looked s memory
    pub letters : (i : ℕ) → i < nodes → right_letters s memory i ≡ true
