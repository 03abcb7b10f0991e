-- What the functions of a turn's steps ask for: where the postman stands, and that the round's two sums stay far below a word.
use Rattle.std.specs.Prelude.{◌≡◌, List, ℕ, ◌+◌, ◌*◌, ◌≤◌}
use Rattle.settings.specs.declared.Settings.{Settings}
use Rattle.postman.specs.declared.Stage.TheVariants.{Done}
use Rattle.postman.specs.declared.Round.{Round}
use Rattle.postman.specs.Position.{at, at_rest}
use Rattle.postman.specs.Asked.{SoundAt, Waits, Owes}

-- in a turn at most one letter and then S a node are appended, and A letters a node of M blocks each given back
abbrev pub most_letters : ℕ
most_letters = 4000

abbrev pub most_back : ℕ
most_back = 2000000

module _ (s : Settings) (m : List ℕ) (j i : ℕ) where
  pub record Delivers (c : ℕ) (r : Round) : Type 0 where
    pub stands : SoundAt s m j (at 2 i c)
    pub few : r.letters + 1 ≤ most_letters

  pub record Carries (k : ℕ) (r : Round) : Type 0 where
    pub waits : Waits s m j i k
    pub few : r.letters + k ≤ most_letters

  pub record CarriesFrom (r : Round) : Type 0 where
    pub stands : SoundAt s m j at_rest
    pub going : r.how ≡ Done
    pub few : r.letters ≤ 1 + 255 * i

  pub record Collects (k : ℕ) (r : Round) : Type 0 where
    pub owes : Owes s m j i k
    pub few : r.back + 1024 * k ≤ most_back

  pub record CollectsFrom (r : Round) : Type 0 where
    pub stands : SoundAt s m j at_rest
    pub few : r.back ≤ 261120 * i
