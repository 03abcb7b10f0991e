-- The machine fresh from set up: 'turn 0, positions, queues and counts zero, free list 1, 2, .. M'.
use Rattle.std.specs.Prelude.{List, [], ◌∷◌, ◌++◌, ℕ, zero, suc}
use Rattle.settings.specs.declared.Settings.{Settings}
use Rattle.machine.specs.Machine.{Machine}

-- 1, 2, .. n
unfoldable pub up_to : ℕ → List ℕ
up_to zero = []
up_to (suc n) = up_to n ++ suc n ∷ []

abbrev pub fresh_machine : Settings → Machine
fresh_machine s =
    record {
      turn = 0;
      stage = λ j. 0;
      other = λ j. 0;
      node = λ i. record { free = up_to s.m; letters = λ p. [] };
    }
