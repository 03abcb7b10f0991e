-- The outcome of a turn, by the test on the way, and what a sound memory gives to it. Assumes nothing.
use mathlib.Core.Path.{◌≡◌, ap, ap₂, ◌∙◌}
use mathlib.Core.Bool.{true, false}
use mathlib.Core.List.{List}
use Prim.Native.Nat.{ℕ, ◌≤◌, ◌<◌}
use native.Mathlib.Omega.{arith}
use lib.ListN.{length}
use Rattle.settings.specs.declared.Settings.{Settings}
use Rattle.layout.specs.Places.{nodes_at}
use Rattle.layout.proofs.Fits.{nodes_fit}
use Rattle.sound.specs.Reading.{settings_in, turn_in}
use Rattle.sound.specs.Sound.{sound}
use Rattle.sound.proofs.Gives.{gives_sized, gives_turn}
use Rattle.postman.specs.declared.Position.{Position}
use Rattle.postman.specs.declared.Round.{Round}
use Rattle.postman.specs.Position.{position_of, kept}
use Rattle.postman.specs.Round.{Post, post, at_start}
use Rattle.postman.specs.Asked.{SoundAt}
use Rattle.stages_keep.specs.Steps.{gone}
use Rattle.stages_keep.proofs.Laws.{begins}
use Rattle.turn.specs.declared.Turned.{Turned}
use Rattle.turn.specs.declared.TurnRefusal.{TurnRefusal}
use Rattle.turn.specs.declared.TurnRefusal.TheVariants.{NotSound}
use Rattle.std.specs.Prelude.{Result, Ok, Err}
use Rattle.turn.specs.Outcome.{Outcome, answered, taken, turn}

abbrev out : Result Turned TurnRefusal → List ℕ → Outcome
out a m = record { answer = a; memory = m }

-- ---- a sound memory
module _ (m : List ℕ) (e : sound m ≡ true) where
  pub sound-long : nodes_at ≤ length m
  sound-long = omega (arith, (gives_sized m e).long, nodes_fit (settings_in m))

  pub sound-turn : turn_in m < 6
  sound-turn = omega (arith, gives_turn m e)

  module _ {s : Settings} {j : ℕ} {p : Position} (es : s ≡ settings_in m) (ej : j ≡ turn_in m) (ep : p ≡ position_of m j) where
    pub sound-stands : SoundAt s m j p
    sound-stands = rw (ep, ej, es) (begins m e)

    pub sound-turned : {m₁ m₂ : List ℕ} {r : Round} {a : Turned} → post m₁ r ≡ gone s j m p at_start → m₂ ≡ kept m₁ j r.position → a ≡ answered j r
        → out (Ok a) m₂ ≡ turn m
    unfolding turn taken
    sound-turned {m₁} {m₂} {r} {a} eg em ea =
        let q : post m₁ r ≡ gone (settings_in m) (turn_in m) m (position_of m (turn_in m)) at_start = eg ∙ rw (ep, ej, es) in
        let f : m₂ ≡ kept m₁ (turn_in m) r.position = rw ej at em in
        let h : a ≡ answered (turn_in m) r = rw ej at ea in
        ap₂ (λ (x : Turned). out (Ok x)) h f ∙ ap (λ (x : Post). out (Ok (answered (turn_in m) x.round)) (kept x.memory (turn_in m) x.round.position)) q ∙ rw e

-- a memory that is not sound is refused by 1, and nothing changes
pub not_sound_lem : (m : List ℕ) → sound m ≡ false → out (Err NotSound) m ≡ turn m
unfolding turn
not_sound_lem m e = rw e
