-- How a turn resumes, by the stage, and what the rest of it then asks for. Assumes nothing.
use mathlib.Core.Path.{◌≡◌, sym, ap, subst}
use mathlib.Core.Bool.{true, false}
use mathlib.Core.List.{List}
use Prim.Native.Nat.{ℕ, ◌≤◌, ◌<◌}
use native.Mathlib.Omega.{arith}
use borrow.Author.Tests.{eq-eqb, ne_eqb}
use mathlib.Core.Logic.{⊎_elim}
use Rattle.words.proofs.Lists.{le_or_lt, same?}
use Rattle.settings.specs.declared.Settings.{Settings}
use Rattle.postman.specs.declared.Stage.TheVariants.{Done}
use Rattle.postman.specs.declared.Position.{Position}
use Rattle.postman.specs.declared.Round.{Round}
use Rattle.postman.specs.Position.{at, at_rest}
use Rattle.postman.specs.Round.{Post, post, at_start}
use Rattle.postman.specs.Asked.{SoundAt}
use Rattle.stages_keep.specs.Steps.{handed_on, delivered, collected_from, clears_first, resumed}
use Rattle.stages_keep.proofs.Laws.{handed-rest, delivered-rest, rests}
use Rattle.stages.proofs.Stood.{stood_last}
use Rattle.carrying.specs.Asked.{Delivers, CarriesFrom, CollectsFrom}
use Rattle.carrying.proofs.Sums.{handed-most, delivered-most, from_same}
use Rattle.carrying.proofs.Asks.{from-stands}

module _ (s : Settings) (m : List ℕ) (j : ℕ) (p : Position) where
  clears : p.stage < 2 → clears_first s j p.stage ≡ true
  unfolding clears_first
  clears l =
      same? p.stage 0
      (λ q t. rw t)
      (λ q t. rw (t, eq-eqb p.stage 1 (omega arith)))

  clears_not : 2 ≤ p.stage → clears_first s j p.stage ≡ false
  unfolding clears_first
  clears_not l = rw (ne_eqb p.stage 0 (λ z. omega arith), ne_eqb p.stage 1 (λ z. omega arith))

  -- ---- what it does
  module _ (r : Round) where
    pub resumed_clear : p.stage < 2 → resumed s j m p r ≡ collected_from s j 6 m 0 r
    unfolding resumed
    resumed_clear l = rw (clears l)

    pub resumed_two : p.stage ≡ 2 → resumed s j m p r ≡ delivered s j m p.other p.held r
    unfolding resumed
    resumed_two e = rw (clears_not (omega arith), eq-eqb p.stage 2 e)

    pub resumed_three : 2 ≤ p.stage → (p.stage ≡ 2 → ⊥) → resumed s j m p r ≡ handed_on s j m p.other r
    unfolding resumed
    resumed_three l n = rw (clears_not l, ne_eqb p.stage 2 n)

  -- ---- what it asks for
  module _ (g : SoundAt s m j p) where
    at_rest_lem : p.stage < 2 → SoundAt s m j at_rest
    at_rest_lem l = rests s m j p.stage p.other p.held g (omega arith)

    at_two : p.stage ≡ 2 → SoundAt s m j (at 2 p.other p.held)
    at_two e = subst (λ (k : ℕ). SoundAt s m j (at k p.other p.held)) e g

    pub at_three : 2 ≤ p.stage → (p.stage ≡ 2 → ⊥) → SoundAt s m j (at 3 p.other 0)
    at_three l n =
        let h = stood_last s m j p.stage p.other p.held g (omega arith) in
        subst (λ (x : ℕ). SoundAt s m j (at 3 p.other x)) h.1 (subst (λ (k : ℕ). SoundAt s m j (at k p.other p.held)) h.0 g)

    module _ (r : Round) (e : r ≡ at_start) where
      pub resume_collects : p.stage < 2 → CollectsFrom s m j 0 r
      resume_collects l = let z : r.back ≡ 0 = ap (λ (x : Round). x.back) e in record { stands = at_rest_lem l; few = omega arith }

      pub resume_delivers : p.stage ≡ 2 → Delivers s m j p.other p.held r
      resume_delivers t = let z : r.letters ≡ 0 = ap (λ (x : Round). x.letters) e in record { stands = at_two t; few = omega arith }

    -- ---- and where it did not stop
    abbrev Ready : Post → Type 0
    Ready x = x.round.how ≡ Done → SoundAt s x.memory j at_rest × (x.round.letters ≤ 1)

    ready : Ready (resumed s j m p at_start)
    ready =
        ⊎_elim
        (λ l.
        same? p.stage 2
        (λ q t. subst Ready (sym (resumed_two at_start q)) (λ d. (delivered-rest s m j p.other p.held at_start (at_two q) d, delivered-most s j m p.other p.held at_start)))
        (λ q t. subst Ready (sym (resumed_three at_start l q))
        (λ d. (handed-rest s m j p.other at_start (at_three l q) d, omega (arith, handed-most s j m p.other at_start)))))
        (λ l. subst Ready (sym (resumed_clear at_start l)) (λ d. (from-stands s j 6 m 0 at_start (omega arith) (at_rest_lem l), omega (arith, (from_same s j 6 m 0 at_start).0))))
        (le_or_lt 2 p.stage)

    pub resume_carries : {m₁ : List ℕ} {a : Round} → post m₁ a ≡ resumed s j m p at_start → a.how ≡ Done → CarriesFrom s m₁ j p.other a
    resume_carries e t = let h = subst Ready (sym e) ready t in record { stands = h.0; going = t; few = omega (arith, h.1) }
