-- How often a block stands in the chains that a memory spells, place by place; sums and empty lists. Assumes nothing.
use mathlib.Core.Path.{◌≡◌, refl, sym, ap, ap₂, ◌∙◌}
use mathlib.Core.List.{List, [], ◌∷◌, map}
use mathlib.Core.Logic.{⊎_elim}
use Prim.Native.Nat.{ℕ, zero, suc, ◌+◌, ◌≤◌, ◌<◌}
use native.Mathlib.Omega.{arith}
use lib.ListN.{length, get_or}
use Rattle.words.specs.Count.{occurs, sum}
use Rattle.words.proofs.Count.{occurs-append}
use Rattle.words.proofs.Lists.{le_or_lt}
use Rattle.settings.specs.declared.Settings.{Settings}
use Rattle.settings.specs.Range.{InRange}
use Rattle.layout.specs.Places.{node}
use Rattle.sound.specs.Letters.{chain_from}
use Rattle.sound.specs.Blocks.{chains, begun, standing, visits}
use Rattle.machine.specs.Machine.{Letter, gap, many}
use Rattle.machine.specs.Spelled.{letter_from, shown}
use Rattle.machine.specs.Core.{Held}
use Rattle.machine.proofs.Places.{shown-transit, begun-low, begun_task}
use Rattle.machine.proofs.Spelled.{needs_none, occurs-chains, occurs-live}

-- ---- sums and lists
pub sum_same : (n : ℕ) (f g : ℕ → ℕ) → ((p : ℕ) → p < n → f p ≡ g p) → sum n f ≡ sum n g
unfolding sum
sum_same zero f g h = refl
sum_same (suc n) f g h = omega (arith, h n (omega arith), sum_same n f g (λ p l. h p (omega arith)))

pub sum_none : (n : ℕ) (f : ℕ → ℕ) → ((p : ℕ) → p < n → f p ≡ 0) → sum n f ≡ 0
unfolding sum
sum_none zero f h = refl
sum_none (suc n) f h = omega (arith, h n (omega arith), sum_none n f (λ p l. h p (omega arith)))

pub sum_last : (n : ℕ) (f : ℕ → ℕ) → sum (suc n) f ≡ sum n f + f n
unfolding sum
sum_last n f = refl

pub empty : (l : List ℕ) → length l ≡ 0 → l ≡ []
empty [] h = refl
empty (x ∷ l) h = absurd (omega arith)

pub gap-held : (s : Settings) → InRange s → (R : ℕ → List ℕ) → Held s R gap
gap-held s r R = record { leads = refl; reads = refl; blocks = sym (needs_none s r) }

-- the letters that the words spell at place p of node i
abbrev pub letters_at : Settings → List ℕ → ℕ → ℕ → List Letter
letters_at s memory i p = map (letter_from s (node s memory i)) (shown s memory i p)

module _ (s : Settings) (memory : List ℕ) (i : ℕ) where
  abbrev l : List ℕ
  l = node s memory i

  abbrev fr : List ℕ
  fr = chain_from s (node s memory i) (get_or (node s memory i) 0 0)

  count-place : (x p : ℕ) → p < 77 → occurs x (chains s l (begun s memory i p)) ≡ many x (letters_at s memory i p)
  count-place x p g =
      ⊎_elim
      (λ a. rw (begun_task s memory i p a g) (occurs-live s l x (shown s memory i p)))
      (λ a. rw (begun-low s memory i p a) (occurs-chains s l x (shown s memory i p)))
      (le_or_lt 13 p)

  count-standing : (x n : ℕ) → n ≤ 77 → occurs x (standing s memory i n) ≡ sum n (λ p. many x (letters_at s memory i p))
  unfolding standing sum
  count-standing x zero g = refl
  count-standing x (suc n) g =
      occurs-append x (standing s memory i n) (chains s l (begun s memory i n))
      ∙ ap₂ (λ (a b : ℕ). a + b) (count-standing x n (omega arith)) (count-place x n (omega arith))

  pub count-visits : (x : ℕ) → occurs x (visits s memory i) ≡ occurs x fr + sum 78 (λ p. many x (letters_at s memory i p))
  unfolding visits
  count-visits x =
      let z : many x (letters_at s memory i 77) ≡ 0 = ap (λ (xs : List ℕ). many x (map (letter_from s l) xs)) (shown-transit s memory i) in
      occurs-append x fr (standing s memory i 77)
      ∙ omega (arith, count-standing x 77 (omega arith), sum_last 77 (λ p. many x (letters_at s memory i p)))
