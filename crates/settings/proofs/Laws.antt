-- Settings that pass the test are in range, and settings in range pass it. Assumes nothing.
use mathlib.Core.Path.{◌≡◌, refl}
use mathlib.Core.Bool.{true, false}
use Prim.Native.Nat.{ℕ}
use lib.Dec.{leb}
use borrow.Author.Tests.{leb-true, le-leb}
use Rattle.words.proofs.Lists.{and-true, and-join, told_none, told_some}
use Rattle.settings.specs.Limits.{Limits, within, block_words, node_blocks, queue_length}
use Rattle.settings.specs.Range.{in_range, Within, InRange}
use Rattle.settings.specs.Made.{settings_of, made_settings}
use Rattle.settings.specs.declared.Setting.{Setting}
use Rattle.settings.specs.declared.Settings.{Settings}
use Rattle.std.specs.Prelude.{Some, None}

pub within-true : (l : Limits) (x : ℕ) → within l x ≡ true → Within l x
unfolding within
within-true l x e =
    let h = and-true (leb l.least x) (leb x l.greatest) e in
    record { low = leb-true l.least x h.0; high = leb-true x l.greatest h.1 }

pub true-within : (l : Limits) (x : ℕ) → Within l x → within l x ≡ true
unfolding within
true-within l x w = and-join (leb l.least x) (leb x l.greatest) (le-leb l.least x w.low) (le-leb x l.greatest w.high)

pub range-true : (s : Settings) → in_range s ≡ true → InRange s
unfolding in_range
range-true s e =
    let h₁ = and-true (within block_words s.b) _ e in
    let h₂ = and-true (within node_blocks s.m) _ h₁.1 in
    let h₃ = and-true (within queue_length s.s) _ h₂.1 in
    let h₄ = and-true (within queue_length s.a) (within queue_length s.t) h₃.1 in
    record {
      b = within-true block_words s.b h₁.0;
      m = within-true node_blocks s.m h₂.0;
      s = within-true queue_length s.s h₃.0;
      a = within-true queue_length s.a h₄.0;
      t = within-true queue_length s.t h₄.1;
    }

pub true-range : (s : Settings) → InRange s → in_range s ≡ true
unfolding in_range
true-range s r =
    rw (true-within block_words s.b r.b, true-within node_blocks s.m r.m, true-within queue_length s.s r.s, true-within queue_length s.a r.a) (true-within queue_length s.t r.t)

-- ---- the constructor's answer, by the first setting that is out of range
module _ (B M S A T : ℕ) where
  pub refused_b : within block_words B ≡ false → None ≡ made_settings B M S A T
  unfolding made_settings in_range
  refused_b e = rw e

  module _ (b : within block_words B ≡ true) where
    pub refused_m : within node_blocks M ≡ false → None ≡ made_settings B M S A T
    unfolding made_settings in_range
    refused_m e = rw (b, e)

    module _ (m : within node_blocks M ≡ true) where
      pub refused_s : within queue_length S ≡ false → None ≡ made_settings B M S A T
      unfolding made_settings in_range
      refused_s e = rw (b, m, e)

      module _ (s : within queue_length S ≡ true) where
        pub refused_a : within queue_length A ≡ false → None ≡ made_settings B M S A T
        unfolding made_settings in_range
        refused_a e = simp (b, m, s, e)

        module _ (a : within queue_length A ≡ true) where
          pub refused_t : within queue_length T ≡ false → None ≡ made_settings B M S A T
          unfolding made_settings in_range
          refused_t e = simp (b, m, s, a, e)

          pub made_all : within queue_length T ≡ true → Some (settings_of B M S A T) ≡ made_settings B M S A T
          unfolding made_settings in_range
          made_all t = simp (b, m, s, a, t)

-- the five made are the settings of their numbers; each goes by its letter, as a byte
pub made_of : {B M S A T : ℕ} {b : Setting 66} {m : Setting 77} {s : Setting 83} {a : Setting 65} {t : Setting 84}
    → record { value = B } ≡ b → record { value = M } ≡ m → record { value = S } ≡ s → record { value = A } ≡ a → record { value = T } ≡ t
    → Some (settings_of B M S A T) ≡ made_settings B M S A T
    → Some (settings_of b.value m.value s.value a.value t.value) ≡ made_settings B M S A T
made_of e₀ e₁ e₂ e₃ e₄ h = rw (← e₀, ← e₁, ← e₂, ← e₃, ← e₄) h

-- ---- what the constructor's answer tells
module _ (B M S A T : ℕ) where
  pub told_refused : made_settings B M S A T ≡ None → in_range (settings_of B M S A T) ≡ false
  unfolding made_settings
  told_refused e = told_none (in_range (settings_of B M S A T)) (settings_of B M S A T) _ refl e

  pub told_made : (g : Settings) → made_settings B M S A T ≡ Some g → (in_range (settings_of B M S A T) ≡ true) × (settings_of B M S A T ≡ g)
  unfolding made_settings
  told_made g e = told_some (in_range (settings_of B M S A T)) (settings_of B M S A T) _ refl g e
