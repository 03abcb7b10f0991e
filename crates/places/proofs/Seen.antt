-- Places gone over one after the other: what the marks decide of those seen is what the rules ask of them. Assumes nothing.
use mathlib.Core.Path.{◌≡◌, refl, sym, ap, ap₂, ◌∙◌}
use mathlib.Core.Bool.{Bool, true, false, ◌&&◌, false≢true}
use mathlib.Core.List.{List}
use Prim.Native.Nat.{ℕ, zero, suc, ◌+◌, ◌<◌}
use native.Mathlib.Numerals.{add-one}
use Rattle.words.specs.Words.{every, all}
use Rattle.words.proofs.Lists.{every-not}
use Rattle.settings.specs.declared.Settings.{Settings}
use Rattle.layout.specs.Places.{node}
use Rattle.sound.specs.Reading.{table_in}
use Rattle.sound.specs.Letters.{right_letter}
use Rattle.sound.specs.Blocks.{chains, begun, standing, right_letters}
use Rattle.sound.proofs.Tests.{and_cross, every_more}
use Rattle.visits.specs.Marks.{fresh, marked}
use Rattle.visits.specs.Letters.{Judged}
use Rattle.visits.proofs.Walks.{fresh-append, marked_append}
use Rattle.places.specs.Given.{standing_from, range_right, places_right}

module _ (s : Settings) (memory : List ℕ) (i : ℕ) where
  -- the letters at place p are right
  abbrev pub letters_at : ℕ → Bool
  letters_at p = all (right_letter s (node s memory i) (table_in memory) i p) (begun s memory i p)

  abbrev pub chains_at : ℕ → List ℕ
  chains_at p = chains s (node s memory i) (begun s memory i p)

  -- and none of their blocks has a mark
  abbrev pub place_right : List ℕ → ℕ → Bool
  place_right marks p = letters_at p && fresh marks (chains_at p)

  module _ (old : List ℕ) where
    -- place p is right after those before it are marked
    abbrev right_at : ℕ → Bool
    right_at p = place_right (marked old (standing s memory i p)) p

    joined : (n : ℕ) → every n right_at ≡ every n letters_at && fresh old (standing s memory i n)
    unfolding every standing fresh
    joined zero = refl
    joined (suc n) =
        ap₂ ◌&&◌ (joined n) refl
        ∙ and_cross (every n letters_at) (fresh old (standing s memory i n)) (letters_at n) (fresh (marked old (standing s memory i n)) (chains_at n))
        ∙ ap (λ (b : Bool). (every n letters_at && letters_at n) && b) (sym (fresh-append old (standing s memory i n) (chains_at n)))

    rule : every 77 right_at ≡ places_right s memory i old
    unfolding places_right right_letters
    rule = joined 77

    -- the places below p are right, and the marks are those of their blocks
    pub record Seen (marks : List ℕ) (p : ℕ) : Type 0 where
      pub right : every p right_at ≡ true
      pub due : marks ≡ marked old (standing s memory i p)

    pub seen_none : Seen old 0
    unfolding every standing marked
    seen_none = record { right = refl; due = refl }

    module _ (marks : List ℕ) (p : ℕ) (w : Seen marks p) where
      pub seen_all : p ≡ 77 → Judged (places_right s memory i old) (marked old (standing s memory i 77)) true marks
      seen_all q =
          record {
            is = sym (rw q at w.right) ∙ rule;
            marks = λ f. w.due ∙ ap (λ (n : ℕ). marked old (standing s memory i n)) q;
          }

      module _ (r : Bool) (new : List ℕ) (v : Judged (place_right marks p) (marked marks (chains_at p)) r new) where
        is_at : r ≡ right_at p
        is_at = v.is ∙ ap (λ (m : List ℕ). place_right m p) w.due

        pub seen_bad : p < 77 → r ≡ false → Judged (places_right s memory i old) (marked old (standing s memory i 77)) false new
        seen_bad h f = record { is = sym (every-not right_at 77 p h (sym is_at ∙ f)) ∙ rule; marks = λ z. absurd (false≢true z) }

        pub seen_next : r ≡ true → Seen new (p + 1)
        unfolding standing
        seen_next f =
            record {
              right = every_more right_at p w.right (sym is_at ∙ f);
              due = rw (add-one p) (v.marks f ∙ ap (λ (m : List ℕ). marked m (chains_at p)) w.due ∙ sym (marked_append old (standing s memory i p) (chains_at p)));
            }

    -- the hand alone is the range of one place
    module _ (r : Bool) (new : List ℕ) where
      pub hand_range : Judged (place_right old 0) (marked old (chains_at 0)) r new → Judged (range_right s memory i old 0 1) (marked old (standing_from s memory i 0 1)) r new
      unfolding range_right every standing_from
      hand_range v = record { is = v.is; marks = v.marks }

      pub range-hand : Judged (range_right s memory i old 0 1) (marked old (standing_from s memory i 0 1)) r new → Judged (place_right old 0) (marked old (chains_at 0)) r new
      unfolding range_right every standing_from
      range-hand v = record { is = v.is; marks = v.marks }
