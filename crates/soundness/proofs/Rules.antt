-- The rules joined in the order in which the code looks at them. Assumes nothing.
use mathlib.Core.Path.{◌≡◌, refl, sym, ap, ap₂, ◌∙◌}
use mathlib.Core.Bool.{Bool, true, false, ◌&&◌}
use mathlib.Core.List.{List}
use Prim.Native.Nat.{ℕ, zero, suc, ◌≤◌, ◌<◌}
use native.Mathlib.Omega.{arith}
use lib.Dec.{eqb, leb}
use lib.ListN.{length, get_or}
use borrow.Author.Tests.{eq-eqb, ne_eqb, le-leb, lt-leb}
use Rattle.words.specs.Words.{every}
use Rattle.words.proofs.Lists.{and-true, and-false, every_at}
use Rattle.settings.specs.declared.Settings.{Settings}
use Rattle.std.specs.Prelude.{Some, None}
use Rattle.settings.specs.Range.{in_range, InRange}
use Rattle.settings.specs.Made.{made_settings}
use Rattle.settings.proofs.Laws.{range-true, told_refused, told_made}
use Rattle.layout.specs.Places.{nodes, memory_size}
use Rattle.layout.specs.Asked.{Sized}
use Rattle.layout.proofs.Fits.{nodes_fit}
use Rattle.tasks.specs.Table.{right_table}
use Rattle.sound.specs.Reading.{settings_in, turn_in, table_in}
use Rattle.sound.specs.Queues.{right_queues}
use Rattle.sound.specs.Positions.{right_position}
use Rattle.sound.specs.Blocks.{each_once, right_letters}
use Rattle.sound.specs.Sound.{right_size, sound}
use Rattle.sound.proofs.Tests.{and_assoc, and_cross, every_same}
use Rattle.places.specs.Given.{stands_right, Looked}
use Rattle.copies.specs.Copy.{copy_right, Lettered}
use Rattle.soundness.specs.Parts.{node_right, seated_right, Queued}
use Rattle.soundness.proofs.Places.{position_is}

every-and : (p q : ℕ → Bool) (n : ℕ) → every n (λ k. p k && q k) ≡ every n p && every n q
unfolding every
every-and p q zero = refl
every-and p q (suc n) = ap (λ (b : Bool). b && (p n && q n)) (every-and p q n) ∙ and_cross (every n p) (every n q) (p n) (q n)

swap : (a b c : Bool) → (a && b) && c ≡ a && (c && b)
swap true true true = refl
swap true true false = refl
swap true false true = refl
swap true false false = refl
swap false b c = refl

module _ (s : Settings) (memory : List ℕ) where
  -- the third to sixth rule, the letters of stage 2 compared last
  seated_is : seated_right s memory
      ≡ every nodes (right_queues s memory)
      && (every nodes (stands_right s memory) && (every nodes (node_right s memory) && every nodes (copy_right s memory)))
  unfolding seated_right node_right
  seated_is =
      ap (λ (b : Bool). every nodes (right_queues s memory) && b)
      (ap₂ ◌&&◌
      (every_same (right_position s memory) (λ j. stands_right s memory j && copy_right s memory j) nodes (λ j h. position_is s memory j) ∙ every-and (stands_right s memory) (copy_right s memory) nodes)
      (sym (every-and (each_once s memory) (right_letters s memory) nodes))
      ∙ swap (every nodes (stands_right s memory)) (every nodes (copy_right s memory)) (every nodes (λ i. each_once s memory i && right_letters s memory i)))

  pub seated_no : every nodes (right_queues s memory) && (every nodes (stands_right s memory) && every nodes (node_right s memory)) ≡ false → false ≡ seated_right s memory
  seated_no f =
      let e : every nodes (right_queues s memory) && (every nodes (stands_right s memory) && (every nodes (node_right s memory) && every nodes (copy_right s memory)))
      ≡ (every nodes (right_queues s memory) && (every nodes (stands_right s memory) && every nodes (node_right s memory))) && every nodes (copy_right s memory) = simp and_assoc in
      sym (seated_is ∙ e ∙ rw f)

  module _ (a : every nodes (right_queues s memory) ≡ true) where
    pub queued : Sized s memory → Queued s memory
    queued z = record { sized = z; queues = λ i h. every_at (right_queues s memory) nodes a i h }

    module _ (b : every nodes (stands_right s memory) ≡ true) where
      pub looked : Sized s memory → right_table (table_in memory) ≡ true → Looked s memory
      looked z t =
          record {
            sized = z;
            table = t;
            queues = λ i h. every_at (right_queues s memory) nodes a i h;
            positions = λ i h. every_at (stands_right s memory) nodes b i h;
          }

      module _ (c : every nodes (node_right s memory) ≡ true) where
        pub lettered : Sized s memory → right_table (table_in memory) ≡ true → Lettered s memory
        unfolding node_right
        lettered z t =
            record {
              looked = looked z t;
              letters = λ i h. (and-true (each_once s memory i) (right_letters s memory i) (every_at (λ i. each_once s memory i && right_letters s memory i) nodes c i h)).1;
            }

        pub seated_copies : (r : Bool) → r ≡ every nodes (copy_right s memory) → r ≡ seated_right s memory
        seated_copies r e = e ∙ sym (seated_is ∙ rw (a, b, c))

-- ---- all six
module _ (memory : List ℕ) where
  abbrev made : Settings
  made = settings_in memory

  sound_is : sound memory ≡ right_size memory && (right_table (table_in memory) && seated_right (settings_in memory) memory)
  unfolding sound seated_right
  sound_is = refl

  pub sound_short : length memory < 536 → false ≡ sound memory
  unfolding right_size
  sound_short h =
      let f = nodes_fit (settings_in memory) in
      sym (sound_is ∙ rw (ne_eqb (length memory) (memory_size (settings_in memory)) (λ e. omega arith), and-false (in_range (settings_in memory))))

  pub sound_refused : made_settings (get_or memory 0 0) (get_or memory 1 0) (get_or memory 2 0) (get_or memory 3 0) (get_or memory 4 0) ≡ None → false ≡ sound memory
  unfolding right_size
  sound_refused e = sym (sound_is ∙ rw (told_refused (get_or memory 0 0) (get_or memory 1 0) (get_or memory 2 0) (get_or memory 3 0) (get_or memory 4 0) e))

  module _ (s : Settings) (e : made_settings (get_or memory 0 0) (get_or memory 1 0) (get_or memory 2 0) (get_or memory 3 0) (get_or memory 4 0) ≡ Some s) where
    told : (in_range (settings_in memory) ≡ true) × (settings_in memory ≡ s)
    told = told_made (get_or memory 0 0) (get_or memory 1 0) (get_or memory 2 0) (get_or memory 3 0) (get_or memory 4 0) s e

    in_range_lem : in_range s ≡ true
    in_range_lem = rw told.1 at told.0

    pub made_range : InRange s
    made_range = range-true s in_range_lem

    pub sound-range : (length memory ≡ memory_size s) → Sized s memory
    sound-range l = record { range = made_range; long = l }

    by_made : sound memory ≡ (in_range s && (eqb (length memory) (memory_size s) && leb (turn_in memory) 5)) && (right_table (table_in memory) && seated_right s memory)
    unfolding right_size
    by_made = sound_is ∙ ap (λ (g : Settings). (in_range g && (eqb (length memory) (memory_size g) && leb (turn_in memory) 5)) && (right_table (table_in memory) && seated_right g memory)) told.1

    pub sound-size : (length memory ≡ memory_size s → ⊥) → false ≡ sound memory
    sound-size h = sym (by_made ∙ rw (ne_eqb (length memory) (memory_size s) h, and-false (in_range s)))

    pub sound-turn : length memory ≡ memory_size s → 5 < turn_in memory → false ≡ sound memory
    sound-turn l h = sym (by_made ∙ rw (eq-eqb (length memory) (memory_size s) l, lt-leb (turn_in memory) 5 h, and-false (in_range s)))

    pub sound-rest : length memory ≡ memory_size s → turn_in memory ≤ 5 → (r : Bool) → r ≡ right_table (table_in memory) && seated_right s memory → r ≡ sound memory
    sound-rest l h r q = q ∙ sym (by_made ∙ rw (in_range_lem, eq-eqb (length memory) (memory_size s) l, le-leb (turn_in memory) 5 h))
