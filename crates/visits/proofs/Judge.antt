-- What the tests of a letter decide together. Assumes nothing.
use Rattle.std.specs.Prelude.{Option}
use mathlib.Core.Path.{◌≡◌, refl, sym, ap, ap₂, ◌∙◌}
use mathlib.Core.Bool.{Bool, true, false, ◌&&◌, false≢true}
use mathlib.Core.List.{List, [], ◌∷◌, ◌++◌, append-nil, append_assoc}
use Prim.Native.Nat.{ℕ, ◌-◌, ◌≤◌}
use native.Mathlib.Omega.{arith}
use lib.Dec.{eqb}
use lib.ListN.{length, get_or}
use Rattle.words.specs.Words.{all}
use Rattle.words.proofs.Lists.{and-true, and-false, told_no, told_yes}
use Rattle.settings.specs.declared.Settings.{Settings}
use Rattle.layout.specs.Asked.{Stretch}
use Rattle.tasks.specs.Table.{node_of, is_bound}
use Rattle.std.specs.Prelude.{Some, None}
use Rattle.queues.specs.Items.{live}
use Rattle.queues.proofs.Items.{live_cons}
use Rattle.blocks.proofs.Moves.{length-list}
use Rattle.sound.specs.Letters.{chain_from, ends_well, words_from, right_length, right_header}
use Rattle.sound.specs.Blocks.{chains}
use Rattle.sound.proofs.Tests.{and_assoc, and_yes, and_cross, all_append}
use Rattle.visits.specs.declared.Asks.{Asks}
use Rattle.visits.specs.Marks.{fresh, marked, ends_within, clean, Visited}
use Rattle.letters.specs.Letter.{word}
use Rattle.visits.proofs.Read.{head_word}
use Rattle.visits.specs.Letters.{Whole, Readable, is_on, is_asked, meets, letter_right, letters_right, Judged}
use Rattle.visits.proofs.Walks.{fresh-append, marked_append}

-- ---- the header
module _ (t ws : List ℕ) where
  pub header_is : right_header t ws ≡ is_on t (get_or ws 0 0) (get_or ws 1 0) && is_on t (get_or ws 2 0) (get_or ws 3 0)
  unfolding right_header is_on
  header_is = sym (and_assoc (is_bound t (get_or ws 0 0)) (eqb (node_of t (get_or ws 0 0)) (get_or ws 1 0)) _)

-- the tests of the header in the letter that block b begins, its first four words at hand
module _ (s : Settings) (l : List ℕ) (b : ℕ) (r : Readable s l b) (t : List ℕ) (asks : Asks) (source from task to : ℕ) where
  pub header_told : source ≡ word s l b 0 → from ≡ word s l b 1 → task ≡ word s l b 2 → to ≡ word s l b 3
      → right_header t (words_from s l b) && meets asks (words_from s l b) ≡ (is_on t source from && is_on t task to) && is_asked asks from task to
  header_told e f g h =
      let w = head_word s l b r in
      rw (e ∙ w 0 (omega arith), f ∙ w 1 (omega arith), g ∙ w 2 (omega arith), h ∙ w 3 (omega arith), header_is t (words_from s l b)) refl

-- ---- a chain that was visited whole, with so many blocks left
module _ (s : Settings) (l : List ℕ) (b : ℕ) (marks : List ℕ) (r : Option ℕ) (new : List ℕ) (v : Visited s l s.m b marks r new) (left : ℕ) (e : r ≡ Some left) where
  known : (clean s l s.m b marks ≡ true) × (s.m - length (chain_from s l b) ≡ left)
  known =
      let w = told_yes (clean s l s.m b marks) (Some (s.m - length (chain_from s l b))) None r v.is (Some left) (λ z. apart z) e in
      let q = w.1 in
      (w.0, cc)
    where
      apart : Some left ≡ None → ⊥
      apart z = let y : ◌≡◌ {A = ℕ} 0 1 = cc in omega arith

  its_ends : ends_well s l b ≡ true
  unfolding clean ends_within ends_well
  its_ends = (and-true (ends_well s l b) (fresh marks (chain_from s l b)) known.0).0

  its_fresh : fresh marks (chain_from s l b) ≡ true
  unfolding clean ends_within ends_well
  its_fresh = (and-true (ends_well s l b) (fresh marks (chain_from s l b)) known.0).1

  pub left_least : left ≤ s.m
  left_least = let k = known.1 in omega arith

  pub its_whole : Stretch s l → Whole s l b (s.m - left)
  its_whole st = let k = known.1 in record { stretch = st; ends = its_ends; count = omega (arith, length-list s l s.m b) }

  pub its_readable : Stretch s l → right_length s l b ≡ true → Readable s l b
  its_readable st f = record { stretch = st; ends = its_ends; long = f }

-- ---- letters joined
module _ (s : Settings) (l t : List ℕ) (asks : Asks) where
  pub chains-append : (xs ys : List ℕ) → chains s l (xs ++ ys) ≡ chains s l xs ++ chains s l ys
  unfolding chains
  chains-append [] ys = refl
  chains-append (a ∷ xs) ys =
      ap (λ (c : List ℕ). chain_from s l a ++ c) (chains-append xs ys) ∙ sym (append_assoc (chain_from s l a) (chains s l xs) (chains s l ys))

  module _ (marks : List ℕ) where
    pub right_none : letters_right s l t asks marks [] ≡ true
    unfolding letters_right all chains fresh
    right_none = refl

    pub marks_none : marked marks (chains s l []) ≡ marks
    unfolding chains marked
    marks_none = refl

    pub right_append : (xs ys : List ℕ) → letters_right s l t asks marks (xs ++ ys) ≡ letters_right s l t asks marks xs && letters_right s l t asks (marked marks (chains s l xs)) ys
    unfolding letters_right
    right_append xs ys =
        ap₂ ◌&&◌ (all_append (letter_right s l t asks) xs ys) (ap (fresh marks) (chains-append xs ys) ∙ fresh-append marks (chains s l xs) (chains s l ys))
        ∙ and_cross (all (letter_right s l t asks) xs) (all (letter_right s l t asks) ys) (fresh marks (chains s l xs)) (fresh (marked marks (chains s l xs)) (chains s l ys))

    pub marks-append : (xs ys : List ℕ) → marked marks (chains s l (xs ++ ys)) ≡ marked (marked marks (chains s l xs)) (chains s l ys)
    marks-append xs ys = ap (marked marks) (chains-append xs ys) ∙ marked_append marks (chains s l xs) (chains s l ys)

    -- one letter
    module _ (b : ℕ) where
      pub gap_judged : b ≡ 0 → Judged (letters_right s l t asks marks (live (b ∷ []))) (marked marks (chains s l (live (b ∷ [])))) true marks
      unfolding live
      gap_judged z = rw z (record { is = sym right_none; marks = λ e. sym marks_none })

      module _ (h : b ≡ 0 → ⊥) where
        one : live (b ∷ []) ≡ b ∷ []
        unfolding live
        one = live_cons b [] h

        right_one : letters_right s l t asks marks (live (b ∷ [])) ≡ letter_right s l t asks b && fresh marks (chain_from s l b)
        unfolding letters_right all chains
        right_one = rw (one, append-nil (chain_from s l b), and_yes (letter_right s l t asks b))

        marks_one : marked marks (chains s l (live (b ∷ []))) ≡ marked marks (chain_from s l b)
        unfolding chains
        marks_one = rw (one, append-nil (chain_from s l b))

        judged_no : (new : List ℕ) → letter_right s l t asks b && fresh marks (chain_from s l b) ≡ false
            → Judged (letters_right s l t asks marks (live (b ∷ []))) (marked marks (chains s l (live (b ∷ [])))) false new
        judged_no new e = record { is = sym (right_one ∙ e); marks = λ f. absurd (false≢true f) }

        module _ (r : Option ℕ) (new : List ℕ) (v : Visited s l s.m b marks r new) where
          pub letter_bad : r ≡ None → Judged (letters_right s l t asks marks (live (b ∷ []))) (marked marks (chains s l (live (b ∷ [])))) false new
          unfolding letter_right clean ends_within ends_well
          letter_bad e =
              let c : clean s l s.m b marks ≡ false = told_no (clean s l s.m b marks) (Some (s.m - length (chain_from s l b))) None r v.is (λ z. apart z) e in
              judged_no new (both (ends_well s l b) _ (fresh marks (chain_from s l b)) c)
            where
              apart : {n : ℕ} → Some n ≡ None → ⊥
              apart z = let y : ◌≡◌ {A = ℕ} 0 1 = cc in omega arith

              both : (a x f : Bool) → a && f ≡ false → (a && x) && f ≡ false
              both true x f e = rw e (and-false x)
              both false x f e = refl

          module _ (left : ℕ) (e : r ≡ Some left) where
            pub letter_short : (x : Bool) → x ≡ right_length s l b → x ≡ false → Judged (letters_right s l t asks marks (live (b ∷ []))) (marked marks (chains s l (live (b ∷ [])))) x new
            unfolding letter_right
            letter_short x q f = rw f (judged_no new (rw (its_ends s l b marks r new v left e, sym q ∙ f)))

            pub letter_head : right_length s l b ≡ true → (d : Bool) → d ≡ right_header t (words_from s l b) && meets asks (words_from s l b)
                → Judged (letters_right s l t asks marks (live (b ∷ []))) (marked marks (chains s l (live (b ∷ [])))) d new
            unfolding letter_right
            letter_head f d q =
                record {
                  is = sym (right_one ∙ rw (its_ends s l b marks r new v left e, f, its_fresh s l b marks r new v left e, and_yes (right_header t (words_from s l b) && meets asks (words_from s l b))) (sym q));
                  marks = λ y. v.marks (known s l b marks r new v left e).0 ∙ sym marks_one;
                }
