-- The free list and the places of a node together: what the marks decide is the fifth and the sixth rule. Assumes nothing.
use Rattle.std.specs.Prelude.{None, Option, Some, is_some}
use mathlib.Core.Path.{◌≡◌, refl, sym, ap, ap₂, ◌∙◌}
use mathlib.Core.Bool.{Bool, true, false, ◌&&◌, false≢true}
use mathlib.Core.List.{List, [], ◌∷◌}
use Prim.Native.Nat.{ℕ, zero, suc, ◌-◌, ◌≤◌}
use native.Mathlib.Omega.{arith}
use lib.Dec.{eqb}
use lib.ListN.{length, get_or, replicate, get_or-replicate, get_or-eq_default}
use mathlib.Core.Logic.{⊎_elim}
use borrow.Author.Tests.{eqb-true}
use Rattle.words.specs.Words.{every, all}
use Rattle.words.specs.Count.{occurs}
use Rattle.words.proofs.Lists.{split, same?, and-true, and-false, every_at, all_head, le_or_lt, told_no, told_yes, option?}
use Rattle.words.proofs.Count.{occurs-append}
use Rattle.settings.specs.declared.Settings.{Settings}
use Rattle.layout.specs.Places.{first_free_at, node}
use Rattle.blocks.proofs.Rows.{within_in}
use Rattle.sound.specs.Reading.{table_in}
use Rattle.sound.specs.Letters.{chain_from, ends_well, right_letter}
use Rattle.sound.specs.Blocks.{chains, begun, standing, visits, each_once, right_letters}
use Rattle.sound.proofs.Tests.{and_assoc, and_yes, every_same}
use Rattle.visits.specs.Marks.{fresh, marked, ends_within, clean, Visited}
use Rattle.visits.specs.Letters.{Judged}
use Rattle.visits.proofs.Walks.{fresh-append, marked_append}
use Rattle.visits.proofs.Read.{ends-within}
use Rattle.places.specs.Given.{Looked, free_right, places_right, all_marked}
use Rattle.places.proofs.Counts.{Below, marked-count, once-fresh}

-- 1,025 bytes for the marks, none made yet
record Blank (marks : List ℕ) : Type 0 where
  long : length marks ≡ 1025
  none : (b : ℕ) → get_or marks b 0 ≡ 0

blank_start : Blank (replicate 1025 0)
blank_start =
    let z : List ℕ = replicate 1025 0 in
    record {
      long = refl;
      none = λ y. ⊎_elim (λ h. get_or-eq_default z 0 h) (λ h. get_or-replicate 1025 y 0 0 h) (le_or_lt 1025 y);
    }

-- ---- the free list
module _ (s : Settings) (l marks : List ℕ) (r : Option ℕ) (new : List ℕ) (v : Visited s l s.m (get_or l first_free_at 0) marks r new) where
  abbrev first : ℕ
  first = get_or l first_free_at 0

  same : free_right s l marks ≡ clean s l s.m (get_or l first_free_at 0) marks
  unfolding free_right clean ends_within ends_well
  same = refl

  apart : (n : ℕ) → Some n ≡ None → ⊥
  apart n z = let y : ◌≡◌ {A = ℕ} 0 1 = cc in omega arith

  free_bad : r ≡ None → Judged (free_right s l marks) (marked marks (chain_from s l (get_or l first_free_at 0))) false new
  free_bad e =
      let c : clean s l s.m first marks ≡ false = told_no (clean s l s.m first marks) (Some (s.m - length (chain_from s l first))) None r v.is (apart _) e in
      record { is = sym (same ∙ c); marks = λ f. absurd (false≢true f) }

  free_good : (left : ℕ) → r ≡ Some left → Judged (free_right s l marks) (marked marks (chain_from s l (get_or l first_free_at 0))) true new
  free_good left e =
      let c : clean s l s.m first marks ≡ true = (told_yes (clean s l s.m first marks) (Some (s.m - length (chain_from s l first))) None r v.is (Some left) (apart left) e).0 in
      record { is = sym (same ∙ c); marks = λ f. v.marks c }

  pub free_told : {b : Bool} → b ≡ is_some r → Judged (free_right s l marks) (marked marks (chain_from s l (get_or l first_free_at 0))) b new
  free_told e = rw e (option? r (λ left f. rw f (free_good left f)) (λ f. rw f (free_bad f)))

-- ---- the blocks that are visited are blocks
module _ (s : Settings) (l t : List ℕ) (i p : ℕ) where
  chains_in : (bs : List ℕ) → all (right_letter s l t i p) bs ≡ true → (x : ℕ) → 1 ≤ occurs x (chains s l bs) → (1 ≤ x) × (x ≤ s.m)
  unfolding chains right_letter
  chains_in [] e x o = absurd (omega arith)
  chains_in (b ∷ bs) e x o =
      let h = all_head (right_letter s l t i p) b bs e in
      same? (occurs x (chain_from s l b)) 0
      (λ q f. chains_in bs h.1 x (omega (arith, occurs-append x (chain_from s l b) (chains s l bs))))
      (λ q f. within_in s.m (chain_from s l b) x (ends-within s l b (and-true (ends_well s l b) _ h.0).0) (omega arith))

module _ (s : Settings) (memory : List ℕ) (i : ℕ) where
  standing_in : (n : ℕ) → every n (λ p. all (right_letter s (node s memory i) (table_in memory) i p) (begun s memory i p)) ≡ true
      → (x : ℕ) → 1 ≤ occurs x (standing s memory i n) → (1 ≤ x) × (x ≤ s.m)
  unfolding every standing
  standing_in zero e x o = absurd (omega arith)
  standing_in (suc n) e x o =
      let h = and-true (every n (λ p. all (right_letter s (node s memory i) (table_in memory) i p) (begun s memory i p))) _ e in
      same? (occurs x (standing s memory i n)) 0
      (λ q f. chains_in s (node s memory i) (table_in memory) i n (begun s memory i n) h.1 x (omega (arith, occurs-append x (standing s memory i n) (chains s (node s memory i) (begun s memory i n)))))
      (λ q f. standing_in n h.0 x (omega arith))

  abbrev free : List ℕ
  free = chain_from s (node s memory i) (get_or (node s memory i) first_free_at 0)

  abbrev counted : Bool
  counted = every s.m (λ b. eqb (occurs (suc b) (visits s memory i)) 1)

  module _ (zeroes : List ℕ) (blank : Blank zeroes) (small : s.m ≤ 1024) (ends : ends_well s (node s memory i) (get_or (node s memory i) first_free_at 0) ≡ true) (right : right_letters s memory i ≡ true) where
    visits_in : (x : ℕ) → 1 ≤ occurs x (visits s memory i) → (1 ≤ x) × (x ≤ s.m)
    unfolding visits right_letters
    visits_in x o =
        same? (occurs x free) 0
        (λ q f. standing_in 77 right x (omega (arith, occurs-append x free (standing s memory i 77))))
        (λ q f. within_in s.m free x (ends-within s (node s memory i) (get_or (node s memory i) first_free_at 0) ends) (omega arith))

    below : Below (length zeroes) (visits s memory i)
    below x o = let k = visits_in x o in let z = blank.long in omega arith

    -- each block once: none is met with a mark
    once : every s.m (λ b. eqb (occurs (suc b) (visits s memory i)) 1) ≡ true → fresh zeroes (visits s memory i) ≡ true
    once e =
        once-fresh zeroes (visits s memory i) below
        (λ y. let z = blank.none y in
        same? (occurs y (visits s memory i)) 0
        (λ q f. omega arith)
        (λ q f.
        let k = visits_in y (omega arith) in
        let d : suc (y - 1) ≡ y = omega arith in
        let o : occurs (suc (y - 1)) (visits s memory i) ≡ 1 = eqb-true _ 1 (every_at (λ b. eqb (occurs (suc b) (visits s memory i)) 1) s.m e (y - 1) (omega arith)) in
        let u : occurs y (visits s memory i) ≡ 1 = rw d at o in
        omega arith))

    -- the marks are the counts
    marks_counts : fresh zeroes (visits s memory i) ≡ true → all_marked s.m (marked zeroes (visits s memory i)) ≡ every s.m (λ b. eqb (occurs (suc b) (visits s memory i)) 1)
    unfolding all_marked
    marks_counts f =
        every_same (λ b. eqb (get_or (marked zeroes (visits s memory i)) (suc b) 0) 1) (λ b. eqb (occurs (suc b) (visits s memory i)) 1) s.m
        (λ b h.
        let e : get_or (marked zeroes (visits s memory i)) (suc b) 0 ≡ occurs (suc b) (visits s memory i) =
        omega (arith, marked-count zeroes (visits s memory i) below f (suc b), blank.none (suc b)) in
        ap (λ (n : ℕ). eqb n 1) e)

    both : every s.m (λ b. eqb (occurs (suc b) (visits s memory i)) 1) ≡ fresh zeroes (visits s memory i) && all_marked s.m (marked zeroes (visits s memory i))
    both =
        split (fresh zeroes (visits s memory i))
        (λ f. rw f (sym (marks_counts f)))
        (λ f. split counted (λ e. absurd (false≢true (sym f ∙ once e))) (λ e. rw f e))

  -- what the code decides is the two rules
  node_rule : (zeroes : List ℕ) → Blank zeroes → s.m ≤ 1024 → each_once s memory i && right_letters s memory i
      ≡ free_right s (node s memory i) zeroes
      && (places_right s memory i (marked zeroes (chain_from s (node s memory i) (get_or (node s memory i) first_free_at 0)))
      && all_marked s.m (marked (marked zeroes (chain_from s (node s memory i) (get_or (node s memory i) first_free_at 0))) (standing s memory i 77)))
  unfolding each_once free_right places_right visits
  node_rule zeroes blank small =
      split (ends_well s (node s memory i) (get_or (node s memory i) first_free_at 0))
      (λ e. split (right_letters s memory i)
      (λ f. rw (e, f) (and_yes counted ∙ both zeroes blank small e f ∙ regroup))
      (λ f. rw (e, f) (and-false counted ∙ sym (and-false (fresh zeroes free)))))
      (λ e. rw e)
    where
      regroup : fresh zeroes (visits s memory i) && all_marked s.m (marked zeroes (visits s memory i))
          ≡ fresh zeroes free && (fresh (marked zeroes free) (standing s memory i 77) && all_marked s.m (marked (marked zeroes free) (standing s memory i 77)))
      regroup =
          ap₂ ◌&&◌ (fresh-append zeroes free (standing s memory i 77)) (ap (all_marked s.m) (marked_append zeroes free (standing s memory i 77)))
          ∙ and_assoc (fresh zeroes free) (fresh (marked zeroes free) (standing s memory i 77)) (all_marked s.m (marked (marked zeroes free) (standing s memory i 77)))

-- ---- by the tests on the way
module _ (s : Settings) (memory : List ℕ) (i : ℕ) (g : Looked s memory) where
  abbrev stretch : List ℕ
  stretch = node s memory i

  abbrev none : List ℕ
  none = replicate 1025 0

  rule : each_once s memory i && right_letters s memory i
      ≡ free_right s (node s memory i) (replicate 1025 0)
      && (places_right s memory i (marked (replicate 1025 0) (chain_from s (node s memory i) (get_or (node s memory i) first_free_at 0)))
      && all_marked s.m (marked (marked (replicate 1025 0) (chain_from s (node s memory i) (get_or (node s memory i) first_free_at 0))) (standing s memory i 77)))
  rule = node_rule s memory i (replicate 1025 0) blank_start g.sized.range.m.high

  pub free_no : free_right s (node s memory i) (replicate 1025 0) ≡ false → false ≡ each_once s memory i && right_letters s memory i
  free_no f = sym (rule ∙ rw f)

  module _ (f : free_right s (node s memory i) (replicate 1025 0) ≡ true) (mid : List ℕ) (e : mid ≡ marked (replicate 1025 0) (chain_from s (node s memory i) (get_or (node s memory i) first_free_at 0))) where
    rest : each_once s memory i && right_letters s memory i ≡ places_right s memory i mid && all_marked s.m (marked mid (standing s memory i 77))
    rest = rule ∙ rw (f, e)

    pub places_no : places_right s memory i mid ≡ false → false ≡ each_once s memory i && right_letters s memory i
    places_no h = sym (rest ∙ rw h)

    pub node_is : places_right s memory i mid ≡ true → (new : List ℕ) → new ≡ marked mid (standing s memory i 77) → (r : Bool) → r ≡ all_marked s.m new → r ≡ each_once s memory i && right_letters s memory i
    node_is h new d r q = q ∙ ap (all_marked s.m) d ∙ sym (rest ∙ rw h)
