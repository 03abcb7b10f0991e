-- What each path of a visit decides, and marks of lists joined. Assumes nothing.
use Rattle.std.specs.Prelude.{None, Option, Some}
use mathlib.Core.Path.{◌≡◌, refl, sym, ap, ◌∙◌}
use mathlib.Core.Bool.{Bool, true, false, ◌&&◌, false≢true}
use mathlib.Core.List.{List, [], ◌∷◌, ◌++◌}
use Prim.Native.Nat.{ℕ, zero, suc, ◌+◌, ◌-◌, ◌*◌, ◌≤◌, ◌<◌}
use native.Mathlib.Nat.{mul-le-mul_right}
use native.Mathlib.Omega.{arith}
use lib.Dec.{eqb, leb}
use lib.ListN.{length, get_or, set, length-set}
use borrow.Author.Tests.{ne_eqb, le-leb, lt-leb}
use Rattle.words.specs.Words.{all}
use Rattle.words.proofs.Lists.{and-false}
use Rattle.settings.specs.declared.Settings.{Settings}
use Rattle.layout.specs.Places.{block_at, link_at}
use Rattle.layout.specs.Asked.{Stretch}
use Rattle.layout.proofs.Fits.{block-fits, node-small}
use Rattle.letters.proofs.Steps.{link_from_lem}
use Rattle.blocks.specs.Chain.{link, list, after}
use Rattle.blocks.proofs.Steps.{list_step, list_none}
use Rattle.sound.proofs.Tests.{and_assoc}
use Rattle.visits.specs.Marks.{fresh, marked, ends_within, clean, Visited, Linked, told_by, Walked}

-- ---- lists joined
pub fresh-append : (marks l m : List ℕ) → fresh marks (l ++ m) ≡ fresh marks l && fresh (marked marks l) m
unfolding fresh marked
fresh-append marks [] m = refl
fresh-append marks (x ∷ l) m =
    ap (λ (b : Bool). eqb (get_or marks x 0) 0 && b) (fresh-append (set marks x 1) l m)
    ∙ sym (and_assoc (eqb (get_or marks x 0) 0) (fresh (set marks x 1) l) (fresh (marked (set marks x 1) l) m))

pub marked_append : (marks l m : List ℕ) → marked marks (l ++ m) ≡ marked (marked marks l) m
unfolding marked
marked_append marks [] m = refl
marked_append marks (x ∷ l) m = marked_append (set marks x 1) l m

pub length_marked : (marks l : List ℕ) → length (marked marks l) ≡ length marks
unfolding marked
length_marked marks [] = refl
length_marked marks (x ∷ l) = length_marked (set marks x 1) l ∙ length-set marks x 1

-- ---- the paths of a visit
module _ (s : Settings) (l : List ℕ) (n b : ℕ) (marks : List ℕ) where
  visited_bad : (new : List ℕ) → clean s l n b marks ≡ false → Visited s l n b marks None new
  visited_bad new e = record { is = rw e; marks = λ t. absurd (false≢true (sym e ∙ t)) }

  pub visit_end : b ≡ 0 → Visited s l n b marks (Some n) marks
  unfolding clean ends_within all after fresh marked
  visit_end z =
      let e = list_none s l n b z in
      let c : clean s l n b marks ≡ true = rw (e, z) in
      record { is = rw (c, e) (ap Some (omega arith)); marks = λ t. rw e }

  pub visit_none : (new : List ℕ) → (b ≡ 0 → ⊥) → n ≡ 0 → Visited s l n b marks None new
  unfolding clean ends_within all after list
  visit_none new h z = visited_bad new (rw (z, ne_eqb b 0 h))

  module _ (h : b ≡ 0 → ⊥) (g : n ≡ 0 → ⊥) where
    step : list s l n b ≡ b ∷ list s l (n - 1) (link s l b)
    step = list_step s l n b (omega arith) h

    pub visit_above : (new : List ℕ) → s.m < b → Visited s l n b marks None new
    unfolding clean ends_within all
    visit_above new k = visited_bad new (rw (step, lt-leb b s.m k, and-false (leb 1 b)))

    pub visit_marked : (new : List ℕ) → (get_or marks b 0 ≡ 0 → ⊥) → Visited s l n b marks None new
    unfolding clean fresh
    visit_marked new k = visited_bad new (rw (step, ne_eqb (get_or marks b 0) 0 k) (and-false (ends_within s l n b)))

    module _ (k : b ≤ s.m) (z : get_or marks b 0 ≡ 0) where
      clean_step : clean s l n b marks ≡ clean s l (n - 1) (link s l b) (set marks b 1)
      unfolding clean ends_within all after fresh
      clean_step = rw (step, le-leb 1 b (omega arith), le-leb b s.m k, z)

      pub visit_step : (next : ℕ) (r : Option ℕ) (new : List ℕ) → next ≡ link s l b → Visited s l (n - 1) next (set marks b 1) r new → Visited s l n b marks r new
      unfolding marked
      visit_step next r new e v =
          let w : Visited s l (n - 1) (link s l b) (set marks b 1) r new = rw e at v in
          let d : n - length (list s l n b) ≡ n - 1 - length (list s l (n - 1) (link s l b)) = ap (λ (x : List ℕ). n - length x) step ∙ omega arith in
          record {
            is = rw (clean_step, d) w.is;
            marks = λ t. rw step (w.marks (sym clean_step ∙ t));
          }

-- ---- a walk by numbers
pub told_bad : (r : ℕ) → r ≡ 0 → told_by r ≡ None
unfolding told_by
told_bad r e = rw e

pub told_ended : (r : ℕ) → (r ≡ 0 → ⊥) → told_by r ≡ Some (r - 1)
unfolding told_by
told_ended zero g = absurd (g refl)
told_ended (suc k) g = ap Some (omega arith)

module _ (words : List ℕ) (before width m n b : ℕ) (marks : List ℕ) where
  pub walk_end : b ≡ 0 → Walked words before width m n b marks (n + 1) marks
  walk_end z = λ s st eb ew em. rw (told_ended (n + 1) (λ y. omega arith)) (rw (ended) (visit_end s words n b marks z))
    where
      ended : n + 1 - 1 ≡ n
      ended = omega arith

  module _ (some : b ≡ 0 → ⊥) where
    pub walk_none : n ≡ 0 → Walked words before width m n b marks 0 marks
    unfolding told_by
    walk_none z = λ s st eb ew em. visit_none s words n b marks marks some z

    module _ (h : n ≡ 0 → ⊥) where
      pub walk_above : m < b → Walked words before width m n b marks 0 marks
      unfolding told_by
      walk_above k = λ s st eb ew em. visit_above s words n b marks some h marks (omega arith)

      pub walk_marked : (get_or marks b 0 ≡ 0 → ⊥) → Walked words before width m n b marks 0 marks
      unfolding told_by
      walk_marked k = λ s st eb ew em. visit_marked s words n b marks some h marks k

      module _ (k : b ≤ m) (z : get_or marks b 0 ≡ 0) where
        goes : (s : Settings) → Stretch s words → before ≡ block_at s 1 - 1 → width ≡ s.b → get_or words (before + b * width) 0 ≡ link s words b
        goes s st eb ew =
            let r = st.range.b.low in
            let e : s.b - 1 + 1 ≡ s.b = omega arith in
            let f : before + b * width ≡ link_at s b = rw (eb, ew) (ap (λ (k : ℕ). block_at s 1 - 1 + b * k) (sym e) ∙ link_from_lem s st.range b (omega arith)) in
            ap (λ (i : ℕ). get_or words i 0) f

        pub walk_next : (r : ℕ) (left : List ℕ) → Walked words before width m (n - 1) (get_or words (before + b * width) 0) (set marks b 1) r left → Walked words before width m n b marks r left
        walk_next r left v = λ s st eb ew em.
            visit_step s words n b marks some h (omega arith) z (get_or words (before + b * width) 0) (told_by r) left (goes s st eb ew) (v s st eb ew em)

  pub link_fits : Linked words before width m → b ≤ m → (before + b * width < length words) × (before + b * width ≤ 85274)
  link_fits g h =
      let k : b * width ≤ m * width = mul-le-mul_right width h in
      let x = g.inside in
      let y = g.small in
      (omega arith, omega arith)

-- ---- a visit by a walk
module _ (s : Settings) (l : List ℕ) (st : Stretch s l) (before : ℕ) (e : before ≡ block_at s 1 - 1) where
  pub linked : Linked l before s.b s.m
  linked =
      let r = st.range in
      let z = st.long in
      let low = r.m.low in
      let w = r.b.low in
      let d : s.b - 1 + 1 ≡ s.b = omega arith in
      let f : before + s.m * s.b ≡ link_at s s.m = rw e (ap (λ (k : ℕ). block_at s 1 - 1 + s.m * k) (sym d) ∙ link_from_lem s r s.m low) in
      let fits = block-fits s s.m low (omega arith) in
      let small = node-small s r in
      record { inside = omega arith; small = omega arith; few = r.m.high }

  pub visited_as : (n b : ℕ) (old : List ℕ) (r : ℕ) (new : List ℕ) (w : Option ℕ) → told_by r ≡ w → Walked l before s.b s.m n b old r new → Visited s l n b old w new
  visited_as n b old r new w q v = rw q at (v s st e refl refl)
