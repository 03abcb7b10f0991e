-- What the tests of a position decide. Assumes nothing.
use mathlib.Core.Path.{◌≡◌, refl, sym, ◌∙◌}
use mathlib.Core.Bool.{Bool, false, ◌&&◌}
use mathlib.Core.List.{List}
use mathlib.Core.Logic.{◌⊎◌, inl, inr}
use Prim.Native.Nat.{ℕ, ◌≤◌, ◌<◌}
use native.Mathlib.Omega.{arith}
use lib.Dec.{eqb, leb}
use lib.ListN.{length}
use borrow.Author.Tests.{eq-eqb, ne_eqb, le-leb, lt-leb}
use Rattle.words.proofs.Lists.{same?, and-false}
use Rattle.settings.specs.declared.Settings.{Settings}
use Rattle.layout.specs.Places.{nodes, node, send_at}
use Rattle.queues.specs.declared.Kind.{Kind}
use Rattle.queues.specs.Queue.{send_kind, items, Queue}
use Rattle.queues.proofs.Views.{length-contents}
use Rattle.sound.specs.Reading.{stage_of, other_of, held_of, send_items}
use Rattle.sound.specs.Positions.{names_other, holds_copy, right_position}
use Rattle.sound.proofs.Given.{send-queue}
use Rattle.sound.proofs.Tests.{and_assoc, and_yes}
use Rattle.places.specs.Given.{stands_right}
use Rattle.copies.specs.Copy.{copy_right}
use Rattle.soundness.specs.Parts.{is_other, Queued}

module _ (s : Settings) (memory : List ℕ) (j other : ℕ) where
  pub other-high : 5 < other → false ≡ is_other s memory j other
  unfolding is_other
  other-high h = rw (lt-leb other 5 h)

  pub other_own : other ≡ j → false ≡ is_other s memory j other
  unfolding is_other
  other_own e = rw (eq-eqb other j e) (sym (and-false (leb other 5)))

  module _ (g : Queued s memory) (small : j < nodes) (h : other ≤ 5) where
    its_queue : Queue (send_kind s) (node s memory other) (send_at s j)
    its_queue = send-queue s memory g.sized other (omega arith) (g.queues other (omega arith)) j small

    module _ (k : Kind) (q : ℕ) (m : List ℕ) (ek : k ≡ send_kind s) (eq : q ≡ send_at s j) (em : m ≡ node s memory other) where
      pub other-queue : Queue k m q
      other-queue = rw (ek, eq, em) its_queue

      pub other_is : (other ≡ j → ⊥) → (n : ℕ) → n ≡ items k m q → leb 1 n ≡ is_other s memory j other
      unfolding is_other
      other_is d n e =
          let f : n ≡ length (send_items s memory other j) = e ∙ rw (eq, em) (sym (length-contents (send_kind s) (node s memory other) (send_at s j) its_queue)) in
          rw (le-leb other 5 h, ne_eqb other j d, f)

module _ (s : Settings) (memory : List ℕ) (j : ℕ) where
  names_is : names_other s memory j ≡ is_other s memory j (other_of memory j)
  unfolding names_other is_other
  names_is = refl

  -- what the rule asks at each stage
  pub stand_still : stage_of memory j ≡ 0 → stands_right s memory j ≡ eqb (other_of memory j) 0 && eqb (held_of memory j) 0
  unfolding stands_right
  stand_still e = rw (eq-eqb (stage_of memory j) 0 e)

  pub stand_holds : stage_of memory j ≡ 2 → stands_right s memory j ≡ is_other s memory j (other_of memory j) && (leb 1 (held_of memory j) && leb (held_of memory j) s.m)
  unfolding stands_right
  stand_holds e = rw (e, names_is)

  pub stand_free : (stage_of memory j ≡ 1) ⊎ (stage_of memory j ≡ 3) → stands_right s memory j ≡ is_other s memory j (other_of memory j) && eqb (held_of memory j) 0
  unfolding stands_right
  stand_free (inl e) = rw (e, names_is)
  stand_free (inr e) = rw (e, names_is)

  pub stand_high : 3 < stage_of memory j → stands_right s memory j ≡ false
  unfolding stands_right
  stand_high h = rw (ne_eqb (stage_of memory j) 0 (λ e. omega arith), lt-leb (stage_of memory j) 3 h)

  -- THE FOURTH RULE is what the positions show and the comparison of letters
  pub position_is : right_position s memory j ≡ stands_right s memory j && copy_right s memory j
  unfolding right_position stands_right copy_right
  position_is =
      same? (stage_of memory j) 0
      (λ z e. rw (e, ne_eqb (stage_of memory j) 2 (λ y. omega arith)) (sym (and_yes (eqb (other_of memory j) 0 && eqb (held_of memory j) 0))))
      (λ z e. same? (stage_of memory j) 2
      (λ y f. rw (e, f) (four (leb (stage_of memory j) 3) (names_other s memory j) (leb 1 (held_of memory j)) (leb (held_of memory j) s.m) (holds_copy s memory j)))
      (λ y f. rw (e, f) (sym (and_yes (leb (stage_of memory j) 3 && (names_other s memory j && eqb (held_of memory j) 0))))))
    where
      four : (a b c d h : Bool) → a && (b && (c && (d && h))) ≡ (a && (b && (c && d))) && h
      four a b c d h = simp and_assoc
