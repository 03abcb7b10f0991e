-- What a turn of the loops of `gather` and `lay` does, and what the stores of `close` and `make_room` make. Assumes nothing.
use mathlib.Core.Path.{◌≡◌, refl, sym, ap, ◌∙◌}
use mathlib.Core.List.{List, [], ◌∷◌, ◌++◌}
use Prim.Native.Nat.{ℕ, zero, suc, ◌+◌, ◌<◌}
use native.Mathlib.Nat.{zero-add}
use native.Mathlib.Numerals.{add-one}
use native.Mathlib.Omega.{arith}
use lib.ListN.{get_or, set, length-set, length-append, replicate, length-replicate}
use lib.Seq.{get_or-set_same, get_or-set_other, get_or_at}
use borrow.Author.Tests.{eq-eqb, ne_eqb}
use Rattle.words.proofs.Lists.{same?}
use Rattle.queues.specs.declared.Kind.{Kind}
use Rattle.settings.specs.declared.Settings.{Settings}
use Rattle.layout.specs.Places.{items_word, gap_word}
use Rattle.queues.specs.Queue.{slot_at, item_at, run, items, contents, task_kind}
use Rattle.queues.specs.Items.{live}
use Rattle.queues.proofs.Ring.{get_or_snoc, run_more}
use Rattle.queues.proofs.Items.{live_snoc, live-gap}
use Rattle.gaps.specs.Close.{laid, closed, cramped, roomy}
use Rattle.gaps.specs.Row.{Row}

-- ---- laying
pub laid_more : (k : Kind) (l : List ℕ) (q : ℕ) (xs : List ℕ) (n : ℕ) {m : List ℕ} {at : ℕ} → m ≡ laid k l q xs n → at ≡ slot_at k l q n
    → set m at (get_or xs n 0) ≡ laid k l q xs (n + 1)
unfolding laid
laid_more k l q xs n e p = rw (e, p, add-one n)

-- what is laid is read from the row
pub laid_same : (k : Kind) (l : List ℕ) (q : ℕ) (xs ys : List ℕ) (n : ℕ) → ((j : ℕ) → get_or xs j 0 ≡ get_or ys j 0) → laid k l q xs n ≡ laid k l q ys n
unfolding laid
laid_same k l q xs ys zero h = refl
laid_same k l q xs ys (suc n) h = rw (laid_same k l q xs ys n h, h n)

-- ---- the row
zeroes : (n j : ℕ) → ◌≡◌ {A = ℕ} (get_or (replicate n 0) j 0) 0
zeroes zero j = refl
zeroes (suc n) zero = refl
zeroes (suc n) (suc j) = zeroes n j

pub row_none : {row : List ℕ} → row ≡ replicate 255 0 → Row (live []) row 0
unfolding live
row_none {row} e = record { size = rw e (length-replicate {A = ℕ} 255 0); many = refl; holds = λ j. rw e (zeroes 255 j) }

row_more : (p : List ℕ) {row : List ℕ} {n : ℕ} (x : ℕ) → Row p row n → n < 255 → Row (p ++ x ∷ []) (set row n x) (n + 1)
row_more p {row} {n} x r h =
    record {
      size = rw length-set r.size;
      many = rw length-append (omega (arith, r.many));
      holds = λ j. same? j n
          (λ e t. rw e (get_or-set_same row n x 0 (omega (arith, r.size)) ∙ sym (get_or_at p x [] 0 n (sym r.many))))
          (λ e t. get_or-set_other row n j x 0 e ∙ r.holds j ∙ sym (get_or_snoc p x j (λ z. e (z ∙ sym r.many))));
    }

-- ---- a turn of `gather`
module _ (k : Kind) (l : List ℕ) (q i : ℕ) {row : List ℕ} {n x : ℕ} (r : Row (live (run k l q 0 i)) row n) (p : x ≡ item_at k l q i) where
  next : run k l q 0 (i + 1) ≡ run k l q 0 i ++ x ∷ []
  next = run_more k l q 0 i ∙ ap (λ (j : ℕ). run k l q 0 i ++ item_at k l q j ∷ []) (zero-add i) ∙ rw p

  pub gather_some : (x ≡ 0 → ⊥) → n < 255 → Row (live (run k l q 0 (i + 1))) (set row n x) (n + 1)
  gather_some h b = rw (next, live_snoc (run k l q 0 i) x h) (row_more (live (run k l q 0 i)) x r b)

  pub gather_zero : x ≡ 0 → Row (live (run k l q 0 (i + 1))) row n
  gather_zero h = rw (next, live-gap (run k l q 0 i) x h) r

-- ---- what the stores of `close` make, and what `make_room` leaves
pub closed_is : (s : Settings) (l : List ℕ) (q : ℕ) {k : Kind} {row m : List ℕ} {n : ℕ} → k ≡ task_kind s → Row (live (contents k l q)) row n
    → m ≡ laid k l q row k.slots → set (set m (q + items_word) n) (q + gap_word) 0 ≡ closed s l q
unfolding closed
closed_is s l q {k} {row} {m} {n} e r f =
    let g : Row (live (contents (task_kind s) l q)) row n = rw e at r in
    rw (f, e, laid_same (task_kind s) l q row (live (contents (task_kind s) l q)) s.t g.holds, g.many)

module _ (s : Settings) (l : List ℕ) (q : ℕ) where
  pub roomy_short : (items (task_kind s) l q ≡ s.t → ⊥) → l ≡ roomy s l q
  unfolding roomy cramped
  roomy_short h = rw (ne_eqb (items (task_kind s) l q) s.t h)

  pub roomy-whole : items (task_kind s) l q ≡ s.t → (get_or l (q + gap_word) 0 ≡ 1 → ⊥) → l ≡ roomy s l q
  unfolding roomy cramped
  roomy-whole e h = rw (eq-eqb (items (task_kind s) l q) s.t e, ne_eqb (get_or l (q + gap_word) 0) 1 h)

  pub roomy-closed : items (task_kind s) l q ≡ s.t → get_or l (q + gap_word) 0 ≡ 1 → closed s l q ≡ roomy s l q
  unfolding roomy cramped
  roomy-closed e h = rw (eq-eqb (items (task_kind s) l q) s.t e, eq-eqb (get_or l (q + gap_word) 0) 1 h)
