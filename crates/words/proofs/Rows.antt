-- Rows: where they start, that different places are different, and what a store or a lent row changes. Assumes nothing.
use mathlib.Core.Path.{◌≡◌, sym, ap, ◌∙◌, fun_ext}
use mathlib.Core.Logic.{⊎_elim}
use mathlib.Core.List.{List, [], ◌∷◌}
use Prim.Native.Nat.{ℕ, zero, suc, ◌+◌, ◌-◌, ◌*◌, ◌≤◌, ◌<◌}
use native.Mathlib.Nat.{suc-mul, zero-mul, add-zero, zero-add}
use native.Mathlib.Omega.{arith}
use lib.ListN.{length, get_or, set, take, drop, length-drop}
use lib.Seq.{drop-set-lt, drop-set-add, take-set-le, take-set-lt, length-take-le, get_or-take, get_or-drop, sets}
use Rattle.words.specs.Words.{splice}
use Rattle.words.specs.Rows.{start, row}
use Rattle.words.proofs.Lists.{put, put_same, put-put, same?, le_or_lt}
use Rattle.words.proofs.Parts.{part-splice, part_before, part-after}

module _ (width : ℕ → ℕ) where
  -- a row ends before every later row starts
  pub start_lt : (i j : ℕ) → i < j → start width i + width i ≤ start width j
  unfolding start
  start_lt i zero h = absurd (omega arith)
  start_lt i (suc j) h =
      same? i j (λ q e. rw q (omega arith)) (λ q e. omega (arith, start_lt i j (omega arith)))

  -- rows of one width: the only place where a product comes in
  pub start_add : (r w k : ℕ) → ((j : ℕ) → j < k → width (r + j) ≡ w) → start width (r + k) ≡ start width r + k * w
  unfolding start
  start_add r w zero h = rw add-zero (omega (arith, zero-mul w))
  start_add r w (suc k) h =
      let e : r + suc k ≡ suc (r + k) = omega arith in
      rw e (omega (arith, start_add r w k (λ j l. h j (omega arith)), h k (omega arith), suc-mul k w))

  -- DIFFERENT PLACES ARE DIFFERENT: word i of row r and word k of row q are one word only where r is q and i is k
  pub place_same : (r i q k : ℕ) → i < width r → k < width q → start width r + i ≡ start width q + k → (r ≡ q) × (i ≡ k)
  place_same r i q k h g e =
      same? r q
      (λ s t. let d : start width r ≡ start width q = ap (start width) s in (s, omega arith))
      (λ s t. ⊎_elim
      (λ l. let b = start_lt r q (omega arith) in absurd (omega arith))
      (λ l. let b = start_lt q r l in absurd (omega arith))
      (le_or_lt r q))

  -- every place of the first n rows lies before row n
  pub place_in : (n r i : ℕ) → r < n → i < width r → start width r + i < start width n
  place_in n r i h g = omega (arith, start_lt r n h)

  pub length-row : (l : List ℕ) (r : ℕ) → start width r + width r ≤ length l → length (row width l r) ≡ width r
  unfolding row
  length-row l r h = length-take-le (width r) (drop (start width r) l) (rw length-drop (omega arith))

  -- a word read from a row is read from the words
  pub get_or-row : (l : List ℕ) (r i : ℕ) → i < width r → get_or (row width l r) i 0 ≡ get_or l (start width r + i) 0
  unfolding row
  get_or-row l r i h = get_or-take (width r) (drop (start width r) l) i 0 h ∙ get_or-drop (start width r) l i 0

  -- ONE STORE: a store at word i of row r is a store in that row, and no other row changes
  pub row-set : (l : List ℕ) (r i v : ℕ) → i < width r → row width (set l (start width r + i) v) ≡ put (row width l) r (set (row width l r) i v)
  unfolding row
  row-set l r i v h =
      fun_ext
      (λ k. same? k r
      (λ q e. rw (e, q, drop-set-add) (take-set-lt (width r) (drop (start width r) l) i v h))
      (λ q e. rw e (other k q)))
    where
      other : (k : ℕ) → (k ≡ r → ⊥) → take (width k) (drop (start width k) (set l (start width r + i) v)) ≡ take (width k) (drop (start width k) l)
      other k q =
          ⊎_elim
          (λ le.
          let s = start_lt k r (omega arith) in
          let e : start width r + i ≡ start width k + (start width r + i - start width k) = omega arith in
          rw e (rw drop-set-add (take-set-le (width k) (drop (start width k) l) (start width r + i - start width k) v (omega arith))))
          (λ lt. let s = start_lt r k lt in rw (drop-set-lt (start width k) l (start width r + i) v (omega arith)))
          (le_or_lt k r)

  -- a run of stores within a row
  pub row-sets : (l : List ℕ) (r i : ℕ) (p : List ℕ) → i + length p ≤ width r → row width (sets l (start width r + i) p) ≡ put (row width l) r (sets (row width l r) i p)
  row-sets l r i [] h = fun_ext (λ k. same? k r (λ q e. rw (e, q)) (λ q e. rw e))
  row-sets l r i (v ∷ p) h =
      let e : suc (start width r + i) ≡ start width r + suc i = omega arith in
      rw e
      (row-sets (set l (start width r + i) v) r (suc i) p (omega arith)
      ∙ ap (λ (R : ℕ → List ℕ). put R r (sets (R r) (suc i) p)) (row-set l r i v (omega arith))
      ∙ put-put (row width l) r (set (row width l r) i v) (sets (put (row width l) r (set (row width l r) i v) r) (suc i) p)
      ∙ ap (λ (x : List ℕ). put (row width l) r (sets x (suc i) p)) (put_same (row width l) r (set (row width l r) i v)))

-- A LENT ROW: what a row that was lent whole leaves is that row put anew
module _ (width : ℕ → ℕ) (l : List ℕ) (r : ℕ) (p : List ℕ) (g : start width r + width r ≤ length l) (z : length p ≡ width r) where
  pub row-splice : row width (splice l (start width r) (start width r + width r) p) ≡ put (row width l) r p
  unfolding row
  row-splice =
      fun_ext
      (λ k. same? k r
      (λ q t.
      rw (t, q)
      (ap (λ (n : ℕ). take n (drop (start width r) (splice l (start width r) (start width r + width r) p))) (sym d₀)
      ∙ part-splice l (start width r) (start width r + width r) h g p z'))
      (λ q t. rw t (other k q)))
    where
      d₀ : start width r + width r - start width r ≡ width r
      d₀ = omega arith

      h : start width r ≤ start width r + width r
      h = omega arith

      z' : length p ≡ start width r + width r - start width r
      z' = omega arith

      other : (k : ℕ) → (k ≡ r → ⊥)
          → take (width k) (drop (start width k) (splice l (start width r) (start width r + width r) p)) ≡ take (width k) (drop (start width k) l)
      other k q =
          let d : start width k + width k - start width k ≡ width k = omega arith in
          ap (λ (n : ℕ). take n (drop (start width k) (splice l (start width r) (start width r + width r) p))) (sym d)
          ∙ ⊎_elim
          (λ le. part_before l (start width r) (start width r + width r) h g p z' (start width k) (start width k + width k) (omega arith) (start_lt width k r (omega arith)))
          (λ lt. part-after l (start width r) (start width r + width r) h g p z' (start width k) (start width k + width k) (start_lt width r k lt))
          (le_or_lt k r)
          ∙ ap (λ (n : ℕ). take n (drop (start width k) l)) d

-- WORDS m THAT DIFFER FROM l IN ROW r ALONE, which is p: what is read and stored at place i of the row is read and stored at place 0 + i of p
pub record But (width : ℕ → ℕ) (l : List ℕ) (r : ℕ) (m p : List ℕ) : Type 0 where
  pub rows : row width m ≡ put (row width l) r p

module _ (width : ℕ → ℕ) (l : List ℕ) (r : ℕ) where
  pub but_none : But width l r l (row width l r)
  but_none = record { rows = fun_ext (λ k. same? k r (λ q e. rw (e, q)) (λ q e. rw e)) }

  module _ {m p : List ℕ} (b : But width l r m p) (i : ℕ) (h : i < width r) where
    pub but_get : get_or m (start width r + i) 0 ≡ get_or p (0 + i) 0
    but_get =
        sym (get_or-row width m r i h)
        ∙ ap (λ (R : ℕ → List ℕ). get_or (R r) i 0) b.rows
        ∙ ap (λ (x : List ℕ). get_or x i 0) (put_same (row width l) r p)
        ∙ ap (λ (n : ℕ). get_or p n 0) (sym (zero-add i))

    pub but_set : (v : ℕ) → But width l r (set m (start width r + i) v) (set p (0 + i) v)
    but_set v = record {
      rows = row-set width m r i v h
          ∙ ap (λ (R : ℕ → List ℕ). put R r (set (R r) i v)) b.rows
          ∙ put-put (row width l) r p (set (put (row width l) r p r) i v)
          ∙ ap (λ (x : List ℕ). put (row width l) r (set x i v)) (put_same (row width l) r p)
          ∙ ap (λ (n : ℕ). put (row width l) r (set p n v)) (sym (zero-add i));
    }
