-- Words laid over the front of a list, the rest of which stays: no case of lengths anywhere. Assumes nothing.
use mathlib.Core.Path.{◌≡◌, refl, sym, ap, ◌∙◌}
use mathlib.Core.List.{List, [], ◌∷◌, ◌++◌}
use Prim.Native.Nat.{ℕ, zero, suc, ◌+◌, ◌≤◌}
use native.Mathlib.Nat.{add-zero}
use native.Mathlib.Omega.{arith}
use lib.ListN.{length, get_or, take, drop, set}
use lib.Seq.{sets}

abbrev pub over : List ℕ → List ℕ → List ℕ
over [] l = l
over (x ∷ p) [] = []
over (x ∷ p) (y ∷ l) = x ∷ over p l

pub length_over : (p l : List ℕ) → length (over p l) ≡ length l
length_over [] l = refl
length_over (x ∷ p) [] = refl
length_over (x ∷ p) (y ∷ l) = ap suc (length_over p l)

pub over_nil : (p : List ℕ) → over p [] ≡ []
over_nil [] = refl
over_nil (x ∷ p) = refl

pub over_append : (p u v : List ℕ) → over p (u ++ v) ≡ over (take (length u) p) u ++ over (drop (length u) p) v
over_append p [] v = refl
over_append [] (y ∷ u) v = refl
over_append (x ∷ p) (y ∷ u) v = ap (λ (l : List ℕ). x ∷ l) (over_append p u v)

pub take_over : (k : ℕ) (p l : List ℕ) → take k (over p l) ≡ over (take k p) (take k l)
take_over zero p l = refl
take_over (suc k) [] l = refl
take_over (suc k) (x ∷ p) [] = refl
take_over (suc k) (x ∷ p) (y ∷ l) = ap (λ (r : List ℕ). x ∷ r) (take_over k p l)

-- what is laid is read back
pub over_read : (p l : List ℕ) → length p ≤ length l → take (length p) (over p l) ≡ p
over_read [] l h = refl
over_read (x ∷ p) [] h = absurd (omega arith)
over_read (x ∷ p) (y ∷ l) h = ap (λ (r : List ℕ). x ∷ r) (over_read p l (omega arith))

-- what stands behind it stays
pub get_d_over : (p l : List ℕ) (i : ℕ) → length p ≤ i → get_or (over p l) i 0 ≡ get_or l i 0
get_d_over [] l i h = refl
get_d_over (x ∷ p) [] i h = refl
get_d_over (x ∷ p) (y ∷ l) zero h = absurd (omega arith)
get_d_over (x ∷ p) (y ∷ l) (suc i) h = get_d_over p l i (omega arith)

pub drop_over : (p l : List ℕ) → drop (length p) (over p l) ≡ drop (length p) l
drop_over [] l = refl
drop_over (x ∷ p) [] = refl
drop_over (x ∷ p) (y ∷ l) = drop_over p l

-- ---- a run of stores from the front
sets_cons : (y : ℕ) (l : List ℕ) (i : ℕ) (p : List ℕ) → sets (y ∷ l) (suc i) p ≡ y ∷ sets l i p
sets_cons y l i [] = refl
sets_cons y l i (a ∷ p) = sets_cons y (set l i a) (suc i) p

sets_nil : (i : ℕ) (p : List ℕ) → sets {A = ℕ} [] i p ≡ []
sets_nil i [] = refl
sets_nil i (a ∷ p) = sets_nil (suc i) p

pub sets_over : (p l : List ℕ) → sets l 0 p ≡ over p l
sets_over [] l = refl
sets_over (x ∷ p) [] = sets_nil 1 p
sets_over (x ∷ p) (y ∷ l) = sets_cons x l 0 p ∙ ap (λ (r : List ℕ). x ∷ r) (sets_over p l)

-- a run of stores behind another
pub sets-append : (p q l : List ℕ) (a : ℕ) → sets l a (p ++ q) ≡ sets (sets l a p) (a + length p) q
sets-append [] q l a = ap (λ (k : ℕ). sets l k q) (sym (add-zero a))
sets-append (x ∷ p) q l a =
    let e : suc a + length p ≡ a + suc (length p) = omega arith in
    sets-append p q (set l a x) (suc a) ∙ ap (λ (k : ℕ). sets (sets (set l a x) (suc a) p) k q) e
