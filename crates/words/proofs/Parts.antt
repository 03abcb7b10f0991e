-- A part that was lent and came back: lengths, reads, stores, and the parts before and behind it. Assumes nothing.
use mathlib.Core.Path.{◌≡◌, refl, sym, ap, ◌∙◌}
use mathlib.Core.Logic.{⊎_elim}
use mathlib.Core.List.{List, [], ◌∷◌, ◌++◌, append_assoc, append-nil}
use Prim.Native.Nat.{ℕ, zero, suc, ◌+◌, ◌-◌, ◌≤◌, ◌<◌, min}
use native.Mathlib.Nat.{le_trans}
use native.Mathlib.Numerals.{add-one}
use native.Mathlib.Omega.{arith}
use lib.ListN.{length, get_or, take, drop, set, length-append, length-take, length-drop, take-append-drop, drop_of_length-le}
use lib.Seq.{drop-append-add, take_all, take-take, take-nil, get_or-take, get_or-drop, length-take-le, take_at, drop_at, drop-drop, take-append-le, drop-append-le}
use borrow.Rule.Slice.PartMut.{put_mid, Post-is, mid_len, set_mid_at, put_same}
use Rattle.words.specs.Words.{part, splice}
use Rattle.words.proofs.Lists.{le_or_lt}

-- what comes back from a call that was lent the part, as the definitions say it
pub back : (a e : ℕ) (l : List ℕ) {p r : List ℕ} → a ≤ e → p ≡ r → put_mid a (e - a) l p ≡ splice l a e r
back a e l h q = rw (q, Post-is a e l h)

-- a part of the front of a list
front : (u r : List ℕ) (b f : ℕ) → b ≤ f → f ≤ length u → part (u ++ r) b f ≡ part u b f
front u r b f v w =
    rw (drop-append-le b u r (le_trans v w)) (take-append-le (f - b) (drop b u) r (rw length-drop (omega arith)))

-- ---- reads and stores of the part a..e are reads and stores at a + k
module _ (l : List ℕ) (a e : ℕ) (h : a ≤ e) (g : e ≤ length l) where
  pub get_d_part : (k : ℕ) → k < e - a → get_or (part l a e) k 0 ≡ get_or l (a + k) 0
  get_d_part k p = get_or-take (e - a) (drop a l) k 0 p ∙ get_or-drop a l k 0

  pub length_part : length (part l a e) ≡ e - a
  length_part = mid_len a e l g

  pub splice-part : splice l a e (part l a e) ≡ l
  splice-part = rw (← Post-is a e l h) (put_same a (e - a) l)

  pub splice-set : (k v : ℕ) → k < e - a → splice l a e (set (part l a e) k v) ≡ set l (a + k) v
  splice-set k v p = rw (← Post-is a e l h) (set_mid_at a (e - a) k l v (rw (mid_len a e l g) p))

  -- ---- after a splice, where what is put in is as long as what was there
  module _ (p : List ℕ) (z : length p ≡ e - a) where
    length_head : length (take a l) ≡ a
    length_head = length-take-le a l (le_trans h g)

    pub take-splice : take a (splice l a e p) ≡ take a l
    take-splice = take_at (take a l) (p ++ drop e l) a length_head

    pub drop-splice : drop e (splice l a e p) ≡ drop e l
    drop-splice =
        rw (← append_assoc (take a l) p (drop e l))
        (drop_at (take a l ++ p) (drop e l) e (rw (length-append, length_head, z) (omega arith)))

    pub length-splice : length (splice l a e p) ≡ length l
    length-splice = simp (length-append, length_head, z, length-drop) (omega arith)

    pub part-splice : part (splice l a e p) a e ≡ p
    part-splice = rw (drop_at (take a l) (p ++ drop e l) a length_head) (take_at p (drop e l) (e - a) z)

    pub splice-splice : (r : List ℕ) → splice (splice l a e p) a e r ≡ splice l a e r
    splice-splice r = rw (take-splice, drop-splice)

    pub part_before : (b f : ℕ) → b ≤ f → f ≤ a → part (splice l a e p) b f ≡ part l b f
    part_before b f v w =
        front (take a l) (p ++ drop e l) b f v (rw length_head w)
        ∙ sym (front (take a l) (drop a l) b f v (rw length_head w))
        ∙ ap (λ (k : List ℕ). part k b f) (take-append-drop a l)

    pub part-after : (b f : ℕ) → e ≤ b → part (splice l a e p) b f ≡ part l b f
    part-after b f w =
        let q : e + (b - e) ≡ b = omega arith in
        let t : drop b (splice l a e p) ≡ drop b l =
        ap (λ (k : ℕ). drop k (splice l a e p)) (sym q) ∙ sym (drop-drop (b - e) e (splice l a e p))
        ∙ ap (drop (b - e)) drop-splice ∙ drop-drop (b - e) e l ∙ ap (λ (k : ℕ). drop k l) q in
        ap (take (f - b)) t

-- ---- a loop that writes the words r over d from the front: after n turns the first n stand, and the rest is d
laid-suc : (n : ℕ) (r d : List ℕ) → n < length d → n < length r → set (take n r ++ drop n d) n (get_or r n 0) ≡ take (suc n) r ++ drop (suc n) d
laid-suc n r [] h g = absurd (omega arith)
laid-suc n [] (x ∷ d) h g = absurd (omega arith)
laid-suc zero (y ∷ r) (x ∷ d) h g = refl
laid-suc (suc n) (y ∷ r) (x ∷ d) h g = ap (λ (t : List ℕ). y ∷ t) (laid-suc n r d (omega arith) (omega arith))

pub laid_more : (n : ℕ) (r d : List ℕ) → n < length d → n < length r → set (take n r ++ drop n d) n (get_or r n 0) ≡ take (n + 1) r ++ drop (n + 1) d
laid_more n r d h g = rw (add-one n) (laid-suc n r d h g)

pub laid_all : (n : ℕ) (r d : List ℕ) → length d ≤ n → length r ≤ n → take n r ++ drop n d ≡ r
laid_all n r d h g = rw (drop_of_length-le d h, take_all n r g, append-nil)

-- ---- a memory that is written from the front, part by part: the words p stand, then a part is lent and comes back as x
pub grown : (m p x : List ℕ) (a e : ℕ) → length p ≡ a → a ≤ e → splice (p ++ drop a m) a e x ≡ (p ++ x) ++ drop e m
grown m p x a e h g =
    let q : e ≡ length p + (e - a) = omega arith in
    let w : a + (e - a) ≡ e = omega arith in
    let d : drop e (p ++ drop a m) ≡ drop e m =
    ap (λ (k : ℕ). drop k (p ++ drop a m)) q ∙ drop-append-add p (drop a m) (e - a) ∙ drop-drop (e - a) a m ∙ ap (λ (k : ℕ). drop k m) w in
    rw (take_at p (drop a m) a h, d, append_assoc p x (drop e m))

-- ---- the front and the rest of a front
pub take-least : (m n : ℕ) (l : List ℕ) → take m (take n l) ≡ take (min m n) l
take-least m n l =
    ⊎_elim
    (λ (h : m ≤ n). let e : min m n ≡ m = omega arith in take-take m n l h ∙ ap (λ (k : ℕ). take k l) (sym e))
    (λ (h : n < m). let e : min m n ≡ n = omega arith in take_all m (take n l) (rw length-take (omega arith)) ∙ ap (λ (k : ℕ). take k l) (sym e))
    (le_or_lt m n)

pub drop-take : (i n : ℕ) (l : List ℕ) → drop i (take n l) ≡ take (n - i) (drop i l)
drop-take zero n l = let e : n ≡ n - 0 = omega arith in ap (λ (k : ℕ). take k l) e
drop-take (suc i) zero l = let e : 0 ≡ 0 - suc i = omega arith in ap (λ (k : ℕ). take k (drop (suc i) l)) e
drop-take (suc i) (suc n) [] = sym (take-nil (suc n - suc i))
drop-take (suc i) (suc n) (x ∷ l) = let e : n - i ≡ suc n - suc i = omega arith in drop-take i n l ∙ ap (λ (k : ℕ). take k (drop i l)) e

pub take-join : (n : ℕ) (u v : List ℕ) → take n (u ++ v) ≡ take n u ++ take (n - length (take n u)) v
take-join zero u v = let e : 0 ≡ 0 - 0 = omega arith in ap (λ (k : ℕ). take k v) e
take-join (suc n) [] v = let e : suc n ≡ suc n - 0 = omega arith in ap (λ (k : ℕ). take k v) e
take-join (suc n) (x ∷ u) v =
    let e : n - length (take n u) ≡ suc n - suc (length (take n u)) = omega arith in
    ap (λ (l : List ℕ). x ∷ l) (take-join n u v ∙ ap (λ (k : ℕ). take n u ++ take k v) e)

-- what is left behind the first n, however many there are
pub drop_front : (n : ℕ) (l : List ℕ) → drop (length (take n l)) l ≡ drop n l
drop_front zero l = refl
drop_front (suc n) [] = refl
drop_front (suc n) (x ∷ l) = drop_front n l
