-- Letters laid: six words each, and one letter in out. Assumes nothing.
use mathlib.Core.Path.{◌≡◌, refl, sym, ap, ◌∙◌}
use mathlib.Core.List.{List, [], ◌∷◌, ◌++◌, append_assoc}
use Prim.Native.Nat.{ℕ, ◌+◌, ◌-◌, ◌*◌, ◌≤◌}
use native.Mathlib.Omega.{arith}
use lib.Dec.{leb}
use lib.ListN.{length, take, drop}
use lib.Seq.{sets, sets-eq, length-sets}
use borrow.Rule.Slice.PartMut.{put_mid}
use borrow.Author.Tests.{le-leb}
use Rattle.words.proofs.Lists.{both}
use Rattle.words.proofs.Parts.{back}
use Rattle.layout.specs.Numbers.{list_words}
use Rattle.showing.specs.declared.Shown.{Shown}
use Rattle.showing.specs.List.{laid_out}
use Rattle.listing.specs.Asked.{laid_at}

-- six words put in the place of those that stood there are a letter laid
pub six : (x : Shown) (l : List ℕ) (a : ℕ) (p : List ℕ) → p ≡ x.destination ∷ x.source ∷ x.place ∷ x.holder ∷ x.block ∷ x.body ∷ [] → a + list_words ≤ length l
    → put_mid a (a + list_words - a) l p ≡ sets l a (laid_out (x ∷ []))
unfolding laid_out
six x l a p e h =
    let w : List ℕ = x.destination ∷ x.source ∷ x.place ∷ x.holder ∷ x.block ∷ x.body ∷ [] in
    let q : sets l a w ≡ take a l ++ (w ++ drop (a + list_words) l) = sets-eq w l a h ∙ append_assoc (take a l) w (drop (a + list_words) l) in
    back a (a + list_words) l (omega arith) e ∙ sym q

-- ---- lists of letters as words
pub laid-append : (xs ys : List Shown) → laid_out (xs ++ ys) ≡ laid_out xs ++ laid_out ys
unfolding laid_out
laid-append [] ys = refl
laid-append (x ∷ xs) ys =
    ap (λ (l : List ℕ). x.destination ∷ x.source ∷ x.place ∷ x.holder ∷ x.block ∷ x.body ∷ l) (laid-append xs ys)

pub length-laid : (xs : List Shown) → length (laid_out xs) ≡ length xs * list_words
unfolding laid_out
length-laid [] = refl
length-laid (x ∷ xs) = omega (arith, length-laid xs)

-- ---- one letter in out
module _ (x : Shown) (n : ℕ) (out : List ℕ) where
  pub letter-room : n * list_words + list_words ≤ length out → sets out (n * list_words) (laid_out (x ∷ [])) ≡ laid_at x n out
  unfolding laid_at
  letter-room h = rw (le-leb (n * list_words + list_words) (length out) h)

  pub length_at : length (laid_at x n out) ≡ length out
  unfolding laid_at
  length_at =
      both (λ (l : List ℕ). length l ≡ length out) (leb (n * list_words + list_words) (length out)) (sets out (n * list_words) (laid_out (x ∷ []))) out
      (length-sets out (n * list_words) (laid_out (x ∷ [])))
      refl
