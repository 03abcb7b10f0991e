-- Chains over a node's rows R, where row 76 + b is block b, B words, its last word the link: what they lead through, their words, and what leaves them alone. Assumes nothing.
--     Leads, text_in     from b through the blocks l to e; the words of the blocks l
--     Same, leads_same, text_same     THE FRAME: rows that are the same at the blocks of a chain have the same chain and words
--     leads-queue, text-queue     a store in the head or in a queue
--     set_link, set_first, leads_end     a link set anew, the first free block set anew; a chain turned to another end
use mathlib.Core.Path.{◌≡◌, refl, sym, ap, ap₂, ◌∙◌}
use mathlib.Core.List.{List, [], ◌∷◌, ◌++◌}
use Prim.Native.Nat.{ℕ, ◌+◌, ◌-◌, ◌*◌, ◌≤◌, ◌<◌}
use native.Mathlib.Nat.{suc-mul, zero-mul}
use native.Mathlib.Omega.{arith}
use lib.ListN.{length, get_or, set, take, length-set, length-append}
use lib.Seq.{get_or-set_same, take-set-le, length-take-le}
use Rattle.words.specs.Count.{occurs}
use Rattle.words.proofs.Count.{hit_self}
use Rattle.words.proofs.Lists.{put, put_same, put_other, same?}

module _ (B : ℕ) (R : ℕ → List ℕ) where
  abbrev pub link_in : ℕ → ℕ
  link_in b = get_or (R (76 + b)) (B - 1) 0

  -- from b through the blocks l to e
  abbrev pub Leads : ℕ → List ℕ → ℕ → Type 0
  Leads b [] e = b ≡ e
  Leads b (x ∷ l) e = (b ≡ x) × Leads (link_in x) l e

  -- the words of the blocks l, links left out
  abbrev pub text_in : List ℕ → List ℕ
  text_in [] = []
  text_in (x ∷ l) = take (B - 1) (R (76 + x)) ++ text_in l

-- the first free block
abbrev pub first_in : (ℕ → List ℕ) → ℕ
first_in R = get_or (R 0) 0 0

-- the rows of the blocks l are the same
unfoldable pub Same : (ℕ → List ℕ) → (ℕ → List ℕ) → List ℕ → Type 0
Same R R' l = (b : ℕ) → 1 ≤ occurs b l → R' (76 + b) ≡ R (76 + b)

module _ (R R' : ℕ → List ℕ) (x : ℕ) (l : List ℕ) (h : Same R R' (x ∷ l)) where
  same_head : R' (76 + x) ≡ R (76 + x)
  unfolding Same
  same_head = h x (omega (arith, hit_self x))

  same_tail : Same R R' l
  unfolding Same
  same_tail = λ b o. h b (omega arith)

-- ---- THE FRAME
module _ (B : ℕ) (R R' : ℕ → List ℕ) where
  pub leads_same : (b : ℕ) (l : List ℕ) (e : ℕ) → Same R R' l → Leads B R b l e → Leads B R' b l e
  leads_same b [] e h k = k
  leads_same b (x ∷ l) e h k =
      (k.0, rw (ap (λ (w : List ℕ). get_or w (B - 1) 0) (same_head R R' x l h)) (leads_same (link_in B R x) l e (same_tail R R' x l h) k.1))

  pub text_same : (l : List ℕ) → Same R R' l → text_in B R' l ≡ text_in B R l
  text_same [] h = refl
  text_same (x ∷ l) h = ap₂ (λ (u v : List ℕ). u ++ v) (ap (take (B - 1)) (same_head R R' x l h)) (text_same l (same_tail R R' x l h))

  -- a chain goes by links alone, and its words by the words alone
  pub leads_links : ((b : ℕ) → link_in B R' b ≡ link_in B R b) → (b : ℕ) (l : List ℕ) (e : ℕ) → Leads B R b l e → Leads B R' b l e
  leads_links h b [] e k = k
  leads_links h b (x ∷ l) e k = (k.0, rw (h x) (leads_links h (link_in B R x) l e k.1))

  pub text-words : ((b : ℕ) → take (B - 1) (R' (76 + b)) ≡ take (B - 1) (R (76 + b))) → (l : List ℕ) → text_in B R' l ≡ text_in B R l
  text-words h [] = refl
  text-words h (x ∷ l) = ap₂ (λ (u v : List ℕ). u ++ v) (h x) (text-words h l)

-- a row put anew that is no block of l
pub same_put : (R : ℕ → List ℕ) (r : ℕ) (w : List ℕ) (l : List ℕ) → ((b : ℕ) → 1 ≤ occurs b l → 76 + b ≡ r → ⊥) → Same R (put R r w) l
unfolding Same
same_put R r w l h = λ b o. put_other R r w (76 + b) (h b o)

-- a row of the head or of a queue put anew leaves every chain and its words as they were
module _ (B : ℕ) (R : ℕ → List ℕ) (r : ℕ) (w : List ℕ) (queue : r < 77) (l : List ℕ) (low : (x : ℕ) → 1 ≤ occurs x l → 1 ≤ x) where
  queue_same : Same R (put R r w) l
  queue_same = same_put R r w l (λ b o e. omega (arith, low b o))

  pub leads-queue : (b e : ℕ) → Leads B R b l e → Leads B (put R r w) b l e
  leads-queue b e h = leads_same B R (put R r w) b l e queue_same h

  pub text-queue : text_in B (put R r w) l ≡ text_in B R l
  text-queue = text_same B R (put R r w) l queue_same

pub same_trans : (R₁ R₂ R₃ : ℕ → List ℕ) (l : List ℕ) → Same R₁ R₂ l → Same R₂ R₃ l → Same R₁ R₃ l
unfolding Same
same_trans R₁ R₂ R₃ l h k = λ b o. k b o ∙ h b o

module _ (B : ℕ) (R : ℕ → List ℕ) where
  pub leads-append : (b : ℕ) (xs : List ℕ) (m : ℕ) (ys : List ℕ) (e : ℕ) → Leads B R b xs m → Leads B R m ys e → Leads B R b (xs ++ ys) e
  leads-append b [] m ys e h k = rw h k
  leads-append b (x ∷ xs) m ys e h k = (h.0, leads-append (link_in B R x) xs m ys e h.1 k)

  -- a chain cut before y
  pub leads-split : (b : ℕ) (xs : List ℕ) (y : ℕ) (ys : List ℕ) (e : ℕ) → Leads B R b (xs ++ y ∷ ys) e → Leads B R b xs y × Leads B R (link_in B R y) ys e
  leads-split b [] y ys e h = (h.0, h.1)
  leads-split b (x ∷ xs) y ys e h = let k = leads-split (link_in B R x) xs y ys e h.1 in ((h.0, k.0), k.1)

  -- the first block of a chain
  pub leads_first : (b : ℕ) (xs : List ℕ) (y : ℕ) (ys : List ℕ) (e : ℕ) → Leads B R b (xs ++ y ∷ ys) e → get_or (xs ++ y ∷ ys) 0 0 ≡ b
  leads_first b [] y ys e h = sym h.0
  leads_first b (x ∷ xs) y ys e h = sym h.0

  pub length-text : (l : List ℕ) → ((b : ℕ) → 1 ≤ occurs b l → length (R (76 + b)) ≡ B) → length (text_in B R l) ≡ length l * (B - 1)
  length-text [] h = sym (zero-mul (B - 1))
  length-text (x ∷ l) h =
      let hx = h x (omega (arith, hit_self x)) in
      rw (length-append (take (B - 1) (R (76 + x))) (text_in B R l))
      (omega (arith, length-take-le (B - 1) (R (76 + x)) (omega arith), length-text l (λ b o. h b (omega arith)), suc-mul (length l) (B - 1)))

-- ---- the first free block set anew
unfoldable pub set_first : (ℕ → List ℕ) → ℕ → ℕ → List ℕ
set_first R v = put R 0 (set (R 0) 0 v)

module _ (R : ℕ → List ℕ) (v : ℕ) where
  pub first_block : (b : ℕ) → set_first R v (76 + b) ≡ R (76 + b)
  unfolding set_first
  first_block b = put_other R 0 (set (R 0) 0 v) (76 + b) (λ e. omega arith)

  pub first_other : (r : ℕ) → (r ≡ 0 → ⊥) → set_first R v r ≡ R r
  unfolding set_first
  first_other r h = put_other R 0 (set (R 0) 0 v) r h

  pub first-zero : set_first R v 0 ≡ set (R 0) 0 v
  unfolding set_first
  first-zero = put_same R 0 (set (R 0) 0 v)

  pub first_same : (l : List ℕ) → Same R (set_first R v) l
  unfolding Same
  first_same l = λ b o. first_block b

  pub first_is : 1 ≤ length (R 0) → first_in (set_first R v) ≡ v
  first_is h = rw first-zero (get_or-set_same (R 0) 0 v 0 (omega arith))

  pub first-length : (r : ℕ) → length (set_first R v r) ≡ length (R r)
  unfolding set_first
  first-length r = same? r 0 (λ q e. rw (e, q) (length-set (R 0) 0 v)) (λ q e. rw e)

-- ---- a link set anew
unfoldable pub set_link : ℕ → (ℕ → List ℕ) → ℕ → ℕ → ℕ → List ℕ
set_link B R y v = put R (76 + y) (set (R (76 + y)) (B - 1) v)

module _ (B : ℕ) (R : ℕ → List ℕ) (y v : ℕ) where
  pub link_other : (r : ℕ) → (r ≡ 76 + y → ⊥) → set_link B R y v r ≡ R r
  unfolding set_link
  link_other r h = put_other R (76 + y) (set (R (76 + y)) (B - 1) v) r h

  pub link_is : 1 ≤ B → length (R (76 + y)) ≡ B → link_in B (set_link B R y v) y ≡ v
  unfolding set_link
  link_is w z = rw (put_same R (76 + y) (set (R (76 + y)) (B - 1) v)) (get_or-set_same (R (76 + y)) (B - 1) v 0 (omega arith))

  pub link-length : (r : ℕ) → length (set_link B R y v r) ≡ length (R r)
  unfolding set_link
  link-length r = same? r (76 + y) (λ q e. rw (e, q) (length-set (R (76 + y)) (B - 1) v)) (λ q e. rw e)

  pub link_same : (l : List ℕ) → occurs y l ≡ 0 → Same R (set_link B R y v) l
  unfolding Same
  link_same l o = λ b k. link_other (76 + b) (λ e. let q : b ≡ y = omega arith in let z : occurs b l ≡ 0 = rw q o in omega arith)

  -- words other than links stay
  pub link-words : (b : ℕ) → take (B - 1) (set_link B R y v (76 + b)) ≡ take (B - 1) (R (76 + b))
  unfolding set_link
  link-words b = same? (76 + b) (76 + y) (λ q e. rw (e, q) (take-set-le (B - 1) (R (76 + y)) (B - 1) v (omega arith))) (λ q e. rw e)

  -- at its last block a chain is turned to another end
  pub leads_end : (b : ℕ) (xs : List ℕ) → 1 ≤ B → length (R (76 + y)) ≡ B → occurs y xs ≡ 0 → Leads B R b xs y → Leads B (set_link B R y v) b (xs ++ y ∷ []) v
  leads_end b xs w z o h =
      leads-append B (set_link B R y v) b xs y (y ∷ []) v (leads_same B R (set_link B R y v) b xs y (link_same xs o) h) (refl, link_is w z)
