-- Laws of the live items, of the gap flag and of taking an item out, on lists. Assumes nothing.
use mathlib.Core.Path.{◌≡◌, refl, sym, ap, ◌∙◌}
use mathlib.Core.List.{List, [], ◌∷◌, ◌++◌, append-nil}
use Prim.Native.Nat.{ℕ, zero, suc, ◌≤◌, ◌<◌}
use native.Mathlib.Omega.{arith}
use lib.Dec.{eqb}
use lib.ListN.{length, get_or, take, drop}
use lib.Seq.{split_at, set-append_seam, length-take-le}
use borrow.Author.Tests.{ne_eqb}
use Rattle.words.proofs.Lists.{split, same?}
use Rattle.queues.specs.Items.{live, gap_flag, after_zeroes, without}

-- 'a task queue's first item is not 0'
abbrev pub FirstLive : List ℕ → Type 0
FirstLive xs = 0 < length xs → get_or xs 0 0 ≡ 0 → ⊥

-- ---- live items
pub live-append : (xs ys : List ℕ) → live (xs ++ ys) ≡ live xs ++ live ys
unfolding live
live-append [] ys = refl
live-append (x ∷ xs) ys = split (eqb x 0) (λ e. rw e (live-append xs ys)) (λ e. rw e (ap (λ (l : List ℕ). x ∷ l) (live-append xs ys)))

live_none : live [] ≡ []
unfolding live
live_none = refl

pub live_cons : (x : ℕ) (xs : List ℕ) → (x ≡ 0 → ⊥) → live (x ∷ xs) ≡ x ∷ live xs
unfolding live
live_cons x xs h = rw (ne_eqb x 0 h)

pub live-zero : (xs : List ℕ) → live (0 ∷ xs) ≡ live xs
unfolding live
live-zero xs = refl

-- AN APPEND adds its item behind the live ones
pub live_snoc : (xs : List ℕ) (x : ℕ) → (x ≡ 0 → ⊥) → live (xs ++ x ∷ []) ≡ live xs ++ x ∷ []
unfolding live
live_snoc xs x h = live-append xs (x ∷ []) ∙ rw (ne_eqb x 0 h)

-- a gap adds nothing
pub live-gap : (xs : List ℕ) (x : ℕ) → x ≡ 0 → live (xs ++ x ∷ []) ≡ live xs
unfolding live
live-gap xs x h = live-append xs (x ∷ []) ∙ rw h (append-nil (live xs))

pub length-live : (xs : List ℕ) → length (live xs) ≤ length xs
unfolding live
length-live [] = omega arith
length-live (x ∷ xs) = split (eqb x 0) (λ e. rw e (omega (arith, length-live xs))) (λ e. rw e (omega (arith, length-live xs)))

pub live_first : (xs : List ℕ) → FirstLive (live xs)
unfolding live
live_first [] = λ h e. omega arith
live_first (x ∷ xs) = same? x 0 (λ p e. rw e (live_first xs)) (λ p e. rw e (λ h z. p z))

-- ---- gaps
pub gap-small : (xs : List ℕ) → gap_flag xs ≤ 1
unfolding gap_flag
gap-small [] = omega arith
gap-small (x ∷ xs) = split (eqb x 0) (λ e. rw e (omega arith)) (λ e. rw e (gap-small xs))

-- the flag is 1 where an item is 0
pub gap_at : (xs : List ℕ) (i : ℕ) → i < length xs → get_or xs i 0 ≡ 0 → gap_flag xs ≡ 1
unfolding gap_flag
gap_at [] i h z = absurd (omega arith)
gap_at (x ∷ xs) zero h z = rw z
gap_at (x ∷ xs) (suc i) h z = split (eqb x 0) (λ e. rw e) (λ e. rw e (gap_at xs i (omega arith) z))

-- and 0 where none is
pub gap_none : (xs : List ℕ) → ((i : ℕ) → i < length xs → get_or xs i 0 ≡ 0 → ⊥) → gap_flag xs ≡ 0
unfolding gap_flag
gap_none [] f = refl
gap_none (x ∷ xs) f = rw (ne_eqb x 0 (f 0 (omega arith))) (gap_none xs (λ i h. f (suc i) (omega arith)))

-- without a gap every item is live
pub live_all : (xs : List ℕ) → gap_flag xs ≡ 0 → live xs ≡ xs
unfolding gap_flag live
live_all [] g = refl
live_all (x ∷ xs) g = split (eqb x 0) (λ e. absurd (let z : ◌≡◌ {A = ℕ} 1 0 = rw e at g in omega arith)) (λ e. rw e (ap (λ (l : List ℕ). x ∷ l) (live_all xs (rw e at g))))

-- with a gap some are not
pub live_fewer : (xs : List ℕ) → gap_flag xs ≡ 1 → length (live xs) < length xs
unfolding gap_flag live
live_fewer [] g = absurd (omega arith)
live_fewer (x ∷ xs) g = split (eqb x 0) (λ e. rw e (omega (arith, length-live xs))) (λ e. rw e (omega (arith, live_fewer xs (rw e at g))))

-- CLOSING leaves no gap
pub gap-live : (xs : List ℕ) → gap_flag (live xs) ≡ 0
unfolding gap_flag live
gap-live [] = refl
gap-live (x ∷ xs) = split (eqb x 0) (λ e. rw e (gap-live xs)) (λ e. rw e (rw e (gap-live xs)))

pub live-live : (xs : List ℕ) → live (live xs) ≡ live xs
live-live xs = live_all (live xs) (gap-live xs)

pub gap_snoc : (xs : List ℕ) (x : ℕ) → (x ≡ 0 → ⊥) → gap_flag (xs ++ x ∷ []) ≡ gap_flag xs
unfolding gap_flag
gap_snoc [] x h = rw (ne_eqb x 0 h)
gap_snoc (y ∷ xs) x h = split (eqb y 0) (λ e. rw e) (λ e. rw e (gap_snoc xs x h))

-- ---- the zeroes at the front
pub live-after : (xs : List ℕ) → live (after_zeroes xs) ≡ live xs
unfolding live after_zeroes
live-after [] = refl
live-after (x ∷ xs) = split (eqb x 0) (λ e. rw e (live-after xs)) (λ e. rw e (rw e))

pub first-after : (xs : List ℕ) → FirstLive (after_zeroes xs)
unfolding after_zeroes
first-after [] = λ h e. omega arith
first-after (x ∷ xs) = same? x 0 (λ p e. rw e (first-after xs)) (λ p e. rw e (λ h z. p z))

-- ---- taking out
-- TAKING OUT AN ITEM takes it out of the live ones, and no other
pub live-without : (us : List ℕ) (x : ℕ) (vs : List ℕ) → live (without (length us) (us ++ x ∷ vs)) ≡ live us ++ live vs
unfolding without
live-without [] x vs = live-after vs ∙ ap (λ (l : List ℕ). l ++ live vs) (sym live_none)
live-without (u ∷ us) x vs =
    rw (set-append_seam us x vs 0) (live-append (u ∷ us) (0 ∷ vs) ∙ ap (λ (l : List ℕ). live (u ∷ us) ++ l) (live-zero vs))

pub live-without_at : (xs : List ℕ) (i : ℕ) → i < length xs → live (without i xs) ≡ live (take i xs) ++ live (drop (suc i) xs)
live-without_at xs i h =
    let y : ℕ = get_or xs i 0 in
    let vs : List ℕ = drop (suc i) xs in
    ap (λ (l : List ℕ). live (without i l)) (split_at xs i 0 h)
    ∙ ap (λ (n : ℕ). live (without n (take i xs ++ y ∷ vs))) (sym (length-take-le i xs (omega arith)))
    ∙ live-without (take i xs) y vs

-- the live items round a live one
pub live-split : (xs : List ℕ) (i : ℕ) → i < length xs → (get_or xs i 0 ≡ 0 → ⊥) → live xs ≡ live (take i xs) ++ get_or xs i 0 ∷ live (drop (suc i) xs)
live-split xs i h n =
    let y : ℕ = get_or xs i 0 in
    let vs : List ℕ = drop (suc i) xs in
    ap live (split_at xs i 0 h) ∙ live-append (take i xs) (y ∷ vs) ∙ ap (λ (l : List ℕ). live (take i xs) ++ l) (live_cons y vs n)

pub first-without : (i : ℕ) (xs : List ℕ) → FirstLive xs → FirstLive (without i xs)
unfolding without
first-without i [] f = f
first-without zero (x ∷ xs) f = first-after xs
first-without (suc i) (x ∷ xs) f = λ h. f (omega arith)
