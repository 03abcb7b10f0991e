-- One row put anew, and that two places never share a row. Assumes nothing.
use mathlib.Core.Path.{◌≡◌, sym, ap, ◌∙◌, fun_ext}
use mathlib.Core.List.{List}
use Prim.Native.Nat.{ℕ, ◌+◌, ◌≤◌, ◌<◌}
use native.Mathlib.Omega.{arith}
use lib.ListN.{length}
use Rattle.words.proofs.Lists.{put, put_same, put_other, same?}
use Rattle.machine.specs.Machine.{Letter, Node}
use Rattle.machine.specs.Core.{seat, line}
use Rattle.machine.proofs.Places.{at_place, seat-send, line-send, seat_ack, line_ack, seat_task, line_task}
use Rattle.moves.proofs.Made.{put_row, moved, freed}

module _ (R : ℕ → ℕ → List ℕ) (j q : ℕ) (w : List ℕ) where
  pub row_same : put_row R j q w j q ≡ w
  unfolding put_row
  row_same = ap (λ (g : ℕ → List ℕ). g q) (put_same R j (put (R j) q w)) ∙ put_same (R j) q w

  pub row_other : (k r : ℕ) → (r ≡ q → ⊥) → put_row R j q w k r ≡ R k r
  unfolding put_row
  row_other k r n =
      same? k j
      (λ e t. rw t (put_other (R j) q w r n ∙ ap (λ (x : ℕ). R x r) (sym e)))
      (λ e t. rw t)

  pub row-node : (k r : ℕ) → (k ≡ j → ⊥) → put_row R j q w k r ≡ R k r
  unfolding put_row
  row-node k r n = ap (λ (g : ℕ → List ℕ). g r) (put_other R j (put (R j) q w) k n)

  pub row_apart : (k r : ℕ) → (k ≡ j → r ≡ q → ⊥) → put_row R j q w k r ≡ R k r
  row_apart k r n = same? k j (λ e t. row_other k r (n e)) (λ e t. row-node k r e)

  pub row-long : length w ≡ length (R j q) → (k r : ℕ) → length (put_row R j q w k r) ≡ length (R k r)
  row-long z k r =
      same? k j
      (λ e t. same? r q
      (λ e' t'. rw (e, e') (ap length row_same ∙ z))
      (λ e' t'. ap length (row_other k r e')))
      (λ e t. ap length (row-node k r e))

-- A ROW SHOWS ONE PLACE
pub place_one : (i p k q : ℕ) → 1 ≤ p → p < 77 → 1 ≤ q → q < 77 → i < 6 → k < 6 → seat k q ≡ seat i p → line k q ≡ line i p → (k ≡ i) × (q ≡ p)
place_one i p k q a b c d hi hk =
    at_place (λ (p : ℕ). seat k q ≡ seat i p → line k q ≡ line i p → (k ≡ i) × (q ≡ p))
    (λ x u. rw (seat-send i x u, line-send i x u)
    (at_place (λ (q : ℕ). seat k q ≡ i → line k q ≡ 1 + x → (k ≡ i) × (q ≡ 1 + x))
    (λ y v. rw (seat-send k y v, line-send k y v) (λ e f. (e, f)))
    (λ y v. rw (seat_ack k y v, line_ack k y v) (λ e f. absurd (omega arith)))
    (λ y v. rw (seat_task k y v, line_task k y v) (λ e f. absurd (omega arith)))
    q c d))
    (λ x u. rw (seat_ack i x u, line_ack i x u)
    (at_place (λ (q : ℕ). seat k q ≡ x → line k q ≡ 7 + i → (k ≡ i) × (q ≡ 7 + x))
    (λ y v. rw (seat-send k y v, line-send k y v) (λ e f. absurd (omega arith)))
    (λ y v. rw (seat_ack k y v, line_ack k y v) (λ e f. (omega arith, omega arith)))
    (λ y v. rw (seat_task k y v, line_task k y v) (λ e f. absurd (omega arith)))
    q c d))
    (λ x u. rw (seat_task i x u, line_task i x u)
    (at_place (λ (q : ℕ). seat k q ≡ i → line k q ≡ 13 + x → (k ≡ i) × (q ≡ 13 + x))
    (λ y v. rw (seat-send k y v, line-send k y v) (λ e f. absurd (omega arith)))
    (λ y v. rw (seat_ack k y v, line_ack k y v) (λ e f. absurd (omega arith)))
    (λ y v. rw (seat_task k y v, line_task k y v) (λ e f. (e, f)))
    q c d))
    p a b

-- ---- nodes put anew
module _ (N : Node) (p : ℕ) (ls hs : List Letter) (ne : p ≡ 77 → ⊥) where
  pub moved_at : (moved N p ls hs).letters p ≡ ls
  unfolding moved
  moved_at = put_other (put N.letters p ls) 77 hs p ne ∙ put_same N.letters p ls

  pub moved_transit : (moved N p ls hs).letters 77 ≡ hs
  unfolding moved
  moved_transit = put_same (put N.letters p ls) 77 hs

  pub moved_other : (q : ℕ) → (q ≡ p → ⊥) → (q ≡ 77 → ⊥) → (moved N p ls hs).letters q ≡ N.letters q
  unfolding moved
  moved_other q a b = put_other (put N.letters p ls) 77 hs q b ∙ put_other N.letters p ls q a

module _ (N : Node) (fr : List ℕ) (hs : List Letter) where
  pub freed_transit : (freed N fr hs).letters 77 ≡ hs
  unfolding freed
  freed_transit = put_same N.letters 77 hs

  pub freed_other : (q : ℕ) → (q ≡ 77 → ⊥) → (freed N fr hs).letters q ≡ N.letters q
  unfolding freed
  freed_other q b = put_other N.letters 77 hs q b

-- a value put where it stands already
pub put_none {ℓ} : {B : Type ℓ} (f : ℕ → B) (k : ℕ) → put f k (f k) ≡ f
put_none f k = fun_ext (λ n. same? n k (λ q e. rw (e, q)) (λ q e. rw e))

pub moved_none : (N : Node) (p : ℕ) → (p ≡ 77 → ⊥) → moved N p (N.letters p) (N.letters 77) ≡ N
unfolding moved
moved_none N p ne =
    ap (λ (g : ℕ → List Letter). record { free = N.free; letters = g })
    (ap (λ (g : ℕ → List Letter). put g 77 (N.letters 77)) (put_none N.letters p) ∙ put_none N.letters 77)

pub freed_none : (N : Node) → freed N N.free (N.letters 77) ≡ N
unfolding freed
freed_none N = ap (λ (g : ℕ → List Letter). record { free = N.free; letters = g }) (put_none N.letters 77)
