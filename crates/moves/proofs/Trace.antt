-- A letter in and out of the transit place leaves no trace there. Assumes nothing.
use mathlib.Core.Path.{◌≡◌, sym, ap, ◌∙◌, fun_ext}
use mathlib.Core.List.{List, []}
use Prim.Native.Nat.{ℕ}
use Rattle.words.proofs.Lists.{put, put_other, put-put, same?}
use Rattle.machine.specs.Machine.{Letter, Node}
use Rattle.moves.proofs.Made.{moved, freed, placed}

module _ (g : ℕ → List Letter) (p : ℕ) (ls hs : List Letter) (n : p ≡ 77 → ⊥) (e : g 77 ≡ []) where
  in_out : put (put (put g 77 hs) p ls) 77 [] ≡ put g p ls
  in_out =
      fun_ext (λ k. same? k 77
      (λ q t. rw t (same? k p (λ q' t'. absurd (n (sym q' ∙ q))) (λ q' t'. rw (t', q) (sym e))))
      (λ q t. rw t (same? k p (λ q' t'. rw t') (λ q' t'. rw t'))))

  out_in : put (put (put g p ls) 77 hs) 77 [] ≡ put g p ls
  out_in =
      fun_ext (λ k. same? k 77
      (λ q t. rw t (same? k p (λ q' t'. absurd (n (sym q' ∙ q))) (λ q' t'. rw (t', q) (sym e))))
      (λ q t. rw t))

module _ (N : Node) (p : ℕ) (ls hs : List Letter) (n : p ≡ 77 → ⊥) (e : N.letters 77 ≡ []) where
  -- blocks taken, then appended
  pub trace_append : (fr : List ℕ) → moved (freed N fr hs) p ls [] ≡ placed N fr p ls
  unfolding moved freed placed
  trace_append fr = ap (λ (g : ℕ → List Letter). record { free = fr; letters = g }) (in_out N.letters p ls hs n e)

  -- taken out, then given back
  pub trace_give : (fr : List ℕ) → freed (moved N p ls hs) fr [] ≡ placed N fr p ls
  unfolding moved freed placed
  trace_give fr = ap (λ (g : ℕ → List Letter). record { free = fr; letters = g }) (out_in N.letters p ls hs n e)

  -- dropped, then appended elsewhere
  pub trace_move : (q : ℕ) (ks : List Letter) → (q ≡ 77 → ⊥) → moved (moved N p ls hs) q ks [] ≡ placed (placed N N.free p ls) N.free q ks
  unfolding moved placed
  trace_move q ks m =
      ap (λ (g : ℕ → List Letter). record { free = N.free; letters = g })
      (in_out (put N.letters p ls) q ks hs m (put_other N.letters p ls 77 (λ z. n (sym z)) ∙ e))

pub trace_write : (N : Node) (fr fr' : List ℕ) (hs hs' : List Letter) → freed (freed N fr hs) fr' hs' ≡ freed N fr' hs'
unfolding freed
trace_write N fr fr' hs hs' = ap (λ (g : ℕ → List Letter). record { free = fr'; letters = g }) (put-put N.letters 77 hs hs')
