-- Closing gaps in a task queue that is a row changes that row alone. Assumes nothing.
use mathlib.Core.Path.{◌≡◌}
use mathlib.Core.List.{List}
use Prim.Native.Nat.{ℕ, zero, suc}
use native.Mathlib.Omega.{arith}
use lib.ListN.{length, get_or}
use Rattle.words.specs.Rows as rows
use Rattle.words.proofs.Rows.{But}
use Rattle.settings.specs.declared.Settings.{Settings}
use Rattle.layout.specs.Places.{gap_word}
use Rattle.queues.specs.declared.Kind.{Kind}
use Rattle.queues.specs.Queue.{contents, task_kind, start}
use Rattle.queues.specs.Items.{live}
use Rattle.queues.proofs.InRow.{Room, but_both, but_word, but_items, but_start, but_contents, but_store, but_place, but_appended, but_answer}
use Rattle.gaps.specs.Close.{laid, closed, cramped, roomy, task_appended, task_answer}

module _ (wide : ℕ → ℕ) (l : List ℕ) (r : ℕ) where
  abbrev q : ℕ
  q = rows.start wide r

  but_laid : (k : Kind) → Room k (wide r) → {m p : List ℕ} → But wide l r m p → (xs : List ℕ) (n : ℕ) → But wide l r (laid k m q xs n) (laid k p 0 xs n)
  unfolding laid
  but_laid k w b xs zero = b
  but_laid k w {m} {p} b xs (suc n) =
      rw (but_start wide l r k w b) (but_place wide l r k w (but_laid k w b xs n) (start k p 0) n (get_or xs n 0))

  module _ (s : Settings) (w : Room (task_kind s) (wide r)) {m p : List ℕ} (b : But wide l r m p) where
    pub but_closed : But wide l r (closed s m q) (closed s p 0)
    unfolding closed
    but_closed =
        let xs : List ℕ = live (contents (task_kind s) p 0) in
        rw (but_contents wide l r (task_kind s) w b)
        (but_store wide l r (task_kind s) w (but_store wide l r (task_kind s) w (but_laid (task_kind s) w b xs s.t) 1 (length xs) (omega arith)) 2 0 (omega arith))

    but_cramped : cramped s m q ≡ cramped s p 0
    unfolding cramped
    but_cramped = rw (but_items wide l r (task_kind s) w b, but_word wide l r (task_kind s) w b gap_word (omega arith))

    but_roomy : But wide l r (roomy s m q) (roomy s p 0)
    unfolding roomy
    but_roomy = rw but_cramped (but_both wide l r (cramped s p 0) but_closed b)

    pub but_task_appended : (x : ℕ) → But wide l r (task_appended s m q x) (task_appended s p 0 x)
    but_task_appended x = but_appended wide l r (task_kind s) w but_roomy x

    pub but_task_answer : task_answer s m q ≡ task_answer s p 0
    but_task_answer = but_answer wide l r (task_kind s) w but_roomy
