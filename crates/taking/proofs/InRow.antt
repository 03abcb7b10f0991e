-- Taking an item out of a task queue that is a row changes that row alone. Assumes nothing.
use mathlib.Core.List.{List}
use Prim.Native.Nat.{ℕ, zero, suc}
use native.Mathlib.Omega.{arith}
use lib.Dec.{eqb}
use Rattle.words.specs.Rows as rows
use Rattle.words.proofs.Rows.{But}
use Rattle.settings.specs.declared.Settings.{Settings}
use Rattle.queues.specs.declared.Kind.{Kind}
use Rattle.queues.specs.Queue.{items, item_at, contents, task_kind}
use Rattle.queues.specs.Moves.{dropped}
use Rattle.queues.specs.Items.{gap_flag}
use Rattle.queues.proofs.InRow.{Room, but_both, but_items, but_item, but_contents, but_store, but_slot, but_dropped}
use Rattle.taking.specs.Take.{cleared, first_out, out, flagged, taken_out}

module _ (wide : ℕ → ℕ) (l : List ℕ) (r : ℕ) where
  abbrev q : ℕ
  q = rows.start wide r

  module _ (k : Kind) (w : Room k (wide r)) where
    but_cleared : (n : ℕ) {m p : List ℕ} → But wide l r m p → But wide l r (cleared k q n m) (cleared k 0 n p)
    unfolding cleared
    but_cleared zero b = b
    but_cleared (suc n) {m} {p} b =
        rw (but_item wide l r k w b 0) (but_both wide l r (eqb (item_at k p 0 0) 0) (but_cleared n (but_dropped wide l r k w b)) b)

    but_out : {m p : List ℕ} → But wide l r m p → (i : ℕ) → But wide l r (out k m q i) (out k p 0 i)
    unfolding out first_out
    but_out {m} {p} b i =
        let d = but_dropped wide l r k w b in
        but_both wide l r (eqb i 0) (rw (but_items wide l r k w d) (but_cleared (items k (dropped k p 0) 0) d)) (but_slot wide l r k w b i 0)

  pub but_taken : (s : Settings) → Room (task_kind s) (wide r) → {m p : List ℕ} → But wide l r m p → (i : ℕ) → But wide l r (taken_out s m q i) (taken_out s p 0 i)
  unfolding flagged
  but_taken s w {m} {p} b i =
      let o = but_out (task_kind s) w b i in
      rw (but_contents wide l r (task_kind s) w o)
      (but_store wide l r (task_kind s) w o 2 (gap_flag (contents (task_kind s) (out (task_kind s) p 0 i) 0)) (omega arith))
