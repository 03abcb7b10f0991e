-- A task queue as the list of its items: the first is live and the flag is right; which stores keep that. Assumes nothing.
use Rattle.std.specs.Prelude.{Err, Ok}
use mathlib.Core.Path.{◌≡◌, sym, ap, ◌∙◌}
use mathlib.Core.Logic.{inl, inr}
use mathlib.Core.List.{List, [], ◌∷◌, ◌++◌}
use Prim.Native.Nat.{ℕ, ◌+◌, ◌≤◌, ◌<◌}
use native.Mathlib.Omega.{arith}
use lib.ListN.{length, get_or, set}
use lib.Seq.{get_or-set_same, get_or-set_other}
use Rattle.words.specs.Words.{more}
use Rattle.settings.specs.declared.Settings.{Settings}
use Rattle.layout.specs.Places.{gap_word, task_full_word}
use Rattle.queues.specs.Queue.{contents, task_kind}
use Rattle.queues.specs.Moves.{counted, added, appended, append_answer}
use Rattle.queues.specs.Items.{gap_flag}
use Rattle.queues.specs.Tasks.{TaskQueue}
use Rattle.queues.proofs.Ring.{Ring, Off, ring_of, ring_queue, ring_contents, ring_off, ring_added, ring_room, ring_full, answer-room, answer_full}
use Rattle.queues.proofs.Items.{FirstLive, gap_snoc}
use Rattle.queues.proofs.Views.{word-added}

pub record TaskRing (s : Settings) (l : List ℕ) (q : ℕ) (xs : List ℕ) : Type 0 where
  pub ring : Ring (task_kind s) l q xs
  pub first : FirstLive xs
  pub flag : get_or l (q + gap_word) 0 ≡ gap_flag xs

-- ---- the same as a task queue whose items are xs
module _ (s : Settings) (l : List ℕ) (q : ℕ) where
  pub task_of_lem : TaskQueue s l q → TaskRing s l q (contents (task_kind s) l q)
  task_of_lem w =
      let r = ring_of (task_kind s) l q w.queue in
      let c = r.count in
      record {
        ring = r;
        first = λ h e. w.first (omega arith) (r.slots 0 (omega (arith, r.placed.some)) ∙ e);
        flag = w.flag;
      }

  pub task_queue : {xs : List ℕ} → TaskRing s l q xs → TaskQueue s l q
  task_queue {xs} t =
      let r = t.ring in
      let c = r.count in
      record {
        queue = ring_queue (task_kind s) l q r;
        first = λ h e. t.first (omega arith) (sym (r.slots 0 (omega (arith, r.placed.some))) ∙ e);
        flag = t.flag ∙ ap gap_flag (sym (ring_contents (task_kind s) l q r));
      }

module _ (s : Settings) (l : List ℕ) (q : ℕ) (xs : List ℕ) (t : TaskRing s l q xs) where
  -- a store outside the queue, or at its full or empty count
  pub task_off : (a v : ℕ) → Off (task_kind s) q a → (q + gap_word ≡ a → ⊥) → TaskRing s (set l a v) q xs
  task_off a v o n =
      record {
        ring = ring_off (task_kind s) l q xs t.ring a v o;
        first = t.first;
        flag = get_or-set_other l a (q + gap_word) v 0 n ∙ t.flag;
      }

  pub task_counted : (i : ℕ) → 3 ≤ i → i < 5 → TaskRing s (counted l (q + i)) q xs
  unfolding counted
  task_counted i lo hi = task_off (q + i) (more (get_or l (q + i) 0)) (inr (inl (omega arith))) (λ e. omega arith)

  -- an append where there is room
  pub task_added : (x : ℕ) → (x ≡ 0 → ⊥) → length xs < s.t → TaskRing s (added (task_kind s) l q x) q (xs ++ x ∷ [])
  task_added x n h =
      record {
        ring = ring_added (task_kind s) l q xs t.ring x h;
        first = first xs t.first;
        flag = word-added (task_kind s) l q 2 (omega arith) (omega arith) x ∙ t.flag ∙ sym (gap_snoc xs x n);
      }
    where
      first : (xs : List ℕ) → FirstLive xs → FirstLive (xs ++ x ∷ [])
      first [] f = λ g e. n e
      first (y ∷ xs) f = λ g e. f (omega arith) e

  -- AN APPEND, by whether there is room
  pub task_room : (x : ℕ) → (x ≡ 0 → ⊥) → length xs < s.t → TaskRing s (appended (task_kind s) l q x) q (xs ++ x ∷ []) × (append_answer (task_kind s) l q ≡ Ok tt)
  task_room x n h =
      (rw (ring_room (task_kind s) l q xs t.ring x h) (task_added x n h), answer-room (task_kind s) l q xs t.ring h)

  pub task_full : (x : ℕ) → s.t ≤ length xs → TaskRing s (appended (task_kind s) l q x) q xs × (append_answer (task_kind s) l q ≡ Err (record {}))
  task_full x h =
      (rw (ring_full (task_kind s) l q xs t.ring x h) (task_counted task_full_word (omega arith) (omega arith)), answer_full (task_kind s) l q xs t.ring h)

-- THE FLAG SET ANEW makes a task queue of a queue whose first item is live
pub task_flagged : (s : Settings) (l : List ℕ) (q : ℕ) (xs : List ℕ) → Ring (task_kind s) l q xs → FirstLive xs
    → TaskRing s (set l (q + gap_word) (gap_flag xs)) q xs
task_flagged s l q xs r f =
    record {
      ring = ring_off (task_kind s) l q xs r (q + gap_word) (gap_flag xs) (inr (inl (omega arith)));
      first = f;
      flag = get_or-set_same l (q + gap_word) (gap_flag xs) 0 (omega (arith, r.placed.lies));
    }
