-- Closing gaps leaves the live items in their order, flag 0; so does the append that closes them first, and its item comes last. Assumes nothing.
use Rattle.std.specs.Prelude.{Err, Ok}
use mathlib.Core.Path.{◌≡◌, refl, ap, ◌∙◌}
use mathlib.Core.Bool.{cond}
use mathlib.Core.Logic.{⊎_elim}
use mathlib.Core.List.{List, [], ◌∷◌, ◌++◌}
use Prim.Native.Nat.{ℕ, zero, suc, ◌+◌, ◌≤◌, ◌<◌}
use native.Mathlib.Nat.{mod-lt}
use native.Mathlib.Omega.{arith}
use lib.Dec.{eqb, ltb}
use lib.ListN.{length, get_or, set, length-set}
use lib.Seq.{get_or-set_same, get_or-set_other}
use borrow.Author.Tests.{eq-eqb, ne_eqb, lt-ltb, le-ltb}
use Rattle.words.proofs.Lists.{same?, both, and-false, le_or_lt}
use Rattle.settings.specs.declared.Settings.{Settings}
use Rattle.layout.specs.Places.{items_word, gap_word}
use Rattle.queues.specs.declared.Kind.{Kind}
use Rattle.queues.specs.Queue.{start, items, slot_at, contents, task_kind, Placed, Queue}
use Rattle.queues.specs.Items.{live, gap_flag}
use Rattle.queues.specs.Tasks.{TaskQueue}
use Rattle.queues.proofs.Round.{places_apart}
use Rattle.queues.proofs.Ring.{Ring, ring_of, ring_queue, ring_contents}
use Rattle.queues.proofs.Items.{length-live, live_first, live-live, live_all, live_fewer, live_snoc, gap-live, gap-small}
use Rattle.queues.proofs.Tasks.{TaskRing, task_queue, task_flagged, task_room, task_full}
use Rattle.gaps.specs.Close.{laid, closed, cramped, roomy, task_appended, task_answer}

-- ---- what stands in the words after laying
module _ (k : Kind) (l : List ℕ) (q : ℕ) (xs : List ℕ) where
  pub length-laid : (n : ℕ) → length (laid k l q xs n) ≡ length l
  unfolding laid
  length-laid zero = refl
  length-laid (suc n) = length-set (laid k l q xs n) (slot_at k l q n) (get_or xs n 0) ∙ length-laid n

  laid-low : (n i : ℕ) → i < q + k.head → get_or (laid k l q xs n) i 0 ≡ get_or l i 0
  unfolding laid
  laid-low zero i h = refl
  laid-low (suc n) i h = get_or-set_other (laid k l q xs n) (slot_at k l q n) i (get_or xs n 0) 0 (λ e. omega arith) ∙ laid-low n i h

  laid_at_lem : (n i : ℕ) → Placed k l q → i < n → n ≤ k.slots → get_or (laid k l q xs n) (slot_at k l q i) 0 ≡ get_or xs i 0
  unfolding laid
  laid_at_lem zero i p h m = absurd (omega arith)
  laid_at_lem (suc n) i p h m =
      let st : ℕ = start k l q in
      same? i n
      (λ e t. rw e (get_or-set_same (laid k l q xs n) (slot_at k l q n) (get_or xs n 0) 0 (rw (length-laid n) (omega (arith, mod-lt (st + n) {m = k.slots} (omega arith))))))
      (λ e t. get_or-set_other (laid k l q xs n) (slot_at k l q n) (slot_at k l q i) (get_or xs n 0) 0 (λ y. places_apart st i n k.slots (omega arith) (omega arith) e (omega arith)) ∙ laid_at_lem n i p (omega arith) (omega arith))

  -- whatever stood in the slots before
  ring_laid : Placed k l q → start k l q < k.slots → length xs ≤ k.slots → Ring k (set (laid k l q xs k.slots) (q + items_word) (length xs)) q xs
  ring_laid p b f =
      let m : List ℕ = laid k l q xs k.slots in
      let z = length-laid k.slots in
      let e₀ : get_or (set m (q + 1) (length xs)) q 0 ≡ start k l q = get_or-set_other m (q + 1) q (length xs) 0 (λ e. omega arith) ∙ laid-low k.slots q (omega arith) in
      record {
        placed = record { lies = rw (length-set, z) p.lies; some = p.some; small = p.small; low = p.low; high = p.high };
        begins = rw e₀ b;
        count = get_or-set_same m (q + 1) (length xs) 0 (omega arith);
        fits = f;
        slots = λ i h. rw e₀ (get_or-set_other m (q + 1) (slot_at k l q i) (length xs) 0 (λ e. omega arith) ∙ laid_at_lem k.slots i p h (omega arith));
      }

-- ---- CLOSING
module _ (s : Settings) (l : List ℕ) (q : ℕ) (xs : List ℕ) (r : Ring (task_kind s) l q xs) where
  -- the live items, in their order; the first is live; the flag is 0
  pub closed_task : TaskRing s (closed s l q) q (live xs)
  unfolding closed
  closed_task =
      let f : length (live xs) ≤ s.t = omega (arith, length-live xs, r.fits) in
      let t = task_flagged s _ q (live xs) (ring_laid (task_kind s) l q (live xs) r.placed r.begins f) (live_first xs) in
      rw (ring_contents (task_kind s) l q r) (rw (gap-live xs) at t)

-- a queue with its gaps closed where that makes room is a queue
pub queue-roomy : (s : Settings) (l : List ℕ) (q : ℕ) → Queue (task_kind s) l q → Queue (task_kind s) (roomy s l q) q
unfolding roomy
queue-roomy s l q w =
    both (λ (m : List ℕ). Queue (task_kind s) m q) (cramped s l q) (closed s l q) l
    (ring_queue (task_kind s) (closed s l q) q (closed_task s l q (contents (task_kind s) l q) (ring_of (task_kind s) l q w)).ring) w

-- ---- A TASK QUEUE STAYS ONE
module _ (s : Settings) (l : List ℕ) (q : ℕ) (xs : List ℕ) (t : TaskRing s l q xs) where
  abbrev k : Kind
  k = task_kind s

  count : items k l q ≡ length xs
  count = t.ring.count

  -- with room: as it was
  pub roomy-room : length xs < s.t → TaskRing s (roomy s l q) q xs
  unfolding roomy cramped
  roomy-room h = rw (ne_eqb (items k l q) s.t (λ e. omega (arith, count))) t

  -- full, with no gap: as it was
  pub roomy_full : gap_flag xs ≡ 0 → TaskRing s (roomy s l q) q xs
  unfolding roomy cramped
  roomy_full g =
      rw (ne_eqb (get_or l (q + gap_word) 0) 1 (λ e. omega (arith, t.flag)), and-false (eqb (items k l q) s.t)) t

  -- full, with a gap: the live items, and room for one more
  pub roomy-gap : length xs ≡ s.t → gap_flag xs ≡ 1 → TaskRing s (roomy s l q) q (live xs)
  unfolding roomy cramped
  roomy-gap e g =
      rw (eq-eqb (items k l q) s.t (count ∙ e), eq-eqb (get_or l (q + gap_word) 0) 1 (t.flag ∙ g)) (closed_task s l q xs t.ring)

  -- AN APPEND WITH ROOM
  pub append-room : (x : ℕ) → (x ≡ 0 → ⊥) → length xs < s.t → TaskRing s (task_appended s l q x) q (xs ++ x ∷ []) × (task_answer s l q ≡ Ok tt)
  append-room x n h = task_room s (roomy s l q) q xs (roomy-room h) x n h

  -- AN APPEND THAT CLOSES GAPS
  pub append-gap : (x : ℕ) → (x ≡ 0 → ⊥) → length xs ≡ s.t → gap_flag xs ≡ 1 → TaskRing s (task_appended s l q x) q (live xs ++ x ∷ []) × (task_answer s l q ≡ Ok tt)
  append-gap x n e g = task_room s (roomy s l q) q (live xs) (roomy-gap e g) x n (omega (arith, live_fewer xs g))

  -- AN APPEND THAT FINDS NO ROOM
  pub append_full : (x : ℕ) → length xs ≡ s.t → gap_flag xs ≡ 0 → TaskRing s (task_appended s l q x) q xs × (task_answer s l q ≡ Err (record {}))
  append_full x e g = task_full s (roomy s l q) q xs (roomy_full g) x (omega arith)

  -- the three cases
  pub append_cases {ℓ} : {P : Type ℓ} → (length xs < s.t → P) → (length xs ≡ s.t → gap_flag xs ≡ 1 → P) → (length xs ≡ s.t → gap_flag xs ≡ 0 → P) → P
  append_cases f g h =
      ⊎_elim
      (λ le. let e : length xs ≡ s.t = omega (arith, t.ring.fits) in
      same? (gap_flag xs) 1 (λ a b. g e a) (λ a b. h e (omega (arith, gap-small xs))))
      f
      (le_or_lt s.t (length xs))

  pub append_keeps : (x : ℕ) → (x ≡ 0 → ⊥) → TaskQueue s (task_appended s l q x) q
  append_keeps x n =
      append_cases
      (λ h. task_queue s (task_appended s l q x) q (append-room x n h).0)
      (λ e g. task_queue s (task_appended s l q x) q (append-gap x n e g).0)
      (λ e g. task_queue s (task_appended s l q x) q (append_full x e g).0)

  -- 'append to a queue at its length, gaps closed': an append is refused where the live items have reached the length
  pub append_refused : task_answer s l q ≡ cond (ltb (length (live xs)) s.t) (Ok tt) (Err (record {}))
  append_refused =
      append_cases
      (λ h. (append-room 1 (λ e. omega arith) h).1 ∙ rw (lt-ltb (length (live xs)) s.t (omega (arith, length-live xs))))
      (λ e g. (append-gap 1 (λ z. omega arith) e g).1 ∙ rw (lt-ltb (length (live xs)) s.t (omega (arith, live_fewer xs g))))
      (λ e g. (append_full 1 e g).1 ∙ rw (le-ltb (length (live xs)) s.t (omega (arith, ap length (live_all xs g)))))

  -- and puts its item behind the live ones
  pub append-live : (x : ℕ) → (x ≡ 0 → ⊥) → length (live xs) < s.t → live (contents (task_kind s) (task_appended s l q x) q) ≡ live xs ++ x ∷ []
  append-live x n m =
      append_cases
      (λ h. ap live (ring_contents (task_kind s) (task_appended s l q x) q (append-room x n h).0.ring) ∙ live_snoc xs x n)
      (λ e g. ap live (ring_contents (task_kind s) (task_appended s l q x) q (append-gap x n e g).0.ring) ∙ live_snoc (live xs) x n ∙ ap (λ (ys : List ℕ). ys ++ x ∷ []) (live-live xs))
      (λ e g. absurd (omega (arith, ap length (live_all xs g))))

-- CLOSING LEAVES THE VIEW
pub live-closed : (s : Settings) (l : List ℕ) (q : ℕ) → Queue (task_kind s) l q → live (contents (task_kind s) (closed s l q) q) ≡ live (contents (task_kind s) l q)
live-closed s l q w =
    let xs : List ℕ = contents (task_kind s) l q in
    ap live (ring_contents (task_kind s) (closed s l q) q (closed_task s l q xs (ring_of (task_kind s) l q w)).ring) ∙ live-live xs

pub closed_keeps : (s : Settings) (l : List ℕ) (q : ℕ) → Queue (task_kind s) l q → TaskQueue s (closed s l q) q
closed_keeps s l q w = task_queue s (closed s l q) q (closed_task s l q (contents (task_kind s) l q) (ring_of (task_kind s) l q w))
