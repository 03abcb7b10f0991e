-- The moves of queues, each by `queue-put`: append, an append that finds no room, drop; of a task queue also closing gaps and taking a letter out. Assumes nothing.
--     append_keeps, full_keeps, drop_keeps     any queue, of whatever kind and on whatever node its row stands
--     task_append, task_append-gap, task_full, task_take     a task queue, with its flag
use mathlib.Core.Path.{◌≡◌, refl, ap, ◌∙◌}
use mathlib.Core.List.{List, [], ◌∷◌, ◌++◌}
use Prim.Native.Nat.{ℕ, ◌+◌, ◌≤◌, ◌<◌}
use native.Mathlib.Omega.{arith}
use lib.ListN.{length, get_or, length-set}
use Rattle.words.proofs.Count.{down_zero}
use Rattle.words.proofs.Lists.{put, both}
use Rattle.settings.specs.declared.Settings.{Settings}
use Rattle.queues.specs.declared.Kind.{Kind}
use Rattle.queues.specs.Queue.{task_kind}
use Rattle.queues.specs.Moves.{appended, dropped, counted}
use Rattle.queues.specs.Items.{gap_flag}
use Rattle.queues.proofs.Ring.{Ring, ring_added, ring_room, ring_full, ring_counted, ring_dropped}
use Rattle.queues.proofs.Tasks.{TaskRing, task_counted}
use Rattle.queues.proofs.Views.{length-appended, length-dropped}
use Rattle.gaps.specs.Close.{closed, cramped, roomy, task_appended}
use Rattle.gaps.proofs.Closed.{length-laid, append-room, append-gap, append_full}
use Rattle.taking.specs.Take.{taken_out}
use Rattle.taking.proofs.Taken.{taken_task, length_taken}
use Rattle.machine.specs.Machine.{Letter, gap, first, firsts, Node, All, many}
use Rattle.machine.specs.Core.{seat, line, kind, Held, Core}
use Rattle.machine.proofs.Letters.{all_at, all_append, many-append, firsts-append, length-firsts}
use Rattle.machine.proofs.Places.{seat_task, line_task, kind_task}
use Rattle.machine.proofs.Counts.{gap-held}
use Rattle.moves.specs.Letters.{live_ones}
use Rattle.moves.proofs.Made.{put_row, moved, letters_without}
use Rattle.moves.proofs.Core.{many-most, queue-put, word-put}
use Rattle.moves.proofs.Items.{firsts-live, all_live, many-live, firsts-without, all_without, many-without}

-- ---- any queue
module _ (s : Settings) (R : ℕ → ℕ → List ℕ) (N : ℕ → Node) (core : Core s R N) (i p : ℕ) (h : i < 6) (lo : 1 ≤ p) (hi : p < 77) where
  abbrev w : List ℕ
  w = R (seat i p) (line i p)

  abbrev k : Kind
  k = kind s p

  ring : Ring k w 0 (firsts ((N i).letters p))
  ring = core.queues i p h lo hi

  -- APPEND: the letter on its way goes behind the last
  pub append_keeps : (L : Letter) → (N i).letters 77 ≡ L ∷ [] → length ((N i).letters p) < (kind s p).slots
      → Core s (put_row R (seat i p) (line i p) (appended (kind s p) (R (seat i p) (line i p)) 0 (first L))) (put N i (moved (N i) p ((N i).letters p ++ L ∷ []) []))
  append_keeps L one room =
      let a : All (Held s (R i)) (L ∷ []) = rw one at (core.letters i 77 h (omega arith)) in
      let n : length (firsts ((N i).letters p)) < k.slots = rw (length-firsts ((N i).letters p)) room in
      queue-put s R N core i p h lo hi (appended k w 0 (first L)) ((N i).letters p ++ L ∷ []) []
      (length-appended k w 0 (first L))
      (rw (firsts-append ((N i).letters p) (L ∷ []), ring_room k w 0 (firsts ((N i).letters p)) ring (first L) n) (ring_added k w 0 (firsts ((N i).letters p)) ring (first L) n))
      (all_append (Held s (R i)) ((N i).letters p) (L ∷ []) (core.letters i p h (omega arith)) a)
      tt
      (λ b. omega (arith, many-append b ((N i).letters p) (L ∷ []), ap (many b) one))

  -- at its length, its full count rises
  pub full_keeps : (x : ℕ) → (kind s p).slots ≤ length ((N i).letters p) → Core s (put_row R (seat i p) (line i p) (appended (kind s p) (R (seat i p) (line i p)) 0 x)) N
  full_keeps x full =
      word-put s R N core i p h lo hi (appended k w 0 x) (length-appended k w 0 x)
      (rw (ring_full k w 0 (firsts ((N i).letters p)) ring x (rw (length-firsts ((N i).letters p)) full)) (ring_counted k w 0 (firsts ((N i).letters p)) ring))

  -- DROP: the first letter goes on its way
  pub drop_keeps : (L : Letter) (ls hs : List Letter) → (N i).letters p ≡ L ∷ ls → (N i).letters 77 ≡ hs
      → Core s (put_row R (seat i p) (line i p) (dropped (kind s p) (R (seat i p) (line i p)) 0)) (put N i (moved (N i) p ls (L ∷ hs)))
  drop_keeps L ls hs e e' =
      let a : All (Held s (R i)) (L ∷ ls) = rw e at (core.letters i p h (omega arith)) in
      let c : All (Held s (R i)) hs = rw e' at (core.letters i 77 h (omega arith)) in
      queue-put s R N core i p h lo hi (dropped k w 0) ls (L ∷ hs) (length-dropped k w 0)
      (ring_dropped k w 0 (first L) (firsts ls) (rw e at ring))
      a.1 (a.0, c)
      (λ b. omega (arith, ap (many b) e, ap (many b) e'))

-- ---- lengths
pub length-closed : (s : Settings) (l : List ℕ) (q : ℕ) → length (closed s l q) ≡ length l
unfolding closed
length-closed s l q = simp (length-set, length-laid)

length-roomy : (s : Settings) (l : List ℕ) (q : ℕ) → length (roomy s l q) ≡ length l
unfolding roomy
length-roomy s l q = both (λ (m : List ℕ). length m ≡ length l) (cramped s l q) (closed s l q) l (length-closed s l q) refl

pub length_task_appended : (s : Settings) (l : List ℕ) (q x : ℕ) → length (task_appended s l q x) ≡ length l
length_task_appended s l q x = length-appended (task_kind s) (roomy s l q) q x ∙ length-roomy s l q

pub length-counted : (l : List ℕ) (a : ℕ) → length (counted l a) ≡ length l
unfolding counted
length-counted l a = length-set l a _

-- ---- task queue q of node i
module _ (s : Settings) (R : ℕ → ℕ → List ℕ) (N : ℕ → Node) (core : Core s R N) (i q : ℕ) (h : i < 6) (g : q < 64) where
  abbrev v : List ℕ
  v = R i (13 + q)

  abbrev ls : List Letter
  ls = (N i).letters (13 + q)

  -- its row anew
  pub task_put : (w : List ℕ) (ls hs : List Letter) → length w ≡ length (R i (13 + q)) → Ring (task_kind s) w 0 (firsts ls) → All (Held s (R i)) ls → All (Held s (R i)) hs
      → ((b : ℕ) → many b ls + many b hs ≡ many b ((N i).letters (13 + q)) + many b ((N i).letters 77))
      → Core s (put_row R i (13 + q) w) (put N i (moved (N i) (13 + q) ls hs))
  task_put w ls hs z r a c n =
      rw (seat_task i q g, line_task i q g) at
      (queue-put s R N core i (13 + q) h (omega arith) (omega arith) w ls hs
      (rw (seat_task i q g, line_task i q g) z) (rw (kind_task s q g) r) a c n)

  pub task_word : (w : List ℕ) → length w ≡ length (R i (13 + q)) → Ring (task_kind s) w 0 (firsts ((N i).letters (13 + q))) → Core s (put_row R i (13 + q) w) N
  task_word w z r =
      rw (seat_task i q g, line_task i q g) at
      (word-put s R N core i (13 + q) h (omega arith) (omega arith) w (rw (seat_task i q g, line_task i q g) z) (rw (kind_task s q g) r))

  no_zero : many 0 ls ≡ 0
  no_zero = omega (arith, many-most s R N core i (13 + q) 0 h (omega arith), down_zero s.m)

  module _ (t : TaskRing s (R i (13 + q)) 0 (firsts ((N i).letters (13 + q)))) where
    -- ---- the letter on its way is appended
    module _ (L : Letter) (one : (N i).letters 77 ≡ L ∷ []) (some : first L ≡ 0 → ⊥) where
      on_way : All (Held s (R i)) (L ∷ [])
      on_way = rw one at (core.letters i 77 h (omega arith))

      -- with room
      module _ (room : length ((N i).letters (13 + q)) < s.t) where
        pub task_append-flag : TaskRing s (task_appended s (R i (13 + q)) 0 (first L)) 0 (firsts ((N i).letters (13 + q) ++ L ∷ []))
        task_append-flag = rw (firsts-append ls (L ∷ [])) (append-room s v 0 (firsts ls) t (first L) some (rw (length-firsts ls) room)).0

        pub task_append : Core s (put_row R i (13 + q) (task_appended s (R i (13 + q)) 0 (first L))) (put N i (moved (N i) (13 + q) ((N i).letters (13 + q) ++ L ∷ []) []))
        task_append =
            task_put (task_appended s v 0 (first L)) (ls ++ L ∷ []) [] (length_task_appended s v 0 (first L)) task_append-flag.ring
            (all_append (Held s (R i)) ls (L ∷ []) (core.letters i (13 + q) h (omega arith)) on_way) tt
            (λ b. omega (arith, many-append b ls (L ∷ []), ap (many b) one))

      -- at its length with a gap: gaps are closed first
      module _ (full : length ((N i).letters (13 + q)) ≡ s.t) (gaps : gap_flag (firsts ((N i).letters (13 + q))) ≡ 1) where
        pub task_append-gap-flag : TaskRing s (task_appended s (R i (13 + q)) 0 (first L)) 0 (firsts (live_ones ((N i).letters (13 + q)) ++ L ∷ []))
        task_append-gap-flag = rw (firsts-append (live_ones ls) (L ∷ []), firsts-live ls) (append-gap s v 0 (firsts ls) t (first L) some (length-firsts ls ∙ full) gaps).0

        pub task_append-gap : Core s (put_row R i (13 + q) (task_appended s (R i (13 + q)) 0 (first L))) (put N i (moved (N i) (13 + q) (live_ones ((N i).letters (13 + q)) ++ L ∷ []) []))
        task_append-gap =
            task_put (task_appended s v 0 (first L)) (live_ones ls ++ L ∷ []) [] (length_task_appended s v 0 (first L)) task_append-gap-flag.ring
            (all_append (Held s (R i)) (live_ones ls) (L ∷ []) (all_live (Held s (R i)) ls (core.letters i (13 + q) h (omega arith))) on_way) tt
            (λ b. omega (arith, many-append b (live_ones ls) (L ∷ []), many-live b ls no_zero, ap (many b) one))

    -- at its length without a gap: its full count rises
    module _ (x : ℕ) (full : length ((N i).letters (13 + q)) ≡ s.t) (gaps : gap_flag (firsts ((N i).letters (13 + q))) ≡ 0) where
      pub task_full_flag : TaskRing s (task_appended s (R i (13 + q)) 0 x) 0 (firsts ((N i).letters (13 + q)))
      task_full_flag = (append_full s v 0 (firsts ls) t x (length-firsts ls ∙ full) gaps).0

      pub task_full : Core s (put_row R i (13 + q) (task_appended s (R i (13 + q)) 0 x)) N
      task_full = task_word (task_appended s v 0 x) (length_task_appended s v 0 x) task_full_flag.ring

    -- ---- the letter at place n is taken out and goes on its way
    module _ (n : ℕ) (is : n < length ((N i).letters (13 + q))) (none : (N i).letters 77 ≡ []) where
      pub task_take-flag : TaskRing s (taken_out s (R i (13 + q)) 0 n) 0 (firsts (letters_without n ((N i).letters (13 + q))))
      task_take-flag = rw (firsts-without n ls) (taken_task s v 0 (firsts ls) n t (rw (length-firsts ls) is))

      pub task_take : Core s (put_row R i (13 + q) (taken_out s (R i (13 + q)) 0 n))
          (put N i (moved (N i) (13 + q) (letters_without n ((N i).letters (13 + q))) (get_or ((N i).letters (13 + q)) n gap ∷ [])))
      task_take =
          let a = core.letters i (13 + q) h (omega arith) in
          task_put (taken_out s v 0 n) (letters_without n ls) (get_or ls n gap ∷ []) (length_taken s v 0 n) task_take-flag.ring
          (all_without (Held s (R i)) n ls (gap-held s core.range (R i)) a)
          (all_at (Held s (R i)) n ls is a, tt)
          (λ b. omega (arith, many-without b n ls is no_zero, ap (many b) none))

    -- ---- its empty count rises
    pub task_empty_flag : TaskRing s (counted (R i (13 + q)) 4) 0 (firsts ((N i).letters (13 + q)))
    task_empty_flag = task_counted s v 0 (firsts ls) t 4 (omega arith) (omega arith)

    pub task_empty : Core s (put_row R i (13 + q) (counted (R i (13 + q)) 4)) N
    task_empty = task_word (counted v 4) (length-counted v 4) task_empty_flag.ring
