-- The moves in words: what each operation on a node's stretch makes of a memory keeps the core. Assumes nothing.
--     take_words, write_words, give_words     blocks taken, a letter's words written, its chain given back; take_row, write_row, give_row     no queue's row changes
--     copy-words     a letter of one node copied into blocks of another
--     append-words, full_words, drop-words     any queue; send-.., ack-..     by kind
--     task_append-words, task_gap-words, task_full_words, task_take-words, task_empty_words     a task queue
--     room-words     the room count
use mathlib.Core.Path.{◌≡◌, sym, ap, ap₂, ◌∙◌, subst}
use mathlib.Core.List.{List, [], ◌∷◌, ◌++◌}
use Prim.Native.Nat.{ℕ, suc, ◌+◌, ◌-◌, ◌≤◌, ◌<◌}
use native.Mathlib.Omega.{arith}
use lib.ListN.{length, get_or, set, take, drop, length-set, length-append, drop_of_length-le}
use lib.Seq.{split_at, take-suc, length-take-le, get_or-set_other}
use Rattle.words.specs.Words.{more}
use Rattle.words.specs.Rows as word_rows
use Rattle.words.specs.Count.{occurs}
use Rattle.words.proofs.Count.{hit_self, occurs-append, occurs-split, down_range}
use Rattle.words.proofs.Lists.{put, put_same}
use Rattle.words.proofs.Rows.{But, but_none, but_set}
use Rattle.settings.specs.declared.Settings.{Settings}
use Rattle.settings.specs.Range.{InRange}
use Rattle.layout.specs.Places.{memory_size, node, with_node, send_at, ack_at, task_at, room_at, empty_word}
use Rattle.layout.specs.Rows.{width}
use Rattle.layout.specs.Asked.{Stretch}
use Rattle.layout.proofs.NodeRows.{width_head, start-send, start_ack, start_task}
use Rattle.blocks.specs.Chain.{needs, text}
use Rattle.blocks.specs.Moves.{taken, given_back}
use Rattle.blocks.proofs.Chains.{Leads, text_in}
use Rattle.blocks.proofs.Rows.{rows, text_rows}
use Rattle.blocks.proofs.Laws.{taken_rows, given_rows, taken_other, given_other}
use Rattle.blocks.proofs.Moves.{length_taken, length-given, rows_taken, rows_given}
use Rattle.taking.proofs.Taken.{length_taken as length-taken-out}
use Rattle.letters.specs.Letter.{laid, written, copied}
use Rattle.letters.proofs.Rows.{length-laid, rows_written}
use Rattle.letters.proofs.Texts.{fill, fill_other}
use Rattle.queues.specs.declared.Kind.{Kind}
use Rattle.queues.specs.Queue.{send_kind, ack_kind, task_kind}
use Rattle.queues.specs.Moves.{appended, dropped, counted}
use Rattle.queues.specs.Items.{gap_flag}
use Rattle.queues.proofs.InRow.{Room, room-send, room_ack, room_task, but_appended, but_dropped, but_counted}
use Rattle.queues.proofs.Tasks.{TaskRing}
use Rattle.queues.proofs.Views.{length-appended, length-dropped}
use Rattle.gaps.specs.Close.{task_appended}
use Rattle.gaps.proofs.InRow.{but_task_appended}
use Rattle.taking.specs.Take.{taken_out}
use Rattle.taking.proofs.InRow.{but_taken}
use Rattle.machine.specs.Machine.{Letter, gap, first, firsts, Node}
use Rattle.machine.specs.Core.{rows_of, seat, line, kind, Core}
use Rattle.machine.proofs.Places.{at_place, seat_in, seat-send, line-send, kind-send, seat_ack, line_ack, kind_ack, line_task, kind_task}
use Rattle.machine.proofs.Gives.{gives_stretch, gives_list, gives_letter}
use Rattle.moves.specs.Letters.{live_ones}
use Rattle.moves.proofs.Made.{put_row, moved, freed, letters_without}
use Rattle.moves.proofs.Core.{free-most, head_put}
use Rattle.moves.proofs.Chains.{take_keeps, write_keeps, give_keeps, held_one, in_chain}
use Rattle.moves.proofs.Queues.{append_keeps, full_keeps, drop_keeps, task_append, task_append-gap, task_full, task_take, task_empty}
use Rattle.moves.proofs.Queues as queues
use Rattle.moves.proofs.Memory.{rows_with, row_with}

-- the row of each place has room for its kind of queue
pub room-place : (s : Settings) → InRange s → (i p : ℕ) → i < 6 → 1 ≤ p → p < 77 → Room (kind s p) (width s (line i p))
room-place s r i p h lo hi =
    at_place (λ (p : ℕ). Room (kind s p) (width s (line i p)))
    (λ k u. rw (kind-send s k u, line-send i k u) (room-send s r (1 + k) (omega arith) (omega arith)))
    (λ k u. rw (kind_ack s k u, line_ack i k u) (room_ack s r (7 + i) (omega arith) (omega arith)))
    (λ q u. rw (kind_task s q u, line_task i q u) (room_task s r (13 + q) (omega arith) (omega arith)))
    p lo hi

-- a list cut before its last
cut_last : (l : List ℕ) → 1 ≤ length l → l ≡ take (length l - 1) l ++ get_or l (length l - 1) 0 ∷ []
cut_last l h =
    split_at l (length l - 1) 0 (omega arith)
    ∙ ap (λ (r : List ℕ). take (length l - 1) l ++ get_or l (length l - 1) 0 ∷ r) (drop_of_length-le l {i = suc (length l - 1)} (omega arith))

module _ (s : Settings) (memory : List ℕ) (size : length memory ≡ memory_size s) (N : ℕ → Node) (core : Core s (rows_of s memory) N) where
  abbrev R : ℕ → ℕ → List ℕ
  R = rows_of s memory

  stretch : (i : ℕ) → i < 6 → Stretch s (node s memory i)
  stretch = gives_stretch s memory size N core

  -- ---- blocks
  module _ (i : ℕ) (h : i < 6) where
    abbrev l : List ℕ
    l = node s memory i

    free_in : (x : ℕ) → 1 ≤ occurs x (N i).free → (1 ≤ x) × (x ≤ s.m)
    free_in x o = down_range s.m x (omega (arith, free-most s R N core i x h))

    module _ (none : (N i).letters 77 ≡ []) (n len : ℕ) (some : 1 ≤ n) (has : n ≤ length (N i).free) (need : n ≡ needs s len) where
      abbrev f : List ℕ
      f = (N i).free

      abbrev xs : List ℕ
      xs = take (n - 1) (N i).free

      abbrev y : ℕ
      y = get_or (N i).free (n - 1) 0

      abbrev ys : List ℕ
      ys = drop (suc (n - 1)) (N i).free

      step : suc (n - 1) ≡ n
      step = omega arith

      cut : f ≡ xs ++ y ∷ ys
      cut = split_at f (n - 1) 0 (omega arith)

      front : xs ++ y ∷ [] ≡ take n f
      front = sym (take-suc f (n - 1) 0 (omega arith)) ∙ ap (λ (k : ℕ). take k f) step

      rest : ys ≡ drop n f
      rest = ap (λ (k : ℕ). drop k f) step

      long_xs : suc (length xs) ≡ n
      long_xs = omega (arith, length-take-le (n - 1) f (omega arith))

      y_one : 1 ≤ y
      y_one = (free_in y (subst (λ (k : List ℕ). 1 ≤ occurs y k) (sym cut) (omega (arith, occurs-append y xs (y ∷ ys), hit_self y)))).0

      taken_is : rows s (taken s l n) ≡ taken_rows s.b (rows s l) y
      taken_is = ap (λ (k : ℕ). rows s (taken s l k)) (sym long_xs) ∙ rows_taken s l (stretch i h) xs y ys y_one (gives_list s memory size N core i h ∙ cut)

      taken_memory : rows_of s (with_node s memory i (taken s l n)) ≡ put R i (taken_rows s.b (rows s l) y)
      taken_memory = rows_with s memory size i h (taken s l n) (length_taken s l n ∙ (stretch i h).long) ∙ ap (put R i) taken_is

      -- no queue's row changes
      pub take_row : (r : ℕ) → 1 ≤ r → r < 77 → rows_of s (with_node s memory i (taken s (node s memory i) n)) i r ≡ rows_of s memory i r
      take_row r a b =
          ap (λ (Q : ℕ → ℕ → List ℕ). Q i r) taken_memory
          ∙ ap (λ (g : ℕ → List ℕ). g r) (put_same R i (taken_rows s.b (rows s l) y))
          ∙ taken_other s.b (rows s l) y r (λ e. omega arith) (λ e. omega (arith, y_one))

      -- TAKE
      pub take_words : Core s (rows_of s (with_node s memory i (taken s (node s memory i) n)))
          (put N i (freed (N i) (drop n (N i).free) (record { chain = take n (N i).free; words = take len (text s (node s memory i) (take n (N i).free)) } ∷ [])))
      take_words =
          let c = take_keeps s R N core i h none xs y ys cut len (length-append xs (y ∷ []) ∙ omega (arith, long_xs)) in
          let t : text s l (take n f) ≡ text_in s.b (rows s l) (take n f) = text_rows s core.range l (take n f) (λ x o. (free_in x (omega (arith, occurs-split x n f))).0) in
          let g : put N i (freed (N i) ys (record { chain = xs ++ y ∷ []; words = take len (text_in s.b (rows s l) (xs ++ y ∷ [])) } ∷ []))
          ≡ put N i (freed (N i) (drop n f) (record { chain = take n f; words = take len (text s l (take n f)) } ∷ [])) =
          ap₂ (λ (k u : List ℕ). put N i (freed (N i) u (record { chain = k; words = take len (text_in s.b (rows s l) k) } ∷ []))) front rest
          ∙ ap (λ (k : List ℕ). put N i (freed (N i) (drop n f) (record { chain = take n f; words = take len k } ∷ []))) (sym t) in
          subst (λ (Q : ℕ → ℕ → List ℕ). Core s Q (put N i (freed (N i) (drop n f) (record { chain = take n f; words = take len (text s l (take n f)) } ∷ [])))) (sym taken_memory)
          (subst (λ (M : ℕ → Node). Core s (put R i (taken_rows s.b (rows s l) y)) M) g c)

    -- the letter on its way
    module _ (L : Letter) (one : (N i).letters 77 ≡ L ∷ []) where
      written-memory : (ws : List ℕ) → length L.chain ≡ needs s (length ws) → rows_of s (with_node s memory i (written s l (first L) ws)) ≡ put R i (fill s.b (rows s l) L.chain ws)
      written-memory ws need =
          rows_with s memory size i h (written s l (first L) ws) (length-laid s (needs s (length ws)) l (first L) ws ∙ (stretch i h).long)
          ∙ ap (put R i) (ap (λ (k : ℕ). rows s (laid s l k (first L) ws)) (sym need)
          ∙ rows_written s core.range l (first L) L.chain 0 ws (λ x o. (in_chain s R N core i h L one x o).0) (held_one s R N core i h L one).leads)

      pub write_row : (ws : List ℕ) → length L.chain ≡ needs s (length ws) → (r : ℕ) → 1 ≤ r → r < 77
          → rows_of s (with_node s memory i (written s (node s memory i) (first L) ws)) i r ≡ rows_of s memory i r
      write_row ws need r a b =
          ap (λ (Q : ℕ → ℕ → List ℕ). Q i r) (written-memory ws need)
          ∙ ap (λ (g : ℕ → List ℕ). g r) (put_same R i (fill s.b (rows s l) L.chain ws))
          ∙ fill_other s.b (rows s l) L.chain ws r (λ x o z. omega (arith, in_chain s R N core i h L one x o))

      -- WRITE
      pub write_words : (ws : List ℕ) → length L.chain ≡ needs s (length ws)
          → Core s (rows_of s (with_node s memory i (written s (node s memory i) (first L) ws))) (put N i (freed (N i) (N i).free (record { chain = L.chain; words = ws } ∷ [])))
      write_words ws need =
          subst (λ (Q : ℕ → ℕ → List ℕ). Core s Q (put N i (freed (N i) (N i).free (record { chain = L.chain; words = ws } ∷ [])))) (sym (written-memory ws need))
          (write_keeps s R N core i h L one ws need)

      -- GIVE BACK
      module _ (some : 1 ≤ length L.chain) where
        abbrev us : List ℕ
        us = take (length L.chain - 1) L.chain

        abbrev v : ℕ
        v = get_or L.chain (length L.chain - 1) 0

        cut_chain : L.chain ≡ us ++ v ∷ []
        cut_chain = cut_last L.chain some

        long_us : suc (length us) ≡ length L.chain
        long_us = omega (arith, length-take-le (length L.chain - 1) L.chain (omega arith))

        v_one : 1 ≤ v
        v_one = (in_chain s R N core i h L one v (subst (λ (k : List ℕ). 1 ≤ occurs v k) (sym cut_chain) (omega (arith, occurs-append v us (v ∷ []), hit_self v)))).0

        given-memory : rows_of s (with_node s memory i (given_back s l (length L.chain) (first L))) ≡ put R i (given_rows s.b (rows s l) (first L) v)
        given-memory =
            rows_with s memory size i h (given_back s l (length L.chain) (first L)) (length-given s l (length L.chain) (first L) ∙ (stretch i h).long)
            ∙ ap (put R i) (ap (λ (k : ℕ). rows s (given_back s l k (first L))) (sym long_us)
            ∙ rows_given s l (stretch i h) (first L) us v 0
            (subst (λ (k : List ℕ). (x : ℕ) → 1 ≤ occurs x k → 1 ≤ x) cut_chain (λ x o. (in_chain s R N core i h L one x o).0))
            (subst (λ (k : List ℕ). Leads s.b (rows s l) (first L) k 0) cut_chain (held_one s R N core i h L one).leads))

        pub give_row : (r : ℕ) → 1 ≤ r → r < 77 → rows_of s (with_node s memory i (given_back s (node s memory i) (length L.chain) (first L))) i r ≡ rows_of s memory i r
        give_row r a b =
            ap (λ (Q : ℕ → ℕ → List ℕ). Q i r) given-memory
            ∙ ap (λ (g : ℕ → List ℕ). g r) (put_same R i (given_rows s.b (rows s l) (first L) v))
            ∙ given_other s.b (rows s l) (first L) v r (λ e. omega arith) (λ e. omega (arith, v_one))

        pub give_words : Core s (rows_of s (with_node s memory i (given_back s (node s memory i) (length L.chain) (first L)))) (put N i (freed (N i) (L.chain ++ (N i).free) []))
        give_words =
            subst (λ (Q : ℕ → ℕ → List ℕ). Core s Q (put N i (freed (N i) (L.chain ++ (N i).free) []))) (sym given-memory)
            (give_keeps s R N core i h L one us v cut_chain)

    -- THE ROOM COUNT
    pub room-words : Core s (rows_of s (with_node s memory i (counted (node s memory i) room_at))) N
    unfolding counted word_rows.start
    room-words =
        let b : But (width s) l 0 (set l 1 (more (get_or l 1 0))) (set (R i 0) (0 + 1) (more (get_or l 1 0))) =
        but_set (width s) l 0 (but_none (width s) l 0) 1 (rw (width_head s) (omega arith)) (more (get_or l 1 0)) in
        let e : rows_of s (with_node s memory i (set l 1 (more (get_or l 1 0)))) ≡ put_row R i 0 (set (R i 0) (0 + 1) (more (get_or l 1 0))) =
        row_with s memory size i h (set l 1 (more (get_or l 1 0))) (length-set l 1 (more (get_or l 1 0)) ∙ (stretch i h).long) 0 (set (R i 0) (0 + 1) (more (get_or l 1 0))) b in
        subst (λ (Q : ℕ → ℕ → List ℕ). Core s Q N) (sym e)
        (head_put s R N core i h (set (R i 0) (0 + 1) (more (get_or l 1 0))) (length-set (R i 0) (0 + 1) (more (get_or l 1 0)))
        (get_or-set_other (R i 0) (0 + 1) 0 (more (get_or l 1 0)) 0 (λ z. omega arith)))

  -- COPY: the letter at index n of place p of node i, into the blocks of the letter on its way in node j
  pub copy-words : (i p n j : ℕ) → i < 6 → p < 78 → n < length ((N i).letters p) → j < 6 → (L : Letter) → (N j).letters 77 ≡ L ∷ [] → length L.chain ≡ needs s (length (get_or ((N i).letters p) n gap).words)
      → Core s (rows_of s (copied s memory (length (get_or ((N i).letters p) n gap).words) i (first (get_or ((N i).letters p) n gap)) j (first L)))
      (put N j (freed (N j) (N j).free (record { chain = L.chain; words = (get_or ((N i).letters p) n gap).words } ∷ [])))
  unfolding copied
  copy-words i p n j h g is h' L one need =
      subst (λ (ws : List ℕ). Core s (rows_of s (with_node s memory j (written s (node s memory j) (first L) ws))) (put N j (freed (N j) (N j).free (record { chain = L.chain; words = (get_or ((N i).letters p) n gap).words } ∷ []))))
      (sym (gives_letter s memory size N core i p n h g is))
      (write_words j h' L one (get_or ((N i).letters p) n gap).words need)

  -- ---- any queue
  module _ (i p : ℕ) (h : i < 6) (lo : 1 ≤ p) (hi : p < 77) where
    abbrev j : ℕ
    j = seat i p

    abbrev r : ℕ
    r = line i p

    abbrev q : ℕ
    q = word_rows.start (width s) (line i p)

    abbrev k : Kind
    k = kind s p

    abbrev m : List ℕ
    m = node s memory (seat i p)

    j6 : j < 6
    j6 = seat_in i p h lo hi

    room : Room k (width s r)
    room = room-place s core.range i p h lo hi

    pub appended-row : (x : ℕ) → rows_of s (with_node s memory (seat i p) (appended (kind s p) (node s memory (seat i p)) (word_rows.start (width s) (line i p)) x))
        ≡ put_row (rows_of s memory) (seat i p) (line i p) (appended (kind s p) (rows_of s memory (seat i p) (line i p)) 0 x)
    appended-row x =
        row_with s memory size j j6 (appended k m q x) (length-appended k m q x ∙ (stretch j j6).long) r (appended k (R j r) 0 x) (but_appended (width s) m r k room (but_none (width s) m r) x)

    pub dropped-row : rows_of s (with_node s memory (seat i p) (dropped (kind s p) (node s memory (seat i p)) (word_rows.start (width s) (line i p))))
        ≡ put_row (rows_of s memory) (seat i p) (line i p) (dropped (kind s p) (rows_of s memory (seat i p) (line i p)) 0)
    dropped-row =
        row_with s memory size j j6 (dropped k m q) (length-dropped k m q ∙ (stretch j j6).long) r (dropped k (R j r) 0) (but_dropped (width s) m r k room (but_none (width s) m r))

    pub append-words : (L : Letter) → (N i).letters 77 ≡ L ∷ [] → length ((N i).letters p) < (kind s p).slots
        → Core s (rows_of s (with_node s memory (seat i p) (appended (kind s p) (node s memory (seat i p)) (word_rows.start (width s) (line i p)) (first L)))) (put N i (moved (N i) p ((N i).letters p ++ L ∷ []) []))
    append-words L one less =
        subst (λ (Q : ℕ → ℕ → List ℕ). Core s Q (put N i (moved (N i) p ((N i).letters p ++ L ∷ []) []))) (sym (appended-row (first L))) (append_keeps s R N core i p h lo hi L one less)

    pub full_words : (x : ℕ) → (kind s p).slots ≤ length ((N i).letters p)
        → Core s (rows_of s (with_node s memory (seat i p) (appended (kind s p) (node s memory (seat i p)) (word_rows.start (width s) (line i p)) x))) N
    full_words x full = subst (λ (Q : ℕ → ℕ → List ℕ). Core s Q N) (sym (appended-row x)) (full_keeps s R N core i p h lo hi x full)

    pub drop-words : (L : Letter) (ls hs : List Letter) → (N i).letters p ≡ L ∷ ls → (N i).letters 77 ≡ hs
        → Core s (rows_of s (with_node s memory (seat i p) (dropped (kind s p) (node s memory (seat i p)) (word_rows.start (width s) (line i p))))) (put N i (moved (N i) p ls (L ∷ hs)))
    drop-words L ls hs e e' =
        subst (λ (Q : ℕ → ℕ → List ℕ). Core s Q (put N i (moved (N i) p ls (L ∷ hs)))) (sym dropped-row) (drop_keeps s R N core i p h lo hi L ls hs e e')

  -- ---- send queue k of node i
  module _ (i k : ℕ) (h : i < 6) (g : k < 6) where
    pub send-append : (L : Letter) → (N i).letters 77 ≡ L ∷ [] → length ((N i).letters (1 + k)) < s.s
        → Core s (rows_of s (with_node s memory i (appended (send_kind s) (node s memory i) (send_at s k) (first L)))) (put N i (moved (N i) (1 + k) ((N i).letters (1 + k) ++ L ∷ []) []))
    send-append L one less =
        rw (seat-send i k g, line-send i k g, kind-send s k g, start-send s k (omega arith)) at
        (append-words i (1 + k) h (omega arith) (omega arith) L one (rw (kind-send s k g) less))

    pub send_full : (x : ℕ) → s.s ≤ length ((N i).letters (1 + k)) → Core s (rows_of s (with_node s memory i (appended (send_kind s) (node s memory i) (send_at s k) x))) N
    send_full x full =
        rw (seat-send i k g, line-send i k g, kind-send s k g, start-send s k (omega arith)) at
        (full_words i (1 + k) h (omega arith) (omega arith) x (rw (kind-send s k g) full))

    pub send-drop : (L : Letter) (ls hs : List Letter) → (N i).letters (1 + k) ≡ L ∷ ls → (N i).letters 77 ≡ hs
        → Core s (rows_of s (with_node s memory i (dropped (send_kind s) (node s memory i) (send_at s k)))) (put N i (moved (N i) (1 + k) ls (L ∷ hs)))
    send-drop L ls hs e e' =
        rw (seat-send i k g, line-send i k g, kind-send s k g, start-send s k (omega arith)) at
        (drop-words i (1 + k) h (omega arith) (omega arith) L ls hs e e')

    -- ---- acknowledge queue i on node k: letters of node i
    pub ack_append : (L : Letter) → (N i).letters 77 ≡ L ∷ [] → length ((N i).letters (7 + k)) < s.a
        → Core s (rows_of s (with_node s memory k (appended (ack_kind s) (node s memory k) (ack_at s i) (first L)))) (put N i (moved (N i) (7 + k) ((N i).letters (7 + k) ++ L ∷ []) []))
    ack_append L one less =
        rw (seat_ack i k g, line_ack i k g, kind_ack s k g, start_ack s i (omega arith)) at
        (append-words i (7 + k) h (omega arith) (omega arith) L one (rw (kind_ack s k g) less))

    pub ack_full : (x : ℕ) → s.a ≤ length ((N i).letters (7 + k)) → Core s (rows_of s (with_node s memory k (appended (ack_kind s) (node s memory k) (ack_at s i) x))) N
    ack_full x full =
        rw (seat_ack i k g, line_ack i k g, kind_ack s k g, start_ack s i (omega arith)) at
        (full_words i (7 + k) h (omega arith) (omega arith) x (rw (kind_ack s k g) full))

    pub ack_drop : (L : Letter) (ls hs : List Letter) → (N i).letters (7 + k) ≡ L ∷ ls → (N i).letters 77 ≡ hs
        → Core s (rows_of s (with_node s memory k (dropped (ack_kind s) (node s memory k) (ack_at s i)))) (put N i (moved (N i) (7 + k) ls (L ∷ hs)))
    ack_drop L ls hs e e' =
        rw (seat_ack i k g, line_ack i k g, kind_ack s k g, start_ack s i (omega arith)) at
        (drop-words i (7 + k) h (omega arith) (omega arith) L ls hs e e')

  -- ---- task queue q of node i
  module _ (i q : ℕ) (h : i < 6) (g : q < 64) (t : TaskRing s (rows_of s memory i (13 + q)) 0 (firsts ((N i).letters (13 + q)))) where
    abbrev o : List ℕ
    o = node s memory i

    abbrev at : ℕ
    at = word_rows.start (width s) (13 + q)

    is_at : at ≡ task_at s q
    is_at = start_task s q (omega arith)

    wide : Room (task_kind s) (width s (13 + q))
    wide = room_task s core.range (13 + q) (omega arith) (omega arith)

    -- the memory after an append, after a letter is taken out, and after the empty count rose: one row anew
    pub task_append-row : (x : ℕ) → rows_of s (with_node s memory i (task_appended s (node s memory i) (task_at s q) x)) ≡ put_row (rows_of s memory) i (13 + q) (task_appended s (rows_of s memory i (13 + q)) 0 x)
    task_append-row x =
        ap (λ (a : ℕ). rows_of s (with_node s memory i (task_appended s o a x))) (sym is_at)
        ∙ row_with s memory size i h (task_appended s o at x) (queues.length_task_appended s o at x ∙ (stretch i h).long) (13 + q) (task_appended s (R i (13 + q)) 0 x)
        (but_task_appended (width s) o (13 + q) s wide (but_none (width s) o (13 + q)) x)

    pub task_take-row : (n : ℕ) → rows_of s (with_node s memory i (taken_out s (node s memory i) (task_at s q) n)) ≡ put_row (rows_of s memory) i (13 + q) (taken_out s (rows_of s memory i (13 + q)) 0 n)
    task_take-row n =
        ap (λ (a : ℕ). rows_of s (with_node s memory i (taken_out s o a n))) (sym is_at)
        ∙ row_with s memory size i h (taken_out s o at n) (length-taken-out s o at n ∙ (stretch i h).long) (13 + q) (taken_out s (R i (13 + q)) 0 n)
        (but_taken (width s) o (13 + q) s wide (but_none (width s) o (13 + q)) n)

    pub task_empty_row : rows_of s (with_node s memory i (counted (node s memory i) (task_at s q + empty_word))) ≡ put_row (rows_of s memory) i (13 + q) (counted (rows_of s memory i (13 + q)) 4)
    task_empty_row =
        ap (λ (a : ℕ). rows_of s (with_node s memory i (counted o (a + 4)))) (sym is_at)
        ∙ row_with s memory size i h (counted o (at + 4)) (queues.length-counted o (at + 4) ∙ (stretch i h).long) (13 + q) (counted (R i (13 + q)) (0 + 4))
        (but_counted (width s) o (13 + q) (task_kind s) wide (but_none (width s) o (13 + q)) 4 (omega arith))

    module _ (L : Letter) (one : (N i).letters 77 ≡ L ∷ []) (some : first L ≡ 0 → ⊥) where
      pub task_append-words : length ((N i).letters (13 + q)) < s.t
          → Core s (rows_of s (with_node s memory i (task_appended s (node s memory i) (task_at s q) (first L)))) (put N i (moved (N i) (13 + q) ((N i).letters (13 + q) ++ L ∷ []) []))
      task_append-words less =
          subst (λ (Q : ℕ → ℕ → List ℕ). Core s Q (put N i (moved (N i) (13 + q) ((N i).letters (13 + q) ++ L ∷ []) []))) (sym (task_append-row (first L))) (task_append s R N core i q h g t L one some less)

      pub task_gap-words : length ((N i).letters (13 + q)) ≡ s.t → gap_flag (firsts ((N i).letters (13 + q))) ≡ 1
          → Core s (rows_of s (with_node s memory i (task_appended s (node s memory i) (task_at s q) (first L)))) (put N i (moved (N i) (13 + q) (live_ones ((N i).letters (13 + q)) ++ L ∷ []) []))
      task_gap-words full gaps =
          subst (λ (Q : ℕ → ℕ → List ℕ). Core s Q (put N i (moved (N i) (13 + q) (live_ones ((N i).letters (13 + q)) ++ L ∷ []) []))) (sym (task_append-row (first L))) (task_append-gap s R N core i q h g t L one some full gaps)

    pub task_full_words : (x : ℕ) → length ((N i).letters (13 + q)) ≡ s.t → gap_flag (firsts ((N i).letters (13 + q))) ≡ 0
        → Core s (rows_of s (with_node s memory i (task_appended s (node s memory i) (task_at s q) x))) N
    task_full_words x full gaps = subst (λ (Q : ℕ → ℕ → List ℕ). Core s Q N) (sym (task_append-row x)) (task_full s R N core i q h g t x full gaps)

    pub task_take-words : (n : ℕ) → n < length ((N i).letters (13 + q)) → (N i).letters 77 ≡ []
        → Core s (rows_of s (with_node s memory i (taken_out s (node s memory i) (task_at s q) n)))
        (put N i (moved (N i) (13 + q) (letters_without n ((N i).letters (13 + q))) (get_or ((N i).letters (13 + q)) n gap ∷ [])))
    task_take-words n is none =
        subst (λ (Q : ℕ → ℕ → List ℕ). Core s Q (put N i (moved (N i) (13 + q) (letters_without n ((N i).letters (13 + q))) (get_or ((N i).letters (13 + q)) n gap ∷ [])))) (sym (task_take-row n)) (task_take s R N core i q h g t n is none)

    pub task_empty_words : Core s (rows_of s (with_node s memory i (counted (node s memory i) (task_at s q + empty_word)))) N
    task_empty_words = subst (λ (Q : ℕ → ℕ → List ℕ). Core s Q N) (sym task_empty_row) (task_empty s R N core i q h g t)
