-- WHAT HOLDS BETWEEN MOVES IS KEPT by a send to a task queue or to a send queue, a receive, an acknowledgement, a letter handed over. Assumes nothing.
--     send_task_works, send-gap_works, send-queue_works, receive_works, acknowledge_works, hand_over_works
use mathlib.Core.Path.{◌≡◌, refl, sym, ap, ◌∙◌, subst}
use mathlib.Core.Bool.{true}
use mathlib.Core.List.{List, [], ◌∷◌, ◌++◌}
use Prim.Native.Nat.{ℕ, zero, suc, ◌+◌, ◌-◌, ◌*◌, ◌≤◌, ◌<◌}
use native.Mathlib.Nat.{zero-mul}
use native.Mathlib.Omega.{arith}
use lib.ListN.{length, get_or, take, drop}
use lib.Seq.{length-take-le}
use Rattle.words.proofs.Count.{occurs-split, down_range}
use Rattle.words.proofs.Lists.{put, put_same, put_other, put-put, same?}
use Rattle.settings.specs.declared.Settings.{Settings}
use Rattle.settings.specs.Range.{InRange}
use Rattle.layout.specs.Places.{node_size, memory_size, node, with_node, send_at, ack_at, task_at, first_free_at}
use Rattle.blocks.specs.Chain.{needs}
use Rattle.blocks.specs.Moves.{taken, given_back}
use Rattle.blocks.proofs.Moves.{length_taken, length-given}
use Rattle.letters.specs.Letter.{written}
use Rattle.letters.proofs.Rows.{needs-enough, length-laid}
use Rattle.queues.specs.Queue.{send_kind, ack_kind}
use Rattle.queues.specs.Moves.{appended, dropped}
use Rattle.queues.specs.Items.{gap_flag}
use Rattle.queues.proofs.Tasks.{TaskRing}
use Rattle.queues.proofs.Views.{length-appended, length-dropped}
use Rattle.gaps.specs.Close.{task_appended}
use Rattle.gaps.proofs.Closed.{append-room, append-gap}
use Rattle.taking.specs.Take.{taken_out}
use Rattle.taking.proofs.Taken.{taken_task, length_taken as length-taken-out}
use Rattle.sound.specs.Letters.{from_to, right_place}
use Rattle.machine.proofs.Places.{seat-send, line-send, kind-send, seat_ack, line_ack, kind_ack}
use Rattle.moves.proofs.Memory.{with_long, with_node_lem, rows_with, rows_away}
use Rattle.layout.proofs.NodeRows.{by-send, by_ack, start-send, start_ack}
use Rattle.sound.specs.Queues.{task_of}
use Rattle.machine.specs.Machine.{Letter, gap, first, firsts, Live, Node, All}
use Rattle.machine.specs.Core.{rows_of, Core}
use Rattle.machine.specs.Represents.{Right, InOrder, Flagged}
use Rattle.blocks.proofs.Rows.{rows}
use Rattle.machine.proofs.Letters.{all_append, firsts-append, length-firsts, first_in_lem}
use Rattle.machine.proofs.Gives.{gives_stretch, gives_row}
use Rattle.moves.specs.Letters.{live_ones}
use Rattle.moves.proofs.Made.{put_row, moved, placed, letters_without, Working}
use Rattle.moves.proofs.Rows.{row_same, row_other, moved_transit}
use Rattle.moves.proofs.Core.{free-most}
use Rattle.moves.proofs.Items.{firsts-live, all_live, firsts-without, all_without}
use Rattle.moves.proofs.Queues.{length_task_appended}
use Rattle.moves.proofs.Calls.{send_task_row, send_task_other, send_task_words, send-gap-words, send-queue-words, send-queue_other, receive-words, receive-row, acknowledge_words, hand_over}
use Rattle.moves.proofs.Words.{give_row, appended-row, dropped-row, ack_drop}
use Rattle.moves.proofs.Formed.{Fit, order-put, flags-put, working_put}

-- a letter needs a block at least
pub needs_some : (s : Settings) → InRange s → (n : ℕ) → 1 ≤ n → 1 ≤ needs s n
needs_some s r n h = go (needs s n) (needs-enough s r n)
  where
    go : (k : ℕ) → n ≤ k * (s.b - 1) → 1 ≤ k
    go zero e = absurd (omega (arith, zero-mul (s.b - 1)))
    go (suc k) e = omega arith

-- a letter from i to j may stand in the send queue to j and in the acknowledge queue on j
place_same : (table : List ℕ) (i j : ℕ) (ws : List ℕ) → j < 6 → right_place table i (1 + j) ws ≡ right_place table i (7 + j) ws
unfolding right_place
place_same table i j ws g =
    let e : 1 + j - 1 ≡ j = omega arith in
    let e' : 7 + j - 7 ≡ j = omega arith in
    by-send (1 + j) true (from_to i (1 + j - 1) ws) (from_to i (1 + j - 7) ws) _ true (omega arith) (omega arith)
    ∙ ap (λ (x : ℕ). from_to i x ws) (e ∙ sym e')
    ∙ sym (by_ack (7 + j) true (from_to i (7 + j - 1) ws) (from_to i (7 + j - 7) ws) _ true (omega arith) (omega arith))

module _ (s : Settings) (table memory : List ℕ) (N : ℕ → Node) (wk : Working s table memory N) where
  abbrev core : Core s (rows_of s memory) N
  core = wk.core

  ring : (i q : ℕ) → i < 6 → q < 64 → TaskRing s (rows_of s memory i (13 + q)) 0 (firsts ((N i).letters (13 + q)))
  ring i q h g = gives_row s memory wk.size N core i q h g (wk.flags i q h g) (wk.order.fronts i q h g)

  -- ---- a letter with words ws taken from the free list of node i
  module _ (i : ℕ) (h : i < 6) (p : ℕ) (ws : List ℕ) (ok : Right table i p ws) (has : needs s (length ws) ≤ length (N i).free) where
    abbrev n : ℕ
    n = needs s (length ws)

    abbrev L : Letter
    L = record { chain = take (needs s (length ws)) (N i).free; words = ws }

    some : 1 ≤ n
    some = needs_some s core.range (length ws) (omega (arith, ok.least))

    live_l : Live L
    live_l = rw (length-take-le n (N i).free has) some

    begins : first L ≡ 0 → ⊥
    begins e =
        let o = first_in_lem L live_l in
        let r = down_range s.m (first L) (omega (arith, free-most s (rows_of s memory) N core i (first L) h, occurs-split (first L) n (N i).free)) in
        omega arith

    none : (N i).letters 77 ≡ []
    none = wk.order.still i h

    -- the stretch with the letter written
    abbrev l₂ : List ℕ
    l₂ = written s (taken s (node s memory i) (needs s (length ws))) (get_or (node s memory i) first_free_at 0) ws

    long₂ : length l₂ ≡ node_size s
    long₂ =
        length-laid s n (taken s (node s memory i) n) (get_or (node s memory i) 0 0) ws ∙ length_taken s (node s memory i) n ∙ (gives_stretch s memory wk.size N core i h).long

  -- ---- A SEND TO A TASK QUEUE
  module _ (i q : ℕ) (h : i < 6) (g : q < 64) (ws : List ℕ) (ok : Right table i (13 + q) ws) (bound : task_of table i q ≡ 0 → ⊥)
      (has : needs s (length ws) ≤ length (N i).free) where
    abbrev ls : List Letter
    ls = (N i).letters (13 + q)

    abbrev K : Letter
    K = record { chain = take (needs s (length ws)) (N i).free; words = ws }

    abbrev l₃ : List ℕ
    l₃ = task_appended s (written s (taken s (node s memory i) (needs s (length ws))) (get_or (node s memory i) first_free_at 0) ws) (task_at s q) (get_or (node s memory i) first_free_at 0)

    pub long₃ : length (task_appended s (written s (taken s (node s memory i) (needs s (length ws))) (get_or (node s memory i) first_free_at 0) ws) (task_at s q) (get_or (node s memory i) first_free_at 0)) ≡ node_size s
    long₃ = length_task_appended s (l₂ i h (13 + q) ws ok has) (task_at s q) (get_or (node s memory i) 0 0) ∙ long₂ i h (13 + q) ws ok has

    fit : (ks : List Letter) → All (λ X. Live X → Right table i (13 + q) X.words) ks → TaskRing s (task_appended s (rows_of s memory i (13 + q)) 0 (first K)) 0 (firsts ks) → Fit table i (13 + q) ks
    fit ks r t =
        record {
          live = λ c. absurd (omega arith);
          front = λ c. t.first;
          right = r;
          itself = λ e. absurd (omega arith);
          itself_ack = λ e. absurd (omega arith);
          unbound = λ q' e z. absurd (bound (subst (λ (x : ℕ). task_of table i x ≡ 0) (same_q q' e) z));
        }
      where
        same_q : (q' : ℕ) → 13 + q ≡ 13 + q' → q' ≡ q
        same_q q' e = omega arith

    here : (ks : List Letter) → TaskRing s (task_appended s (rows_of s memory i (13 + q)) 0 (first K)) 0 (firsts ks) → (q' : ℕ) → q' < 64 → 13 + q ≡ 13 + q'
        → get_or (rows_of s (with_node s memory i l₃) i (13 + q')) 2 0 ≡ gap_flag (firsts ks)
    here ks t q' a e =
        ap (λ (y : ℕ). get_or (rows_of s (with_node s memory i l₃) i y) 2 0) (sym e)
        ∙ ap (λ (w : List ℕ). get_or w 2 0)
        (send_task_row s memory wk.size N core i h (none i h (13 + q) ws ok has) ws (some i h (13 + q) ws ok has) has q g (ring i q h g) (begins i h (13 + q) ws ok has))
        ∙ t.flag

    other : (q' : ℕ) → q' < 64 → (13 + q ≡ 13 + q' → ⊥) → rows_of s (with_node s memory i l₃) i (13 + q') ≡ rows_of s memory i (13 + q')
    other q' a e =
        send_task_other s memory wk.size N core i h (none i h (13 + q) ws ok has) ws (some i h (13 + q) ws ok has) has q g (ring i q h g) (begins i h (13 + q) ws ok has) (13 + q') (omega arith) (omega arith) (λ z. e (sym z))

    -- with room
    pub send_task_works : length ((N i).letters (13 + q)) < s.t
        → Working s table (with_node s memory i (task_appended s (written s (taken s (node s memory i) (needs s (length ws))) (get_or (node s memory i) first_free_at 0) ws) (task_at s q) (get_or (node s memory i) first_free_at 0)))
        (put N i (placed (N i) (drop (needs s (length ws)) (N i).free) (13 + q) ((N i).letters (13 + q) ++ record { chain = take (needs s (length ws)) (N i).free; words = ws } ∷ [])))
    send_task_works less =
        let ks : List Letter = ls ++ K ∷ [] in
        let t : TaskRing s (task_appended s (rows_of s memory i (13 + q)) 0 (first K)) 0 (firsts ks) =
        rw (firsts-append ls (K ∷ [])) (append-room s (rows_of s memory i (13 + q)) 0 (firsts ls) (ring i q h g) (first K) (begins i h (13 + q) ws ok has) (rw (length-firsts ls) less)).0 in
        let r = all_append (λ (X : Letter). Live X → Right table i (13 + q) X.words) ls (K ∷ []) (wk.order.letters i (13 + q) h (omega arith)) ((λ a. ok), tt) in
        working_put s table memory N wk i h l₃ long₃ (drop (needs s (length ws)) (N i).free) (13 + q) (omega arith) ks (fit ks r t)
        (send_task_words s memory wk.size N core i h (none i h (13 + q) ws ok has) ws (some i h (13 + q) ws ok has) has q g (ring i q h g) (begins i h (13 + q) ws ok has) less)
        (here ks t) other

    -- at its length with a gap
    pub send-gap_works : length ((N i).letters (13 + q)) ≡ s.t → gap_flag (firsts ((N i).letters (13 + q))) ≡ 1
        → Working s table (with_node s memory i (task_appended s (written s (taken s (node s memory i) (needs s (length ws))) (get_or (node s memory i) first_free_at 0) ws) (task_at s q) (get_or (node s memory i) first_free_at 0)))
        (put N i (placed (N i) (drop (needs s (length ws)) (N i).free) (13 + q) (live_ones ((N i).letters (13 + q)) ++ record { chain = take (needs s (length ws)) (N i).free; words = ws } ∷ [])))
    send-gap_works full gaps =
        let ks : List Letter = live_ones ls ++ K ∷ [] in
        let t : TaskRing s (task_appended s (rows_of s memory i (13 + q)) 0 (first K)) 0 (firsts ks) =
        rw (firsts-append (live_ones ls) (K ∷ []), firsts-live ls) (append-gap s (rows_of s memory i (13 + q)) 0 (firsts ls) (ring i q h g) (first K) (begins i h (13 + q) ws ok has) (length-firsts ls ∙ full) gaps).0 in
        let P : Letter → Type 0 = λ X. Live X → Right table i (13 + q) X.words in
        let r = all_append P (live_ones ls) (K ∷ []) (all_live P ls (wk.order.letters i (13 + q) h (omega arith))) ((λ a. ok), tt) in
        working_put s table memory N wk i h l₃ long₃ (drop (needs s (length ws)) (N i).free) (13 + q) (omega arith) ks (fit ks r t)
        (send-gap-words s memory wk.size N core i h (none i h (13 + q) ws ok has) ws (some i h (13 + q) ws ok has) has q g (ring i q h g) (begins i h (13 + q) ws ok has) full gaps)
        (here ks t) other

  -- ---- A SEND TO A SEND QUEUE
  module _ (i k : ℕ) (h : i < 6) (g : k < 6) (apart : k ≡ i → ⊥) (ws : List ℕ) (ok : Right table i (1 + k) ws)
      (has : needs s (length ws) ≤ length (N i).free) (less : length ((N i).letters (1 + k)) < s.s) where
    abbrev qs : List Letter
    qs = (N i).letters (1 + k)

    abbrev J : Letter
    J = record { chain = take (needs s (length ws)) (N i).free; words = ws }

    abbrev l₄ : List ℕ
    l₄ = appended (send_kind s) (written s (taken s (node s memory i) (needs s (length ws))) (get_or (node s memory i) first_free_at 0) ws) (send_at s k) (get_or (node s memory i) first_free_at 0)

    pub long₄ : length (appended (send_kind s) (written s (taken s (node s memory i) (needs s (length ws))) (get_or (node s memory i) first_free_at 0) ws) (send_at s k) (get_or (node s memory i) first_free_at 0)) ≡ node_size s
    long₄ = length-appended (send_kind s) (l₂ i h (1 + k) ws ok has) (send_at s k) (get_or (node s memory i) 0 0) ∙ long₂ i h (1 + k) ws ok has

    fit_queue : Fit table i (1 + k) (qs ++ J ∷ [])
    fit_queue =
        record {
          live = λ c. all_append Live qs (J ∷ []) (wk.order.live i (1 + k) h (omega arith)) (live_l i h (1 + k) ws ok has, tt);
          front = λ c. absurd (omega arith);
          right = all_append (λ (X : Letter). Live X → Right table i (1 + k) X.words) qs (J ∷ []) (wk.order.letters i (1 + k) h (omega arith)) ((λ a. ok), tt);
          itself = λ e. absurd (apart (omega arith));
          itself_ack = λ e. absurd (omega arith);
          unbound = λ q e. absurd (omega arith);
        }

    pub send-queue_works : Working s table (with_node s memory i (appended (send_kind s) (written s (taken s (node s memory i) (needs s (length ws))) (get_or (node s memory i) first_free_at 0) ws) (send_at s k) (get_or (node s memory i) first_free_at 0)))
        (put N i (placed (N i) (drop (needs s (length ws)) (N i).free) (1 + k) ((N i).letters (1 + k) ++ record { chain = take (needs s (length ws)) (N i).free; words = ws } ∷ [])))
    send-queue_works =
        working_put s table memory N wk i h l₄ long₄ (drop (needs s (length ws)) (N i).free) (1 + k) (omega arith) (qs ++ J ∷ []) fit_queue
        (send-queue-words s memory wk.size N core i h (none i h (1 + k) ws ok has) ws (some i h (1 + k) ws ok has) has k g less)
        (λ q a e. absurd (omega arith))
        (λ q a e. send-queue_other s memory wk.size N core i h (none i h (1 + k) ws ok has) ws (some i h (1 + k) ws ok has) has k g (13 + q) (omega arith) (omega arith) (λ z. e (sym z)))

  -- ---- A RECEIVE: the letter at place n of task queue q of node i
  module _ (i q n : ℕ) (h : i < 6) (g : q < 64) (is : n < length ((N i).letters (13 + q))) (live : Live (get_or ((N i).letters (13 + q)) n gap)) where
    abbrev ts : List Letter
    ts = (N i).letters (13 + q)

    abbrev T : Letter
    T = get_or ((N i).letters (13 + q)) n gap

    abbrev l₅ : List ℕ
    l₅ = given_back s (taken_out s (node s memory i) (task_at s q) n) (length (get_or ((N i).letters (13 + q)) n gap).chain) (first (get_or ((N i).letters (13 + q)) n gap))

    pub long₅ : length (given_back s (taken_out s (node s memory i) (task_at s q) n) (length (get_or ((N i).letters (13 + q)) n gap).chain) (first (get_or ((N i).letters (13 + q)) n gap))) ≡ node_size s
    long₅ =
        length-given s (taken_out s (node s memory i) (task_at s q) n) (length T.chain) (first T)
        ∙ length-taken-out s (node s memory i) (task_at s q) n ∙ (gives_stretch s memory wk.size N core i h).long

    still : (N i).letters 77 ≡ []
    still = wk.order.still i h

    after : TaskRing s (taken_out s (rows_of s memory i (13 + q)) 0 n) 0 (firsts (letters_without n ts))
    after = rw (firsts-without n ts) (taken_task s (rows_of s memory i (13 + q)) 0 (firsts ts) n (ring i q h g) (rw (length-firsts ts) is))

    row_of : (r : ℕ) → 1 ≤ r → r < 77 → rows_of s (with_node s memory i l₅) i r ≡ put_row (rows_of s memory) i (13 + q) (taken_out s (rows_of s memory i (13 + q)) 0 n) i r
    row_of = receive-row s memory wk.size N core i q n h g still (ring i q h g) is live

    fit_rest : Fit table i (13 + q) (letters_without n ts)
    fit_rest =
        record {
          live = λ c. absurd (omega arith);
          front = λ c. after.first;
          right = all_without (λ (X : Letter). Live X → Right table i (13 + q) X.words) n ts (λ a. absurd (omega arith)) (wk.order.letters i (13 + q) h (omega arith));
          itself = λ e. absurd (omega arith);
          itself_ack = λ e. absurd (omega arith);
          unbound = λ q' e z. absurd (nothing (wk.order.unbound i q h g (subst (λ (x : ℕ). task_of table i x ≡ 0) (same_q q' e) z)));
        }
      where
        same_q : (q' : ℕ) → 13 + q ≡ 13 + q' → q' ≡ q
        same_q q' e = omega arith

        nothing : ts ≡ [] → ⊥
        nothing e = omega (arith, ap length e)

    pub receive_works : Working s table (with_node s memory i (given_back s (taken_out s (node s memory i) (task_at s q) n) (length (get_or ((N i).letters (13 + q)) n gap).chain) (first (get_or ((N i).letters (13 + q)) n gap))))
        (put N i (placed (N i) ((get_or ((N i).letters (13 + q)) n gap).chain ++ (N i).free) (13 + q) (letters_without n ((N i).letters (13 + q)))))
    receive_works =
        working_put s table memory N wk i h l₅ long₅ (T.chain ++ (N i).free) (13 + q) (omega arith) (letters_without n ts) fit_rest
        (receive-words s memory wk.size N core i q n h g still (ring i q h g) is live)
        (λ q' a e.
        ap (λ (y : ℕ). get_or (rows_of s (with_node s memory i l₅) i y) 2 0) (sym e)
        ∙ ap (λ (w : List ℕ). get_or w 2 0) (row_of (13 + q) (omega arith) (omega arith) ∙ row_same (rows_of s memory) i (13 + q) (taken_out s (rows_of s memory i (13 + q)) 0 n))
        ∙ after.flag)
        (λ q' a e. row_of (13 + q') (omega arith) (omega arith) ∙ row_other (rows_of s memory) i (13 + q) (taken_out s (rows_of s memory i (13 + q)) 0 n) i (13 + q') (λ z. e (sym z)))

  -- ---- AN ACKNOWLEDGEMENT
  module _ (i k : ℕ) (h : i < 6) (g : k < 6) (apart : k ≡ i → ⊥) (L : Letter) (rest : List Letter) (e : (N i).letters (7 + k) ≡ L ∷ rest) where
    abbrev d : List ℕ
    d = dropped (ack_kind s) (node s memory k) (ack_at s i)

    long_d : length d ≡ node_size s
    long_d = length-dropped (ack_kind s) (node s memory k) (ack_at s i) ∙ (gives_stretch s memory wk.size N core k g).long

    abbrev m₁ : List ℕ
    m₁ = with_node s memory k d

    size_1 : length m₁ ≡ memory_size s
    size_1 = with_long s memory wk.size k g d long_d ∙ wk.size

    row_1 : (x q : ℕ) → rows_of s m₁ x (13 + q) ≡ rows_of s memory x (13 + q)
    row_1 x q =
        let c : rows_of s m₁ ≡ put_row (rows_of s memory) k (7 + i) (dropped (ack_kind s) (rows_of s memory k (7 + i)) 0) =
        rw (seat_ack i k g, line_ack i k g, kind_ack s k g, start_ack s i (omega arith)) at (dropped-row s memory wk.size N core i (7 + k) h (omega arith) (omega arith)) in
        ap (λ (Q : ℕ → ℕ → List ℕ). Q x (13 + q)) c ∙ row_other (rows_of s memory) k (7 + i) (dropped (ack_kind s) (rows_of s memory k (7 + i)) 0) x (13 + q) (λ z. omega arith)

    live_two : All Live (L ∷ rest)
    live_two = subst (All Live) e (wk.order.live i (7 + k) h (omega arith))

    right_two : All (λ X. Live X → Right table i (7 + k) X.words) (L ∷ rest)
    right_two = subst (All (λ X. Live X → Right table i (7 + k) X.words)) e (wk.order.letters i (7 + k) h (omega arith))

    fit_ack : Fit table i (7 + k) rest
    fit_ack =
        record {
          live = λ c. live_two.1;
          front = λ c. absurd (omega arith);
          right = right_two.1;
          itself = λ z. absurd (omega arith);
          itself_ack = λ z. absurd (apart (omega arith));
          unbound = λ q z. absurd (omega arith);
        }

    abbrev gb : List ℕ
    gb = given_back s (node s memory i) (length L.chain) (first L)

    long_gb : length gb ≡ node_size s
    long_gb = length-given s (node s memory i) (length L.chain) (first L) ∙ (gives_stretch s memory wk.size N core i h).long

    -- the task queues' rows are as they were
    row_2 : (x q : ℕ) → q < 64 → rows_of s (with_node s m₁ i gb) x (13 + q) ≡ rows_of s memory x (13 + q)
    row_2 x q b =
        let Y : Node = moved (N i) (7 + k) rest (L ∷ []) in
        let w : node s m₁ i ≡ node s memory i = with_node_lem s memory wk.size k g d long_d i ∙ put_other (node s memory) k d i (λ z. apart (sym z)) in
        let one : (put N i Y i).letters 77 ≡ L ∷ [] = ap (λ (Z : Node). Z.letters 77) (put_same N i Y) ∙ moved_transit (N i) (7 + k) rest (L ∷ []) (λ z. omega arith) in
        same? x i
        (λ z t.
        ap (λ (y : ℕ). rows_of s (with_node s m₁ i gb) y (13 + q)) z
        ∙ ap (λ (l : List ℕ). rows_of s (with_node s m₁ i (given_back s l (length L.chain) (first L))) i (13 + q)) (sym w)
        ∙ give_row s m₁ size_1 (put N i Y) (ack_drop s memory wk.size N core i k h g L rest [] e (wk.order.still i h)) i h L one live_two.0 (13 + q) (omega arith) (omega arith)
        ∙ row_1 i q ∙ ap (λ (y : ℕ). rows_of s memory y (13 + q)) (sym z))
        (λ z t. rows_away s m₁ size_1 i h gb long_gb x (13 + q) z ∙ row_1 x q)

    pub acknowledge_works : Working s table (with_node s (with_node s memory k (dropped (ack_kind s) (node s memory k) (ack_at s i))) i (given_back s (node s memory i) (length L.chain) (first L)))
        (put N i (placed (N i) (L.chain ++ (N i).free) (7 + k) rest))
    acknowledge_works =
        record {
          size = with_long s m₁ size_1 i h gb long_gb ∙ size_1;
          core = acknowledge_words s memory wk.size N core i k h g apart (wk.order.still i h) L rest e live_two.0;
          order = order-put N i (L.chain ++ (N i).free) (7 + k) rest table wk.order (omega arith) fit_ack;
          flags = flags-put N i (L.chain ++ (N i).free) (7 + k) rest (rows_of s memory) (rows_of s (with_node s m₁ i gb)) wk.flags (λ q a z. absurd (omega arith)) (λ x q a b n. row_2 x q b);
        }

  -- ---- A LETTER HANDED OVER
  module _ (i j : ℕ) (h : i < 6) (g : j < 6) (apart : j ≡ i → ⊥) (L : Letter) (rest : List Letter) (e : (N i).letters (1 + j) ≡ L ∷ rest) (less : length ((N i).letters (7 + j)) < s.a) where
    abbrev da : List ℕ
    da = dropped (send_kind s) (node s memory i) (send_at s j)

    abbrev ap_j : List ℕ
    ap_j = appended (ack_kind s) (node s memory j) (ack_at s i) (first L)

    long_da : length da ≡ node_size s
    long_da = length-dropped (send_kind s) (node s memory i) (send_at s j) ∙ (gives_stretch s memory wk.size N core i h).long

    long-ap : length ap_j ≡ node_size s
    long-ap = length-appended (ack_kind s) (node s memory j) (ack_at s i) (first L) ∙ (gives_stretch s memory wk.size N core j g).long

    size_j : length (with_node s memory j ap_j) ≡ memory_size s
    size_j = with_long s memory wk.size j g ap_j long-ap ∙ wk.size

    live_first : All Live (L ∷ rest)
    live_first = subst (All Live) e (wk.order.live i (1 + j) h (omega arith))

    right_first : All (λ X. Live X → Right table i (1 + j) X.words) (L ∷ rest)
    right_first = subst (All (λ X. Live X → Right table i (1 + j) X.words)) e (wk.order.letters i (1 + j) h (omega arith))

    -- the places are from i to j both
    moved_right : Right table i (7 + j) L.words
    moved_right =
        let r = right_first.0 live_first.0 in
        record { least = r.least; most = r.most; told = r.told; header = r.header; place = sym (place_same table i j L.words g) ∙ r.place }

    abbrev ks : List Letter
    ks = (N i).letters (7 + j) ++ L ∷ []

    fit_send : Fit table i (1 + j) rest
    fit_send =
        record {
          live = λ c. live_first.1;
          front = λ c. absurd (omega arith);
          right = right_first.1;
          itself = λ z. absurd (apart (omega arith));
          itself_ack = λ z. absurd (omega arith);
          unbound = λ q z. absurd (omega arith);
        }

    fit_over : Fit table i (7 + j) ks
    fit_over =
        record {
          live = λ c. all_append Live ((N i).letters (7 + j)) (L ∷ []) (wk.order.live i (7 + j) h (omega arith)) (live_first.0, tt);
          front = λ c. absurd (omega arith);
          right = all_append (λ (X : Letter). Live X → Right table i (7 + j) X.words) ((N i).letters (7 + j)) (L ∷ []) (wk.order.letters i (7 + j) h (omega arith)) ((λ a. moved_right), tt);
          itself = λ z. absurd (omega arith);
          itself_ack = λ z. absurd (apart (omega arith));
          unbound = λ q z. absurd (omega arith);
        }

    abbrev N₁ : ℕ → Node
    N₁ = put N i (placed (N i) (N i).free (1 + j) rest)

    nodes_over : put N₁ i (placed (N₁ i) (N i).free (7 + j) ks) ≡ put N i (placed (placed (N i) (N i).free (1 + j) rest) (N i).free (7 + j) ks)
    nodes_over =
        put-put N i (placed (N i) (N i).free (1 + j) rest) (placed (N₁ i) (N i).free (7 + j) ks)
        ∙ ap (λ (Z : Node). put N i (placed Z (N i).free (7 + j) ks)) (put_same N i (placed (N i) (N i).free (1 + j) rest))

    abbrev R₂ : ℕ → ℕ → List ℕ
    R₂ = rows_of s (with_node s (with_node s memory j ap_j) i da)

    row_over : (x q : ℕ) → q < 64 → R₂ x (13 + q) ≡ rows_of s memory x (13 + q)
    row_over x q b =
        let c : rows_of s (with_node s memory j ap_j) ≡ put_row (rows_of s memory) j (7 + i) (appended (ack_kind s) (rows_of s memory j (7 + i)) 0 (first L)) =
        rw (seat_ack i j g, line_ack i j g, kind_ack s j g, start_ack s i (omega arith)) at (appended-row s memory wk.size N core i (7 + j) h (omega arith) (omega arith) (first L)) in
        let c' : rows_of s (with_node s memory i da) ≡ put_row (rows_of s memory) i (1 + j) (dropped (send_kind s) (rows_of s memory i (1 + j)) 0) =
        rw (seat-send i j g, line-send i j g, kind-send s j g, start-send s j (omega arith)) at (dropped-row s memory wk.size N core i (1 + j) h (omega arith) (omega arith)) in
        same? x i
        (λ z t.
        ap (λ (Q : ℕ → ℕ → List ℕ). Q x (13 + q)) (rows_with s (with_node s memory j ap_j) size_j i h da long_da)
        ∙ ap (λ (y : ℕ). put (rows_of s (with_node s memory j ap_j)) i (rows s da) y (13 + q)) z
        ∙ ap (λ (f : ℕ → List ℕ). f (13 + q)) (put_same (rows_of s (with_node s memory j ap_j)) i (rows s da) ∙ sym (put_same (rows_of s memory) i (rows s da)))
        ∙ sym (ap (λ (Q : ℕ → ℕ → List ℕ). Q i (13 + q)) (rows_with s memory wk.size i h da long_da))
        ∙ ap (λ (Q : ℕ → ℕ → List ℕ). Q i (13 + q)) c'
        ∙ row_other (rows_of s memory) i (1 + j) (dropped (send_kind s) (rows_of s memory i (1 + j)) 0) i (13 + q) (λ y. omega arith)
        ∙ ap (λ (y : ℕ). rows_of s memory y (13 + q)) (sym z))
        (λ z t.
        rows_away s (with_node s memory j ap_j) size_j i h da long_da x (13 + q) z
        ∙ ap (λ (Q : ℕ → ℕ → List ℕ). Q x (13 + q)) c
        ∙ row_other (rows_of s memory) j (7 + i) (appended (ack_kind s) (rows_of s memory j (7 + i)) 0 (first L)) x (13 + q) (λ y. omega arith))

    pub hand_over_works : Working s table (with_node s (with_node s memory j (appended (ack_kind s) (node s memory j) (ack_at s i) (first L))) i (dropped (send_kind s) (node s memory i) (send_at s j)))
        (put N i (placed (placed (N i) (N i).free (1 + j) rest) (N i).free (7 + j) ((N i).letters (7 + j) ++ L ∷ [])))
    hand_over_works =
        record {
          size = with_long s (with_node s memory j ap_j) size_j i h da long_da ∙ size_j;
          core = hand_over s memory wk.size N core i j h g apart (wk.order.still i h) L rest e less;
          order = subst (InOrder table) nodes_over
              (order-put N₁ i (N i).free (7 + j) ks table (order-put N i (N i).free (1 + j) rest table wk.order (omega arith) fit_send) (omega arith) fit_over);
          flags = subst (Flagged R₂) nodes_over
              (flags-put N₁ i (N i).free (7 + j) ks R₂ R₂
              (flags-put N i (N i).free (1 + j) rest (rows_of s memory) R₂ wk.flags (λ q a z. absurd (omega arith)) (λ x q a b n. row_over x q b))
              (λ q a z. absurd (omega arith)) (λ x q a b n. refl));
        }
