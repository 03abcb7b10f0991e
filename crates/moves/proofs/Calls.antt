-- Moves joined: what the calls do, in words, from the core to the core. Assumes nothing.
--     grab_words     blocks taken and a letter written into them: the letter is on its way
--     send_task_words, send-gap-words, send-queue-words     and appended: a send
--     receive-words     a letter taken out of a task queue and its chain given back: a receive
--     acknowledge_words     an acknowledge item dropped and its chain given back on its own node
--     hold_words, resume_words, resume_gap-words     a copy held in the hand, and from the hand to a task queue
--     hand_over     a send item's block appended to an acknowledge queue, and the item dropped
use mathlib.Core.Path.{◌≡◌, refl, sym, ap, ap₂, ◌∙◌, subst, fun_ext}
use mathlib.Core.List.{List, [], ◌∷◌, ◌++◌}
use Prim.Native.Nat.{ℕ, ◌+◌, ◌≤◌, ◌<◌}
use native.Mathlib.Omega.{arith}
use lib.ListN.{length, get_or, take, drop}
use lib.Seq.{length-take-le, get_or-take}
use Rattle.words.proofs.Lists.{put, put_same, put_other, put-put, same?}
use Rattle.settings.specs.declared.Settings.{Settings}
use Rattle.layout.specs.Places.{node_size, memory_size, node, with_node, send_at, ack_at, task_at, first_free_at}
use Rattle.blocks.specs.Chain.{needs, text}
use Rattle.blocks.specs.Moves.{taken, given_back}
use Rattle.blocks.proofs.Moves.{length_taken}
use Rattle.taking.proofs.Taken.{length_taken as length-taken-out}
use Rattle.letters.specs.Letter.{written}
use Rattle.letters.proofs.Rows.{length-laid}
use Rattle.queues.specs.Queue.{send_kind, ack_kind}
use Rattle.queues.specs.Moves.{appended, dropped}
use Rattle.queues.specs.Items.{gap_flag}
use Rattle.queues.proofs.Tasks.{TaskRing}
use Rattle.queues.proofs.Views.{length-appended, length-dropped}
use Rattle.gaps.specs.Close.{task_appended}
use Rattle.taking.specs.Take.{taken_out}
use Rattle.machine.specs.Machine.{Letter, gap, first, firsts, Live, Node}
use Rattle.machine.specs.Core.{rows_of, Core}
use Rattle.machine.proofs.Spelled.{list_first}
use Rattle.machine.proofs.Places.{seat-send, line-send, kind-send}
use Rattle.blocks.proofs.Rows.{rows}
use Rattle.layout.proofs.NodeRows.{start-send}
use Rattle.machine.proofs.Gives.{gives_stretch, gives_list}
use Rattle.moves.specs.Letters.{live_ones}
use Rattle.moves.proofs.Made.{put_row, moved, freed, placed, letters_without}
use Rattle.moves.proofs.Rows.{moved_transit, moved_other, freed_transit, freed_other, row_same, row_other}
use Rattle.moves.proofs.Core.{hold_keeps, resume_keeps}
use Rattle.moves.proofs.Memory.{node_with, with_with, with_long, with_node_lem, rows_with}
use Rattle.moves.proofs.Words.{take_row, take_words, write_row, write_words, give_words, give_row, appended-row, send-append, send-drop, ack_append, ack_drop, task_append-row, task_take-row, task_append-words, task_gap-words, task_take-words}
use Rattle.moves.proofs.Trace.{trace_append, trace_give, trace_move, trace_write}

module _ (s : Settings) where
  -- a core seen through equal rows and equal nodes
  along : {R R' : ℕ → ℕ → List ℕ} {N N' : ℕ → Node} → R ≡ R' → N ≡ N' → Core s R N → Core s R' N'
  along {R} {R'} {N} {N'} e f c = subst (λ (Q : ℕ → ℕ → List ℕ). Core s Q N') e (subst (λ (M : ℕ → Node). Core s R M) f c)

module _ (s : Settings) (memory : List ℕ) (size : length memory ≡ memory_size s) (N : ℕ → Node) (core : Core s (rows_of s memory) N) where
  -- ---- TAKE AND WRITE
  module _ (i : ℕ) (h : i < 6) (none : (N i).letters 77 ≡ []) (ws : List ℕ) (some : 1 ≤ needs s (length ws)) (has : needs s (length ws) ≤ length (N i).free) where
    abbrev l : List ℕ
    l = node s memory i

    abbrev n : ℕ
    n = needs s (length ws)

    -- the first free block begins the letter
    abbrev f : ℕ
    f = get_or (node s memory i) first_free_at 0

    abbrev L : Letter
    L = record { chain = take (needs s (length ws)) (N i).free; words = ws }

    pub first_is : get_or (take (needs s (length ws)) (N i).free) 0 0 ≡ get_or (node s memory i) first_free_at 0
    first_is =
        get_or-take n (N i).free 0 0 some
        ∙ ap (λ (c : List ℕ). get_or c 0 0) (sym (gives_list s memory size N core i h))
        ∙ list_first s l s.m f core.range.m.low

    abbrev L₀ : Letter
    L₀ = record { chain = take (needs s (length ws)) (N i).free; words = take (length ws) (text s (node s memory i) (take (needs s (length ws)) (N i).free)) }

    abbrev l₁ : List ℕ
    l₁ = taken s (node s memory i) (needs s (length ws))

    long₁ : length l₁ ≡ node_size s
    long₁ = length_taken s l n ∙ (gives_stretch s memory size N core i h).long

    abbrev m₁ : List ℕ
    m₁ = with_node s memory i l₁

    size₁ : length m₁ ≡ memory_size s
    size₁ = with_long s memory size i h l₁ long₁ ∙ size

    abbrev X₁ : Node
    X₁ = freed (N i) (drop n (N i).free) (L₀ ∷ [])

    core₁ : Core s (rows_of s m₁) (put N i X₁)
    core₁ = take_words s memory size N core i h none n (length ws) some has refl

    one₁ : (put N i X₁ i).letters 77 ≡ L₀ ∷ []
    one₁ = ap (λ (Y : Node). Y.letters 77) (put_same N i X₁) ∙ freed_transit (N i) (drop n (N i).free) (L₀ ∷ [])

    need₁ : length L₀.chain ≡ needs s (length ws)
    need₁ = length-take-le n (N i).free has

    abbrev l₂ : List ℕ
    l₂ = written s (taken s (node s memory i) (needs s (length ws))) (get_or (node s memory i) first_free_at 0) ws

    long₂ : length l₂ ≡ node_size s
    long₂ = length-laid s n l₁ f ws ∙ long₁

    memory₂ : with_node s m₁ i (written s (node s m₁ i) (first L₀) ws) ≡ with_node s memory i l₂
    memory₂ =
        ap₂ (λ (k : List ℕ) (b : ℕ). with_node s m₁ i (written s k b ws)) (node_with s memory size i h l₁ long₁) first_is
        ∙ with_with s memory size i h l₁ long₁ l₂

    free-put : (put N i X₁ i).free ≡ drop n (N i).free
    unfolding freed
    free-put = ap (λ (Y : Node). Y.free) (put_same N i X₁)

    nodes₂ : put (put N i X₁) i (freed (put N i X₁ i) (put N i X₁ i).free (L ∷ [])) ≡ put N i (freed (N i) (drop n (N i).free) (L ∷ []))
    nodes₂ =
        put-put N i X₁ (freed (put N i X₁ i) (put N i X₁ i).free (L ∷ []))
        ∙ ap (put N i)
        (ap₂ (λ (Y : Node) (c : List ℕ). freed Y c (L ∷ [])) (put_same N i X₁) free-put
        ∙ trace_write (N i) (drop n (N i).free) (drop n (N i).free) (L₀ ∷ []) (L ∷ []))

    -- the letter is on its way
    pub grab_words : Core s (rows_of s (with_node s memory i (written s (taken s (node s memory i) (needs s (length ws))) (get_or (node s memory i) first_free_at 0) ws)))
        (put N i (freed (N i) (drop (needs s (length ws)) (N i).free) (record { chain = take (needs s (length ws)) (N i).free; words = ws } ∷ [])))
    grab_words = along s (ap (rows_of s) memory₂) nodes₂ (write_words s m₁ size₁ (put N i X₁) core₁ i h L₀ one₁ ws need₁)

    -- and no queue's row has changed
    pub grab_row : (r : ℕ) → 1 ≤ r → r < 77
        → rows_of s (with_node s memory i (written s (taken s (node s memory i) (needs s (length ws))) (get_or (node s memory i) first_free_at 0) ws)) i r ≡ rows_of s memory i r
    grab_row r a b =
        ap (λ (m : List ℕ). rows_of s m i r) (sym memory₂)
        ∙ write_row s m₁ size₁ (put N i X₁) core₁ i h L₀ one₁ ws need₁ r a b
        ∙ take_row s memory size N core i h none n (length ws) some has refl r a b

    -- ---- the memory with the letter on its way
    abbrev m₂ : List ℕ
    m₂ = with_node s memory i l₂

    size₂ : length m₂ ≡ memory_size s
    size₂ = with_long s memory size i h l₂ long₂ ∙ size

    abbrev X₂ : Node
    X₂ = freed (N i) (drop n (N i).free) (L ∷ [])

    one₂ : (put N i X₂ i).letters 77 ≡ L ∷ []
    one₂ = ap (λ (Y : Node). Y.letters 77) (put_same N i X₂) ∙ freed_transit (N i) (drop n (N i).free) (L ∷ [])

    letters₂ : (p : ℕ) → (p ≡ 77 → ⊥) → (put N i X₂ i).letters p ≡ (N i).letters p
    letters₂ p ne = ap (λ (Y : Node). Y.letters p) (put_same N i X₂) ∙ freed_other (N i) (drop n (N i).free) (L ∷ []) p ne

    nodes₃ : (p : ℕ) (ks : List Letter) → (p ≡ 77 → ⊥) → put (put N i X₂) i (moved (put N i X₂ i) p ks []) ≡ put N i (placed (N i) (drop n (N i).free) p ks)
    nodes₃ p ks ne =
        put-put N i X₂ (moved (put N i X₂ i) p ks [])
        ∙ ap (put N i) (ap (λ (Y : Node). moved Y p ks []) (put_same N i X₂) ∙ trace_append (N i) p ks (L ∷ []) ne none (drop n (N i).free))

    -- what an append to the stretch leaves of the memory
    memory₃ : (g : List ℕ → ℕ → List ℕ) → with_node s m₂ i (g (node s m₂ i) (first L)) ≡ with_node s memory i (g l₂ f)
    memory₃ g =
        ap₂ (λ (k : List ℕ) (b : ℕ). with_node s m₂ i (g k b)) (node_with s memory size i h l₂ long₂) first_is
        ∙ with_with s memory size i h l₂ long₂ (g l₂ f)

    -- ---- A COPY HELD: the letter written is held in the hand, as at stage 2
    pub hold_words : (N i).letters 0 ≡ []
        → Core s (rows_of s (with_node s memory i (written s (taken s (node s memory i) (needs s (length ws))) (get_or (node s memory i) first_free_at 0) ws)))
        (put N i (placed (N i) (drop (needs s (length ws)) (N i).free) 0 (record { chain = take (needs s (length ws)) (N i).free; words = ws } ∷ [])))
    hold_words empty =
        let z : ◌≡◌ {A = ℕ} 0 77 → ⊥ = λ e. omega arith in
        along s refl (nodes₃ 0 (L ∷ []) z) (hold_keeps s (rows_of s m₂) (put N i X₂) grab_words i h L (letters₂ 0 z ∙ empty) one₂)

    -- ---- A SEND to a task queue
    module _ (q : ℕ) (g : q < 64) (t : TaskRing s (rows_of s memory i (13 + q)) 0 (firsts ((N i).letters (13 + q)))) (begins : first L ≡ 0 → ⊥) where
      not_77 : 13 + q ≡ 77 → ⊥
      not_77 e = omega arith

      same_ls : (put N i X₂ i).letters (13 + q) ≡ (N i).letters (13 + q)
      same_ls = letters₂ (13 + q) not_77

      ring₂ : TaskRing s (rows_of s m₂ i (13 + q)) 0 (firsts ((put N i X₂ i).letters (13 + q)))
      ring₂ =
          subst (λ (w : List ℕ). TaskRing s w 0 (firsts ((put N i X₂ i).letters (13 + q)))) (sym (grab_row (13 + q) (omega arith) (omega arith)))
          (subst (λ (k : List Letter). TaskRing s (rows_of s memory i (13 + q)) 0 (firsts k)) (sym same_ls) t)

      -- the queue's row has the append, and no other queue's row changes
      memory_task : rows_of s (with_node s memory i (task_appended s l₂ (task_at s q) f)) ≡ put_row (rows_of s m₂) i (13 + q) (task_appended s (rows_of s m₂ i (13 + q)) 0 (first L))
      memory_task =
          ap (rows_of s) (sym (memory₃ (λ k b. task_appended s k (task_at s q) b)))
          ∙ task_append-row s m₂ size₂ (put N i X₂) grab_words i q h g ring₂ (first L)

      pub send_task_row : rows_of s (with_node s memory i (task_appended s (written s (taken s (node s memory i) (needs s (length ws))) (get_or (node s memory i) first_free_at 0) ws) (task_at s q) (get_or (node s memory i) first_free_at 0))) i (13 + q)
          ≡ task_appended s (rows_of s memory i (13 + q)) 0 (get_or (take (needs s (length ws)) (N i).free) 0 0)
      send_task_row =
          ap (λ (Q : ℕ → ℕ → List ℕ). Q i (13 + q)) memory_task
          ∙ row_same (rows_of s m₂) i (13 + q) (task_appended s (rows_of s m₂ i (13 + q)) 0 (first L))
          ∙ ap (λ (w : List ℕ). task_appended s w 0 (first L)) (grab_row (13 + q) (omega arith) (omega arith))

      pub send_task_other : (r : ℕ) → 1 ≤ r → r < 77 → (r ≡ 13 + q → ⊥)
          → rows_of s (with_node s memory i (task_appended s (written s (taken s (node s memory i) (needs s (length ws))) (get_or (node s memory i) first_free_at 0) ws) (task_at s q) (get_or (node s memory i) first_free_at 0))) i r ≡ rows_of s memory i r
      send_task_other r a b d =
          ap (λ (Q : ℕ → ℕ → List ℕ). Q i r) memory_task
          ∙ row_other (rows_of s m₂) i (13 + q) (task_appended s (rows_of s m₂ i (13 + q)) 0 (first L)) i r d
          ∙ grab_row r a b

      pub send_task_words : length ((N i).letters (13 + q)) < s.t
          → Core s (rows_of s (with_node s memory i (task_appended s (written s (taken s (node s memory i) (needs s (length ws))) (get_or (node s memory i) first_free_at 0) ws) (task_at s q) (get_or (node s memory i) first_free_at 0))))
          (put N i (placed (N i) (drop (needs s (length ws)) (N i).free) (13 + q) ((N i).letters (13 + q) ++ record { chain = take (needs s (length ws)) (N i).free; words = ws } ∷ [])))
      send_task_words less =
          along s (ap (rows_of s) (memory₃ (λ k b. task_appended s k (task_at s q) b)))
          (nodes₃ (13 + q) ((put N i X₂ i).letters (13 + q) ++ L ∷ []) not_77 ∙ ap (λ (k : List Letter). put N i (placed (N i) (drop n (N i).free) (13 + q) (k ++ L ∷ []))) same_ls)
          (task_append-words s m₂ size₂ (put N i X₂) grab_words i q h g ring₂ L one₂ begins (subst (λ (k : List Letter). length k < s.t) (sym same_ls) less))

      pub send-gap-words : length ((N i).letters (13 + q)) ≡ s.t → gap_flag (firsts ((N i).letters (13 + q))) ≡ 1
          → Core s (rows_of s (with_node s memory i (task_appended s (written s (taken s (node s memory i) (needs s (length ws))) (get_or (node s memory i) first_free_at 0) ws) (task_at s q) (get_or (node s memory i) first_free_at 0))))
          (put N i (placed (N i) (drop (needs s (length ws)) (N i).free) (13 + q) (live_ones ((N i).letters (13 + q)) ++ record { chain = take (needs s (length ws)) (N i).free; words = ws } ∷ [])))
      send-gap-words full gaps =
          along s (ap (rows_of s) (memory₃ (λ k b. task_appended s k (task_at s q) b)))
          (nodes₃ (13 + q) (live_ones ((put N i X₂ i).letters (13 + q)) ++ L ∷ []) not_77 ∙ ap (λ (k : List Letter). put N i (placed (N i) (drop n (N i).free) (13 + q) (live_ones k ++ L ∷ []))) same_ls)
          (task_gap-words s m₂ size₂ (put N i X₂) grab_words i q h g ring₂ L one₂ begins
          (subst (λ (k : List Letter). length k ≡ s.t) (sym same_ls) full) (subst (λ (k : List Letter). gap_flag (firsts k) ≡ 1) (sym same_ls) gaps))

    -- ---- A SEND to a send queue
    pub send-queue-words : (k : ℕ) → k < 6 → length ((N i).letters (1 + k)) < s.s
        → Core s (rows_of s (with_node s memory i (appended (send_kind s) (written s (taken s (node s memory i) (needs s (length ws))) (get_or (node s memory i) first_free_at 0) ws) (send_at s k) (get_or (node s memory i) first_free_at 0))))
        (put N i (placed (N i) (drop (needs s (length ws)) (N i).free) (1 + k) ((N i).letters (1 + k) ++ record { chain = take (needs s (length ws)) (N i).free; words = ws } ∷ [])))
    send-queue-words k g less =
        let ne : 1 + k ≡ 77 → ⊥ = λ e. omega arith in
        let e : (put N i X₂ i).letters (1 + k) ≡ (N i).letters (1 + k) = letters₂ (1 + k) ne in
        along s (ap (rows_of s) (memory₃ (λ x b. appended (send_kind s) x (send_at s k) b)))
        (nodes₃ (1 + k) ((put N i X₂ i).letters (1 + k) ++ L ∷ []) ne ∙ ap (λ (x : List Letter). put N i (placed (N i) (drop n (N i).free) (1 + k) (x ++ L ∷ []))) e)
        (send-append s m₂ size₂ (put N i X₂) grab_words i k h g L one₂ (subst (λ (x : List Letter). length x < s.s) (sym e) less))

    pub send-queue_other : (k : ℕ) → k < 6 → (r : ℕ) → 1 ≤ r → r < 77 → (r ≡ 1 + k → ⊥)
        → rows_of s (with_node s memory i (appended (send_kind s) (written s (taken s (node s memory i) (needs s (length ws))) (get_or (node s memory i) first_free_at 0) ws) (send_at s k) (get_or (node s memory i) first_free_at 0))) i r ≡ rows_of s memory i r
    send-queue_other k g r a b d =
        let c = appended-row s m₂ size₂ (put N i X₂) grab_words i (1 + k) h (omega arith) (omega arith) (first L) in
        let c' : rows_of s (with_node s m₂ i (appended (send_kind s) (node s m₂ i) (send_at s k) (first L))) ≡ put_row (rows_of s m₂) i (1 + k) (appended (send_kind s) (rows_of s m₂ i (1 + k)) 0 (first L)) =
        rw (seat-send i k g, line-send i k g, kind-send s k g, start-send s k (omega arith)) at c in
        ap (λ (m : List ℕ). rows_of s m i r) (sym (memory₃ (λ x y. appended (send_kind s) x (send_at s k) y)))
        ∙ ap (λ (Q : ℕ → ℕ → List ℕ). Q i r) c'
        ∙ row_other (rows_of s m₂) i (1 + k) (appended (send_kind s) (rows_of s m₂ i (1 + k)) 0 (first L)) i r d
        ∙ grab_row r a b

  -- ---- A LETTER OUT OF PLACE p OF NODE i IS ON ITS WAY in memory m: its chain is given back
  module _ (i : ℕ) (h : i < 6) (none : (N i).letters 77 ≡ []) (p : ℕ) (ne : p ≡ 77 → ⊥) (L : Letter) (ks : List Letter) (live : Live L) (m : List ℕ) (long : length m ≡ memory_size s)
      (out : Core s (rows_of s m) (put N i (moved (N i) p ks (L ∷ [])))) where
    abbrev Y : Node
    Y = moved (N i) p ks (L ∷ [])

    free_y : (put N i Y i).free ≡ (N i).free
    unfolding moved
    free_y = ap (λ (Z : Node). Z.free) (put_same N i Y)

    pub back-words : Core s (rows_of s (with_node s m i (given_back s (node s m i) (length L.chain) (first L)))) (put N i (placed (N i) (L.chain ++ (N i).free) p ks))
    back-words =
        along s refl
        (put-put N i Y (freed (put N i Y i) (L.chain ++ (put N i Y i).free) [])
        ∙ ap (put N i) (ap₂ (λ (Z : Node) (c : List ℕ). freed Z (L.chain ++ c) []) (put_same N i Y) free_y ∙ trace_give (N i) p ks (L ∷ []) ne none (L.chain ++ (N i).free)))
        (give_words s m long (put N i Y) out i h L (ap (λ (Z : Node). Z.letters 77) (put_same N i Y) ∙ moved_transit (N i) p ks (L ∷ []) ne) live)

  -- ---- A RECEIVE: the letter at place n of task queue q, taken out and given back
  pub receive-words : (i q n : ℕ) → i < 6 → q < 64 → (N i).letters 77 ≡ [] → TaskRing s (rows_of s memory i (13 + q)) 0 (firsts ((N i).letters (13 + q)))
      → n < length ((N i).letters (13 + q)) → Live (get_or ((N i).letters (13 + q)) n gap)
      → Core s (rows_of s (with_node s memory i (given_back s (taken_out s (node s memory i) (task_at s q) n) (length (get_or ((N i).letters (13 + q)) n gap).chain) (first (get_or ((N i).letters (13 + q)) n gap)))))
      (put N i (placed (N i) ((get_or ((N i).letters (13 + q)) n gap).chain ++ (N i).free) (13 + q) (letters_without n ((N i).letters (13 + q)))))
  receive-words i q n h g none t is live =
      let L : Letter = get_or ((N i).letters (13 + q)) n gap in
      let o : List ℕ = taken_out s (node s memory i) (task_at s q) n in
      let z : length o ≡ node_size s = length-taken-out s (node s memory i) (task_at s q) n ∙ (gives_stretch s memory size N core i h).long in
      along s
      (ap (λ (x : List ℕ). rows_of s (with_node s (with_node s memory i o) i (given_back s x (length L.chain) (first L)))) (node_with s memory size i h o z)
      ∙ ap (rows_of s) (with_with s memory size i h o z (given_back s o (length L.chain) (first L))))
      refl
      (back-words i h none (13 + q) (λ e. omega arith) L (letters_without n ((N i).letters (13 + q))) live (with_node s memory i o) (with_long s memory size i h o z ∙ size)
      (task_take-words s memory size N core i q h g t n is none))

  pub receive-row : (i q n : ℕ) (h : i < 6) (g : q < 64) (none : (N i).letters 77 ≡ []) (t : TaskRing s (rows_of s memory i (13 + q)) 0 (firsts ((N i).letters (13 + q))))
      (is : n < length ((N i).letters (13 + q))) (live : Live (get_or ((N i).letters (13 + q)) n gap)) (r : ℕ) → 1 ≤ r → r < 77
      → rows_of s (with_node s memory i (given_back s (taken_out s (node s memory i) (task_at s q) n) (length (get_or ((N i).letters (13 + q)) n gap).chain) (first (get_or ((N i).letters (13 + q)) n gap)))) i r
      ≡ put_row (rows_of s memory) i (13 + q) (taken_out s (rows_of s memory i (13 + q)) 0 n) i r
  receive-row i q n h g none t is live r a b =
      let L : Letter = get_or ((N i).letters (13 + q)) n gap in
      let o : List ℕ = taken_out s (node s memory i) (task_at s q) n in
      let z : length o ≡ node_size s = length-taken-out s (node s memory i) (task_at s q) n ∙ (gives_stretch s memory size N core i h).long in
      let Y : Node = moved (N i) (13 + q) (letters_without n ((N i).letters (13 + q))) (L ∷ []) in
      let one : (put N i Y i).letters 77 ≡ L ∷ [] = ap (λ (Z : Node). Z.letters 77) (put_same N i Y) ∙ moved_transit (N i) (13 + q) (letters_without n ((N i).letters (13 + q))) (L ∷ []) (λ e. omega arith) in
      sym (ap (λ (x : List ℕ). rows_of s (with_node s (with_node s memory i o) i (given_back s x (length L.chain) (first L))) i r) (node_with s memory size i h o z)
      ∙ ap (λ (m : List ℕ). rows_of s m i r) (with_with s memory size i h o z (given_back s o (length L.chain) (first L))))
      ∙ give_row s (with_node s memory i o) (with_long s memory size i h o z ∙ size) (put N i Y) (task_take-words s memory size N core i q h g t n is none) i h L one live r a b
      ∙ ap (λ (Q : ℕ → ℕ → List ℕ). Q i r) (task_take-row s memory size N core i q h g t n)

  -- ---- AN ACKNOWLEDGEMENT: the first item of acknowledge queue i on node k is dropped, its chain given back on node i
  pub acknowledge_words : (i k : ℕ) → i < 6 → k < 6 → (k ≡ i → ⊥) → (N i).letters 77 ≡ [] → (L : Letter) (ls : List Letter) → (N i).letters (7 + k) ≡ L ∷ ls → Live L
      → Core s (rows_of s (with_node s (with_node s memory k (dropped (ack_kind s) (node s memory k) (ack_at s i))) i (given_back s (node s memory i) (length L.chain) (first L))))
      (put N i (placed (N i) (L.chain ++ (N i).free) (7 + k) ls))
  acknowledge_words i k h g apart none L ls e live =
      let d : List ℕ = dropped (ack_kind s) (node s memory k) (ack_at s i) in
      let z : length d ≡ node_size s = length-dropped (ack_kind s) (node s memory k) (ack_at s i) ∙ (gives_stretch s memory size N core k g).long in
      let w : node s (with_node s memory k d) i ≡ node s memory i = with_node_lem s memory size k g d z i ∙ put_other (node s memory) k d i (λ q. apart (sym q)) in
      along s (ap (λ (x : List ℕ). rows_of s (with_node s (with_node s memory k d) i (given_back s x (length L.chain) (first L)))) w) refl
      (back-words i h none (7 + k) (λ q. omega arith) L ls live (with_node s memory k d) (with_long s memory size k g d z ∙ size) (ack_drop s memory size N core i k h g L ls [] e none))

  -- ---- HANDED OVER: the first letter of the send queue of node i to node j goes to acknowledge queue i on node j
  pub hand_over : (i j : ℕ) → i < 6 → j < 6 → (j ≡ i → ⊥) → (N i).letters 77 ≡ [] → (L : Letter) (ls : List Letter) → (N i).letters (1 + j) ≡ L ∷ ls → length ((N i).letters (7 + j)) < s.a
      → Core s (rows_of s (with_node s (with_node s memory j (appended (ack_kind s) (node s memory j) (ack_at s i) (first L))) i (dropped (send_kind s) (node s memory i) (send_at s j))))
      (put N i (placed (placed (N i) (N i).free (1 + j) ls) (N i).free (7 + j) ((N i).letters (7 + j) ++ L ∷ [])))
  hand_over i j h g apart none L ls e less =
      let d : List ℕ = dropped (send_kind s) (node s memory i) (send_at s j) in
      let a : List ℕ = appended (ack_kind s) (node s memory j) (ack_at s i) (first L) in
      let zd : length d ≡ node_size s = length-dropped (send_kind s) (node s memory i) (send_at s j) ∙ (gives_stretch s memory size N core i h).long in
      let za : length a ≡ node_size s = length-appended (ack_kind s) (node s memory j) (ack_at s i) (first L) ∙ (gives_stretch s memory size N core j g).long in
      let ld : length (with_node s memory i d) ≡ memory_size s = with_long s memory size i h d zd ∙ size in
      let la : length (with_node s memory j a) ≡ memory_size s = with_long s memory size j g a za ∙ size in
      let w : node s (with_node s memory i d) j ≡ node s memory j = with_node_lem s memory size i h d zd j ∙ put_other (node s memory) i d j apart in
      let X : Node = moved (N i) (1 + j) ls (L ∷ []) in
      let p77 : 1 + j ≡ 77 → ⊥ = λ z. omega arith in
      let q77 : 7 + j ≡ 77 → ⊥ = λ z. omega arith in
      let one : (put N i X i).letters 77 ≡ L ∷ [] = ap (λ (Z : Node). Z.letters 77) (put_same N i X) ∙ moved_transit (N i) (1 + j) ls (L ∷ []) p77 in
      let k : (put N i X i).letters (7 + j) ≡ (N i).letters (7 + j) =
      ap (λ (Z : Node). Z.letters (7 + j)) (put_same N i X) ∙ moved_other (N i) (1 + j) ls (L ∷ []) p77 (7 + j) (λ z. omega arith) q77 in
      along s
      (ap (λ (x : List ℕ). rows_of s (with_node s (with_node s memory i d) j (appended (ack_kind s) x (ack_at s i) (first L)))) w
      ∙ rows_with s (with_node s memory i d) ld j g a za
      ∙ ap (λ (Q : ℕ → ℕ → List ℕ). put Q j (rows s a)) (rows_with s memory size i h d zd)
      ∙ put_swap (rows_of s memory) i j (rows s d) (rows s a) apart
      ∙ ap (λ (Q : ℕ → ℕ → List ℕ). put Q i (rows s d)) (sym (rows_with s memory size j g a za))
      ∙ sym (rows_with s (with_node s memory j a) la i h d zd))
      (put-put N i X (moved (put N i X i) (7 + j) ((put N i X i).letters (7 + j) ++ L ∷ []) [])
      ∙ ap (put N i)
      (ap₂ (λ (Z : Node) (x : List Letter). moved Z (7 + j) (x ++ L ∷ []) []) (put_same N i X) k
      ∙ trace_move (N i) (1 + j) ls (L ∷ []) p77 none (7 + j) ((N i).letters (7 + j) ++ L ∷ []) q77))
      (ack_append s (with_node s memory i d) ld (put N i X) (send-drop s memory size N core i j h g L ls [] e none) i j h g L one (subst (λ (x : List Letter). length x < s.a) (sym k) less))
    where
      put_swap : (f : ℕ → ℕ → List ℕ) (i j : ℕ) (x y : ℕ → List ℕ) → (j ≡ i → ⊥) → put (put f i x) j y ≡ put (put f j y) i x
      put_swap f i j x y n =
          fun_ext (λ k. same? k i
          (λ e t. same? k j (λ e' t'. absurd (n (sym e' ∙ e))) (λ e' t'. rw (t, t')))
          (λ e t. same? k j (λ e' t'. rw (t, t')) (λ e' t'. rw (t, t'))))

  -- ---- RESUMED: the letter in the hand goes to a task queue
  module _ (i q : ℕ) (h : i < 6) (g : q < 64) (none : (N i).letters 77 ≡ []) (L : Letter) (one : (N i).letters 0 ≡ L ∷ []) (begins : first L ≡ 0 → ⊥)
      (t : TaskRing s (rows_of s memory i (13 + q)) 0 (firsts ((N i).letters (13 + q)))) where
    abbrev Z : Node
    Z = moved (N i) 0 [] (L ∷ [])

    zero_77 : ◌≡◌ {A = ℕ} 0 77 → ⊥
    zero_77 e = omega arith

    q_77 : 13 + q ≡ 77 → ⊥
    q_77 e = omega arith

    core_z : Core s (rows_of s memory) (put N i Z)
    core_z = resume_keeps s (rows_of s memory) N core i h L one none

    one_z : (put N i Z i).letters 77 ≡ L ∷ []
    one_z = ap (λ (Y : Node). Y.letters 77) (put_same N i Z) ∙ moved_transit (N i) 0 [] (L ∷ []) zero_77

    same_z : (put N i Z i).letters (13 + q) ≡ (N i).letters (13 + q)
    same_z = ap (λ (Y : Node). Y.letters (13 + q)) (put_same N i Z) ∙ moved_other (N i) 0 [] (L ∷ []) zero_77 (13 + q) (λ e. omega arith) q_77

    ring_z : TaskRing s (rows_of s memory i (13 + q)) 0 (firsts ((put N i Z i).letters (13 + q)))
    ring_z = subst (λ (k : List Letter). TaskRing s (rows_of s memory i (13 + q)) 0 (firsts k)) (sym same_z) t

    nodes_z : (ks : List Letter) → put (put N i Z) i (moved (put N i Z i) (13 + q) ks []) ≡ put N i (placed (placed (N i) (N i).free 0 []) (N i).free (13 + q) ks)
    nodes_z ks =
        put-put N i Z (moved (put N i Z i) (13 + q) ks [])
        ∙ ap (put N i) (ap (λ (Y : Node). moved Y (13 + q) ks []) (put_same N i Z) ∙ trace_move (N i) 0 [] (L ∷ []) zero_77 none (13 + q) ks q_77)

    pub resume_words : length ((N i).letters (13 + q)) < s.t
        → Core s (rows_of s (with_node s memory i (task_appended s (node s memory i) (task_at s q) (first L))))
        (put N i (placed (placed (N i) (N i).free 0 []) (N i).free (13 + q) ((N i).letters (13 + q) ++ L ∷ [])))
    resume_words less =
        along s refl
        (nodes_z ((put N i Z i).letters (13 + q) ++ L ∷ []) ∙ ap (λ (k : List Letter). put N i (placed (placed (N i) (N i).free 0 []) (N i).free (13 + q) (k ++ L ∷ []))) same_z)
        (task_append-words s memory size (put N i Z) core_z i q h g ring_z L one_z begins (subst (λ (k : List Letter). length k < s.t) (sym same_z) less))

    pub resume_gap-words : length ((N i).letters (13 + q)) ≡ s.t → gap_flag (firsts ((N i).letters (13 + q))) ≡ 1
        → Core s (rows_of s (with_node s memory i (task_appended s (node s memory i) (task_at s q) (first L))))
        (put N i (placed (placed (N i) (N i).free 0 []) (N i).free (13 + q) (live_ones ((N i).letters (13 + q)) ++ L ∷ [])))
    resume_gap-words full gaps =
        along s refl
        (nodes_z (live_ones ((put N i Z i).letters (13 + q)) ++ L ∷ []) ∙ ap (λ (k : List Letter). put N i (placed (placed (N i) (N i).free 0 []) (N i).free (13 + q) (live_ones k ++ L ∷ []))) same_z)
        (task_gap-words s memory size (put N i Z) core_z i q h g ring_z L one_z begins
        (subst (λ (k : List Letter). length k ≡ s.t) (sym same_z) full) (subst (λ (k : List Letter). gap_flag (firsts k) ≡ 1) (sym same_z) gaps))
