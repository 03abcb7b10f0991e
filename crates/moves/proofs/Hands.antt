-- WHAT HOLDS BETWEEN MOVES IS KEPT where a postman takes a copy in his hand, and where the letter in his hand goes to a task queue. Assumes nothing.
--     hold_works     blocks taken, a letter's words written, the letter held; resume_works, resume_gap_works     from the hand to a task queue
use mathlib.Core.Path.{◌≡◌, refl, sym, ap, ◌∙◌, subst}
use mathlib.Core.List.{List, [], ◌∷◌, ◌++◌}
use Prim.Native.Nat.{ℕ, ◌+◌, ◌≤◌, ◌<◌}
use native.Mathlib.Omega.{arith}
use lib.ListN.{length, get_or, take, drop}
use lib.Seq.{length-take-le}
use Rattle.words.proofs.Lists.{put, put_same, put-put}
use Rattle.settings.specs.declared.Settings.{Settings}
use Rattle.layout.specs.Places.{node_size, node, with_node, task_at, first_free_at}
use Rattle.blocks.specs.Chain.{needs}
use Rattle.blocks.specs.Moves.{taken}
use Rattle.blocks.proofs.Moves.{length_taken}
use Rattle.letters.specs.Letter.{written}
use Rattle.letters.proofs.Rows.{length-laid}
use Rattle.queues.specs.Items.{gap_flag}
use Rattle.queues.proofs.Tasks.{TaskRing}
use Rattle.gaps.specs.Close.{task_appended}
use Rattle.gaps.proofs.Closed.{append-room, append-gap}
use Rattle.sound.specs.Queues.{task_of}
use Rattle.machine.specs.Machine.{Letter, first, firsts, Live, Node, All}
use Rattle.machine.specs.Core.{rows_of, Core}
use Rattle.machine.specs.Represents.{Right, InOrder, Flagged}
use Rattle.machine.proofs.Letters.{all_append, firsts-append, length-firsts}
use Rattle.machine.proofs.Gives.{gives_stretch, gives_row}
use Rattle.moves.specs.Letters.{live_ones}
use Rattle.moves.proofs.Made.{put_row, placed, Working}
use Rattle.moves.proofs.Rows.{row_same, row_apart}
use Rattle.moves.proofs.Items.{firsts-live, all_live}
use Rattle.moves.proofs.Queues.{length_task_appended}
use Rattle.moves.proofs.Memory.{with_long}
use Rattle.moves.proofs.Words.{task_append-row}
use Rattle.moves.proofs.Calls.{grab_row, hold_words, resume_words, resume_gap-words}
use Rattle.moves.proofs.Formed.{Fit, order-put, flags-put, working_put}
use Rattle.moves.proofs.Works.{needs_some}

module _ (s : Settings) (table memory : List ℕ) (N : ℕ → Node) (wk : Working s table memory N) where
  -- ---- A COPY HELD in the hand of node j's postman
  module _ (j : ℕ) (h : j < 6) (ws : List ℕ) (ok : Right table j 0 ws) (has : needs s (length ws) ≤ length (N j).free) (empty : (N j).letters 0 ≡ []) where
    abbrev n : ℕ
    n = needs s (length ws)

    abbrev L : Letter
    L = record { chain = take (needs s (length ws)) (N j).free; words = ws }

    abbrev l : List ℕ
    l = written s (taken s (node s memory j) (needs s (length ws))) (get_or (node s memory j) first_free_at 0) ws

    some : 1 ≤ n
    some = needs_some s wk.core.range (length ws) (omega (arith, ok.least))

    pub hold_long : length (written s (taken s (node s memory j) (needs s (length ws))) (get_or (node s memory j) first_free_at 0) ws) ≡ node_size s
    hold_long =
        length-laid s n (taken s (node s memory j) n) (get_or (node s memory j) 0 0) ws ∙ length_taken s (node s memory j) n ∙ (gives_stretch s memory wk.size N wk.core j h).long

    pub hold_works : Working s table (with_node s memory j (written s (taken s (node s memory j) (needs s (length ws))) (get_or (node s memory j) first_free_at 0) ws))
        (put N j (placed (N j) (drop (needs s (length ws)) (N j).free) 0 (record { chain = take (needs s (length ws)) (N j).free; words = ws } ∷ [])))
    hold_works =
        working_put s table memory N wk j h l hold_long (drop n (N j).free) 0 (omega arith) (L ∷ [])
        (record {
          live = λ c. (rw (length-take-le n (N j).free has) some, tt);
          front = λ c. absurd (omega arith);
          right = ((λ a. ok), tt);
          itself = λ e. absurd (omega arith);
          itself_ack = λ e. absurd (omega arith);
          unbound = λ q e. absurd (omega arith);
        })
        (hold_words s memory wk.size N wk.core j h (wk.order.still j h) ws some has empty)
        (λ q a e. absurd (omega arith))
        (λ q a e. grab_row s memory wk.size N wk.core j h (wk.order.still j h) ws some has (13 + q) (omega arith) (omega arith))

  -- ---- THE LETTER IN THE HAND of node j's postman goes to task queue q of j
  module _ (j q : ℕ) (h : j < 6) (g : q < 64) (L : Letter) (one : (N j).letters 0 ≡ L ∷ []) (begins : first L ≡ 0 → ⊥) (ok : Right table j (13 + q) L.words) (bound : task_of table j q ≡ 0 → ⊥) where
    abbrev ls : List Letter
    ls = (N j).letters (13 + q)

    abbrev v : List ℕ
    v = rows_of s memory j (13 + q)

    ring : TaskRing s v 0 (firsts ls)
    ring = gives_row s memory wk.size N wk.core j q h g (wk.flags j q h g) (wk.order.fronts j q h g)

    abbrev l₁ : List ℕ
    l₁ = task_appended s (node s memory j) (task_at s q) (first L)

    long₁ : length l₁ ≡ node_size s
    long₁ = length_task_appended s (node s memory j) (task_at s q) (first L) ∙ (gives_stretch s memory wk.size N wk.core j h).long

    abbrev N₁ : ℕ → Node
    N₁ = put N j (placed (N j) (N j).free 0 [])

    fit_hand : Fit table j 0 []
    fit_hand =
        record {
          live = λ c. tt;
          front = λ c. absurd (omega arith);
          right = tt;
          itself = λ e. refl;
          itself_ack = λ e. refl;
          unbound = λ q e z. refl;
        }

    same_q : (q' : ℕ) → 13 + q ≡ 13 + q' → q' ≡ q
    same_q q' e = omega arith

    module _ (ks : List Letter) (right : All (λ X. Live X → Right table j (13 + q) X.words) ks) (t : TaskRing s (task_appended s (rows_of s memory j (13 + q)) 0 (first L)) 0 (firsts ks))
        (core : Core s (rows_of s (with_node s memory j (task_appended s (node s memory j) (task_at s q) (first L)))) (put N j (placed (placed (N j) (N j).free 0 []) (N j).free (13 + q) ks))) where
      fit : Fit table j (13 + q) ks
      fit =
          record {
            live = λ c. absurd (omega arith);
            front = λ c. t.first;
            right = right;
            itself = λ e. absurd (omega arith);
            itself_ack = λ e. absurd (omega arith);
            unbound = λ q' e z. absurd (bound (subst (λ (x : ℕ). task_of table j x ≡ 0) (same_q q' e) z));
          }

      nodes : put N₁ j (placed (N₁ j) (N j).free (13 + q) ks) ≡ put N j (placed (placed (N j) (N j).free 0 []) (N j).free (13 + q) ks)
      nodes =
          put-put N j (placed (N j) (N j).free 0 []) (placed (N₁ j) (N j).free (13 + q) ks)
          ∙ ap (λ (Z : Node). put N j (placed Z (N j).free (13 + q) ks)) (put_same N j (placed (N j) (N j).free 0 []))

      abbrev R' : ℕ → ℕ → List ℕ
      R' = rows_of s (with_node s memory j l₁)

      rows_are : R' ≡ put_row (rows_of s memory) j (13 + q) (task_appended s v 0 (first L))
      rows_are = task_append-row s memory wk.size N wk.core j q h g ring (first L)

      flags : Flagged R' (put N₁ j (placed (N₁ j) (N j).free (13 + q) ks))
      flags =
          flags-put N₁ j (N j).free (13 + q) ks (rows_of s memory) R'
          (flags-put N j (N j).free 0 [] (rows_of s memory) (rows_of s memory) wk.flags (λ q a z. absurd (omega arith)) (λ k q a b n. refl))
          (λ q' a e. ap (λ (y : ℕ). get_or (R' j y) 2 0) (sym e) ∙ ap (λ (Q : ℕ → ℕ → List ℕ). get_or (Q j (13 + q)) 2 0) rows_are
          ∙ ap (λ (w : List ℕ). get_or w 2 0) (row_same (rows_of s memory) j (13 + q) (task_appended s v 0 (first L))) ∙ t.flag)
          (λ k q' a b n. ap (λ (Q : ℕ → ℕ → List ℕ). Q k (13 + q')) rows_are ∙ row_apart (rows_of s memory) j (13 + q) (task_appended s v 0 (first L)) k (13 + q') (λ u z. n u (sym z)))

      works : Working s table (with_node s memory j (task_appended s (node s memory j) (task_at s q) (first L))) (put N j (placed (placed (N j) (N j).free 0 []) (N j).free (13 + q) ks))
      works =
          record {
            size = with_long s memory wk.size j h l₁ long₁ ∙ wk.size;
            core = core;
            order = subst (InOrder table) nodes
                (order-put N₁ j (N j).free (13 + q) ks table (order-put N j (N j).free 0 [] table wk.order (omega arith) fit_hand) (omega arith) fit);
            flags = subst (Flagged R') nodes flags;
          }

    -- with room
    pub resume_works : length ((N j).letters (13 + q)) < s.t
        → Working s table (with_node s memory j (task_appended s (node s memory j) (task_at s q) (first L))) (put N j (placed (placed (N j) (N j).free 0 []) (N j).free (13 + q) ((N j).letters (13 + q) ++ L ∷ [])))
    resume_works less =
        let P : Letter → Type 0 = λ X. Live X → Right table j (13 + q) X.words in
        works (ls ++ L ∷ []) (all_append P ls (L ∷ []) (wk.order.letters j (13 + q) h (omega arith)) ((λ a. ok), tt))
        (rw (firsts-append ls (L ∷ [])) (append-room s v 0 (firsts ls) ring (first L) begins (rw (length-firsts ls) less)).0)
        (resume_words s memory wk.size N wk.core j q h g (wk.order.still j h) L one begins ring less)

    -- at its length with a gap
    pub resume_gap_works : length ((N j).letters (13 + q)) ≡ s.t → gap_flag (firsts ((N j).letters (13 + q))) ≡ 1
        → Working s table (with_node s memory j (task_appended s (node s memory j) (task_at s q) (first L))) (put N j (placed (placed (N j) (N j).free 0 []) (N j).free (13 + q) (live_ones ((N j).letters (13 + q)) ++ L ∷ [])))
    resume_gap_works full gaps =
        let P : Letter → Type 0 = λ X. Live X → Right table j (13 + q) X.words in
        works (live_ones ls ++ L ∷ []) (all_append P (live_ones ls) (L ∷ []) (all_live P ls (wk.order.letters j (13 + q) h (omega arith))) ((λ a. ok), tt))
        (rw (firsts-append (live_ones ls) (L ∷ []), firsts-live ls) (append-gap s v 0 (firsts ls) ring (first L) begins (length-firsts ls ∙ full) gaps).0)
        (resume_gap-words s memory wk.size N wk.core j q h g (wk.order.still j h) L one begins ring full gaps)
