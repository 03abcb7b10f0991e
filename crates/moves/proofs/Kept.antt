-- FROM SOUND TO SOUND: after a send to a task queue or to a send queue, and after a receive, the memory represents the machine after it. Assumes nothing.
--     send_task_kept, send-gap-kept, send-queue-kept, receive-kept; turn-kept     whose turn, stored anew; kept-sound     so the memory is sound
use mathlib.Core.Path.{◌≡◌, refl, sym, ap, ◌∙◌, subst}
use mathlib.Core.Bool.{true}
use mathlib.Core.List.{List, [], ◌∷◌, ◌++◌, map}
use Prim.Native.Nat.{ℕ, ◌+◌, ◌*◌, ◌≤◌, ◌<◌}
use native.Mathlib.Omega.{arith}
use lib.ListN.{length, get_or, set, take, drop, length-append, length-set}
use lib.Seq.{get_or-set_same, get_or-set_other}
use Rattle.words.proofs.Lists.{put}
use Rattle.settings.specs.declared.Settings.{Settings}
use Rattle.layout.specs.Places.{turn_at, node_size, memory_size, node, with_node, send_at, task_at, first_free_at}
use Rattle.layout.proofs.Fits.{nodes_fit}
use Rattle.blocks.specs.Chain.{needs}
use Rattle.blocks.specs.Moves.{taken, given_back}
use Rattle.letters.specs.Letter.{written}
use Rattle.queues.specs.Queue.{send_kind}
use Rattle.queues.specs.Moves.{appended}
use Rattle.queues.specs.Items.{gap_flag}
use Rattle.gaps.specs.Close.{task_appended}
use Rattle.taking.specs.Take.{taken_out}
use Rattle.sound.specs.Reading.{settings_in, table_in}
use Rattle.sound.specs.Queues.{task_of}
use Rattle.sound.specs.Sound.{sound}
use Rattle.machine.specs.Machine.{Letter, gap, first, firsts, Live, words_of, Node, Machine}
use Rattle.machine.specs.Core.{Core}
use Rattle.machine.specs.Represents.{Right, RepresentsAt}
use Rattle.machine.proofs.Back.{represents_sound_at}
use Rattle.moves.specs.Letters.{live_ones}
use Rattle.moves.proofs.Made.{placed, letters_without, Working}
use Rattle.moves.proofs.Memory.{with_settings, set_rows, set-table}
use Rattle.moves.proofs.Formed.{with_nodes, Heads, begins_working, ends_working}
use Rattle.moves.proofs.Works.{long₃, long₄, long₅, send_task_works, send-gap_works, send-queue_works, receive_works}

-- the first of a list that has one stays the first when more are put behind
heads_append : (ls ks : List Letter) → 1 ≤ length ls → take 1 (map words_of (ls ++ ks)) ≡ take 1 (map words_of ls)
heads_append [] ks h = absurd (omega arith)
heads_append (L ∷ ls) ks h = refl

module _ (s : Settings) (memory : List ℕ) (m : Machine) (rep : RepresentsAt s memory m) where
  abbrev t : List ℕ
  t = table_in memory

  abbrev N : ℕ → Node
  N = m.node

  w : Working s (table_in memory) memory m.node
  w = begins_working s memory m rep

  -- no position names another queue than a send queue
  no_heads : (p : ℕ) → 7 ≤ p → (i : ℕ) (ls : List Letter) (j : ℕ) → j < 6 → Heads m i p ls j
  no_heads p c i ls j a = record { waits = λ e. absurd (omega arith); heads = λ e. absurd (omega arith) }

  -- ---- A SEND TO A TASK QUEUE
  module _ (i q : ℕ) (h : i < 6) (g : q < 64) (ws : List ℕ) (ok : Right (table_in memory) i (13 + q) ws) (bound : task_of (table_in memory) i q ≡ 0 → ⊥)
      (has : needs s (length ws) ≤ length (m.node i).free) where
    pub send_task_kept : length ((m.node i).letters (13 + q)) < s.t
        → RepresentsAt s (with_node s memory i (task_appended s (written s (taken s (node s memory i) (needs s (length ws))) (get_or (node s memory i) first_free_at 0) ws) (task_at s q) (get_or (node s memory i) first_free_at 0)))
        (with_nodes m (put m.node i (placed (m.node i) (drop (needs s (length ws)) (m.node i).free) (13 + q) ((m.node i).letters (13 + q) ++ record { chain = take (needs s (length ws)) (m.node i).free; words = ws } ∷ []))))
    send_task_kept less =
        let ks : List Letter = (N i).letters (13 + q) ++ record { chain = take (needs s (length ws)) (N i).free; words = ws } ∷ [] in
        ends_working s memory m rep i h (task_appended s (written s (taken s (node s memory i) (needs s (length ws))) (get_or (node s memory i) first_free_at 0) ws) (task_at s q) (get_or (node s memory i) first_free_at 0))
        (long₃ s t memory N w i q h g ws ok bound has) (drop (needs s (length ws)) (N i).free) (13 + q) (omega arith) ks (no_heads (13 + q) (omega arith) i ks)
        (send_task_works s t memory N w i q h g ws ok bound has less)

    pub send-gap-kept : length ((m.node i).letters (13 + q)) ≡ s.t → gap_flag (firsts ((m.node i).letters (13 + q))) ≡ 1
        → RepresentsAt s (with_node s memory i (task_appended s (written s (taken s (node s memory i) (needs s (length ws))) (get_or (node s memory i) first_free_at 0) ws) (task_at s q) (get_or (node s memory i) first_free_at 0)))
        (with_nodes m (put m.node i (placed (m.node i) (drop (needs s (length ws)) (m.node i).free) (13 + q) (live_ones ((m.node i).letters (13 + q)) ++ record { chain = take (needs s (length ws)) (m.node i).free; words = ws } ∷ []))))
    send-gap-kept full gaps =
        let ks : List Letter = live_ones ((N i).letters (13 + q)) ++ record { chain = take (needs s (length ws)) (N i).free; words = ws } ∷ [] in
        ends_working s memory m rep i h (task_appended s (written s (taken s (node s memory i) (needs s (length ws))) (get_or (node s memory i) first_free_at 0) ws) (task_at s q) (get_or (node s memory i) first_free_at 0))
        (long₃ s t memory N w i q h g ws ok bound has) (drop (needs s (length ws)) (N i).free) (13 + q) (omega arith) ks (no_heads (13 + q) (omega arith) i ks)
        (send-gap_works s t memory N w i q h g ws ok bound has full gaps)

  -- ---- A SEND TO A SEND QUEUE
  module _ (i k : ℕ) (h : i < 6) (g : k < 6) (apart : k ≡ i → ⊥) (ws : List ℕ) (ok : Right (table_in memory) i (1 + k) ws)
      (has : needs s (length ws) ≤ length (m.node i).free) (less : length ((m.node i).letters (1 + k)) < s.s) where
    abbrev qs : List Letter
    qs = (m.node i).letters (1 + k)

    abbrev J : Letter
    J = record { chain = take (needs s (length ws)) (m.node i).free; words = ws }

    named : (j : ℕ) → j < 6 → 1 + k ≡ 1 + j → 1 ≤ m.stage j → m.other j ≡ i → 1 ≤ length qs
    named j a e z o =
        let u = (rep.formed.positions j a).waits z in
        let d : j ≡ k = omega arith in
        subst (λ (x : ℕ). 1 ≤ length ((m.node i).letters (1 + x))) d (subst (λ (x : ℕ). 1 ≤ length ((m.node x).letters (1 + j))) o u)

    heads_queue : (j : ℕ) → j < 6 → Heads m i (1 + k) (qs ++ J ∷ []) j
    heads_queue j a =
        record {
          waits = λ e z o. rw (length-append qs (J ∷ [])) (omega arith);
          heads = λ e z o. heads_append qs (J ∷ []) (named j a e z o);
        }

    pub send-queue-kept : RepresentsAt s (with_node s memory i (appended (send_kind s) (written s (taken s (node s memory i) (needs s (length ws))) (get_or (node s memory i) first_free_at 0) ws) (send_at s k) (get_or (node s memory i) first_free_at 0)))
        (with_nodes m (put m.node i (placed (m.node i) (drop (needs s (length ws)) (m.node i).free) (1 + k) ((m.node i).letters (1 + k) ++ record { chain = take (needs s (length ws)) (m.node i).free; words = ws } ∷ []))))
    send-queue-kept =
        ends_working s memory m rep i h (appended (send_kind s) (written s (taken s (node s memory i) (needs s (length ws))) (get_or (node s memory i) first_free_at 0) ws) (send_at s k) (get_or (node s memory i) first_free_at 0))
        (long₄ s t memory N w i k h g apart ws ok has less) (drop (needs s (length ws)) (N i).free) (1 + k) (omega arith) (qs ++ J ∷ []) heads_queue
        (send-queue_works s t memory N w i k h g apart ws ok has less)

  -- ---- A RECEIVE
  module _ (i q n : ℕ) (h : i < 6) (g : q < 64) (is : n < length ((m.node i).letters (13 + q))) (live : Live (get_or ((m.node i).letters (13 + q)) n gap)) where
    pub receive-kept : RepresentsAt s (with_node s memory i (given_back s (taken_out s (node s memory i) (task_at s q) n) (length (get_or ((m.node i).letters (13 + q)) n gap).chain) (first (get_or ((m.node i).letters (13 + q)) n gap))))
        (with_nodes m (put m.node i (placed (m.node i) ((get_or ((m.node i).letters (13 + q)) n gap).chain ++ (m.node i).free) (13 + q) (letters_without n ((m.node i).letters (13 + q))))))
    receive-kept =
        ends_working s memory m rep i h (given_back s (taken_out s (node s memory i) (task_at s q) n) (length (get_or ((N i).letters (13 + q)) n gap).chain) (first (get_or ((N i).letters (13 + q)) n gap)))
        (long₅ s t memory N w i q n h g is live) ((get_or ((N i).letters (13 + q)) n gap).chain ++ (N i).free) (13 + q) (omega arith) (letters_without n ((N i).letters (13 + q)))
        (no_heads (13 + q) (omega arith) i (letters_without n ((N i).letters (13 + q))))
        (receive_works s t memory N w i q n h g is live)

-- ---- whose turn it is, stored anew
pub turn-kept : (s : Settings) (memory : List ℕ) (m : Machine) → RepresentsAt s memory m → (v : ℕ) → v ≤ 5
    → RepresentsAt s (set memory turn_at v) (record { turn = v; stage = m.stage; other = m.other; node = m.node })
turn-kept s memory m rep v h =
    let w : (k : ℕ) → (k ≡ 5 → ⊥) → get_or (set memory 5 v) k 0 ≡ get_or memory k 0 = λ k n. get_or-set_other memory 5 k v 0 n in
    let e = set-table memory 5 v (omega arith) (omega arith) in
    let f = rep.formed in
    record {
      size = length-set memory 5 v ∙ rep.size;
      table = rw e rep.table;
      core = subst (λ (Q : ℕ → ℕ → List ℕ). Core s Q m.node) (sym (set_rows s memory 5 v (omega arith))) rep.core;
      shows = record {
        turn = get_or-set_same memory 5 v 0 (rw rep.size (omega (arith, nodes_fit s)));
        stage = λ j g. w (6 + j * 3) (λ z. omega arith) ∙ rep.shows.stage j g;
        other = λ j g. w (6 + j * 3 + 1) (λ z. omega arith) ∙ rep.shows.other j g;
        hand = λ j g. w (6 + j * 3 + 2) (λ z. omega arith) ∙ rep.shows.hand j g;
        flags = λ i q a b. ap (λ (Q : ℕ → ℕ → List ℕ). get_or (Q i (13 + q)) 2 0) (set_rows s memory 5 v (omega arith)) ∙ rep.shows.flags i q a b;
      };
      formed = rw e (record {
        turn = h;
        order = f.order;
        positions = λ j g. let p = f.positions j g in record { none = p.none; most = p.most; names = p.names; another = p.another; waits = p.waits; hand = p.hand; copy = p.copy };
      });
    }

-- ---- a sound memory with a stretch anew that represents a machine is sound
pub kept-sound : (memory : List ℕ) → length memory ≡ memory_size (settings_in memory) → (i : ℕ) → i < 6 → (l : List ℕ) → length l ≡ node_size (settings_in memory) → (m : Machine)
    → RepresentsAt (settings_in memory) (with_node (settings_in memory) memory i l) m → sound (with_node (settings_in memory) memory i l) ≡ true
kept-sound memory z i h l long m rep =
    represents_sound_at (settings_in memory) (with_node (settings_in memory) memory i l) m (with_settings (settings_in memory) memory z i h l long) rep
