-- One place's letters anew leave the nodes in order, and a stretch anew leaves the other words: so a memory represents the new machine. Assumes nothing.
--     order-put, flags-put     nodes and rows; position_put     a position; working_put     the memory
--     begins_working, ends_working     from a represented machine to what holds between moves, and back
use mathlib.Core.Path.{◌≡◌, refl, sym, ap, ap₂, ◌∙◌, subst}
use mathlib.Core.List.{List, [], map}
use Prim.Native.Nat.{ℕ, ◌+◌, ◌*◌, ◌≤◌, ◌<◌}
use native.Mathlib.Omega.{arith}
use lib.ListN.{length, get_or, take}
use Rattle.words.proofs.Lists.{put, put_same, put_other, same?}
use Rattle.settings.specs.declared.Settings.{Settings}
use Rattle.layout.specs.Places.{node_size, with_node, gap_word}
use Rattle.queues.specs.Items.{gap_flag}
use Rattle.queues.proofs.Items.{FirstLive}
use Rattle.sound.specs.Reading.{table_in}
use Rattle.sound.specs.Queues.{task_of}
use Rattle.machine.specs.Machine.{Letter, firsts, Live, words_of, Node, Machine, All}
use Rattle.machine.specs.Core.{rows_of, Core}
use Rattle.machine.specs.Represents.{Right, RightPosition, InOrder, Flagged, RepresentsAt}
use Rattle.moves.proofs.Made.{placed, Working}
use Rattle.moves.proofs.Memory.{with_long, with_word, with_table, rows_away}

-- the machine with other nodes
abbrev pub with_nodes : Machine → (ℕ → Node) → Machine
with_nodes m N = record { turn = m.turn; stage = m.stage; other = m.other; node = N }

-- what letters ls at place p of node i must be, for nodes in order
pub record Fit (table : List ℕ) (i p : ℕ) (ls : List Letter) : Type 0 where
  pub live : p < 13 → All Live ls
  pub front : 13 ≤ p → FirstLive (firsts ls)
  pub right : All (λ L. Live L → Right table i p L.words) ls
  pub itself : p ≡ 1 + i → ls ≡ []
  pub itself_ack : p ≡ 7 + i → ls ≡ []
  pub unbound : (q : ℕ) → p ≡ 13 + q → task_of table i q ≡ 0 → ls ≡ []

-- where the position of node j names the queue at place p of node i, the first letter stays
pub record Heads (m : Machine) (i p : ℕ) (ls : List Letter) (j : ℕ) : Type 0 where
  pub waits : p ≡ 1 + j → 1 ≤ m.stage j → m.other j ≡ i → 1 ≤ length ls
  pub heads : p ≡ 1 + j → 1 ≤ m.stage j → m.other j ≡ i → take 1 (map words_of ls) ≡ take 1 (map words_of ((m.node i).letters p))

-- ---- place p of node i anew
module _ (M : ℕ → Node) (i : ℕ) (fr : List ℕ) (p : ℕ) (ls : List Letter) where
  abbrev X : Node
  X = placed (M i) fr p ls

  abbrev N : ℕ → Node
  N = put M i X

  -- the letters of a place: ls at place p of node i, else as they were
  pub at_here : (put M i (placed (M i) fr p ls) i).letters p ≡ ls
  unfolding placed
  at_here = ap (λ (Y : Node). Y.letters p) (put_same M i X) ∙ put_same (M i).letters p ls

  pub at_other : (k q : ℕ) → (k ≡ i → q ≡ p → ⊥) → (put M i (placed (M i) fr p ls) k).letters q ≡ (M k).letters q
  unfolding placed
  at_other k q n =
      same? k i
      (λ e t. rw t (put_other (M i).letters p ls q (n e) ∙ ap (λ (x : ℕ). (M x).letters q) (sym e)))
      (λ e t. rw t)

  -- what holds of ls there and of the others as they were holds everywhere
  each : (P : ℕ → ℕ → List Letter → Type 0) → P i p ls → (k q : ℕ) → ((k ≡ i → q ≡ p → ⊥) → P k q ((M k).letters q)) → P k q ((N k).letters q)
  each P a k q b =
      same? k i
      (λ e t. same? q p
      (λ e' t'. subst (λ (x : ℕ). P x q ((N x).letters q)) (sym e) (subst (λ (x : ℕ). P i x ((N i).letters x)) (sym e') (subst (P i p) (sym at_here) a)))
      (λ e' t'. subst (P k q) (sym (at_other k q (λ u v. e' v))) (b (λ u v. e' v))))
      (λ e t. subst (P k q) (sym (at_other k q (λ u v. e u))) (b (λ u v. e u)))

  pub order-put : (table : List ℕ) → InOrder table M → p < 77 → Fit table i p ls → InOrder table (put M i (placed (M i) fr p ls))
  order-put table o hi fit =
      record {
        still = λ k a. at_other k 77 (λ u v. omega arith) ∙ o.still k a;
        live = λ k q a b. each (λ k q x. q < 13 → All Live x) (λ c. fit.live c) k q (λ n c. o.live k q a c) b;
        fronts = λ k q a b. each (λ k q x. 13 ≤ q → FirstLive (firsts x)) (λ c. fit.front c) k (13 + q) (λ n c. o.fronts k q a b) (omega arith);
        itself = λ k a. each (λ k q x. q ≡ 1 + k → x ≡ []) fit.itself k (1 + k) (λ n c. o.itself k a) refl;
        itself_ack = λ k a. each (λ k q x. q ≡ 7 + k → x ≡ []) fit.itself_ack k (7 + k) (λ n c. o.itself_ack k a) refl;
        unbound = λ k q a b z. each (λ k y x. y ≡ 13 + q → task_of table k q ≡ 0 → x ≡ []) (λ c d. fit.unbound q c d) k (13 + q) (λ n c d. o.unbound k q a b d) refl z;
        letters = λ k q a b. each (λ k q x. All (λ L. Live L → Right table k q L.words) x) fit.right k q (λ n. o.letters k q a b);
      }

  -- flags: the row of place p shows ls, and the rows of the other task queues are as they were
  pub flags-put : (R R' : ℕ → ℕ → List ℕ) → Flagged R M → ((q : ℕ) → q < 64 → p ≡ 13 + q → get_or (R' i (13 + q)) gap_word 0 ≡ gap_flag (firsts ls))
      → ((k q : ℕ) → k < 6 → q < 64 → (k ≡ i → p ≡ 13 + q → ⊥) → R' k (13 + q) ≡ R k (13 + q)) → Flagged R' (put M i (placed (M i) fr p ls))
  flags-put R R' f here others k q a b =
      each (λ k y x. y ≡ 13 + q → k < 6 → get_or (R' k (13 + q)) gap_word 0 ≡ gap_flag (firsts x))
      (λ e c. here q b e) k (13 + q)
      (λ n e c. ap (λ (w : List ℕ). get_or w 2 0) (others k q a b (λ u v. n u (sym v))) ∙ f k q a b) refl a

-- a position of the machine with that place anew
module _ (m : Machine) (i : ℕ) (fr : List ℕ) (p : ℕ) (lo : 1 ≤ p) (ls : List Letter) where
  pub position_put : (j : ℕ) → RightPosition m j → Heads m i p ls j → RightPosition (with_nodes m (put m.node i (placed (m.node i) fr p ls))) j
  position_put j o w =
      let hand : (N m.node i fr p ls j).letters 0 ≡ (m.node j).letters 0 = at_other m.node i fr p ls j 0 (λ u v. omega arith) in
      record {
        none = o.none;
        most = o.most;
        names = o.names;
        another = o.another;
        waits = λ z. each m.node i fr p ls (λ k q x. k ≡ m.other j → q ≡ 1 + j → 1 ≤ length x) (λ a b. w.waits b z (sym a)) (m.other j) (1 + j) (λ n a b. o.waits z) refl refl;
        hand = λ z. hand ∙ o.hand z;
        copy = λ z. ap (map words_of) hand ∙ o.copy z
            ∙ sym (each m.node i fr p ls (λ k q x. k ≡ m.other j → q ≡ 1 + j → take 1 (map words_of x) ≡ take 1 (map words_of ((m.node (m.other j)).letters (1 + j))))
            (λ a b. w.heads b (omega arith) (sym a) ∙ ap₂ (λ (x y : ℕ). take 1 (map words_of ((m.node x).letters y))) a b)
            (m.other j) (1 + j) (λ n a b. refl) refl refl);
      }

-- ---- THE MEMORY with node i's stretch anew
module _ (s : Settings) (table memory : List ℕ) (M : ℕ → Node) (wk : Working s table memory M) (i : ℕ) (h : i < 6) (l : List ℕ) (long : length l ≡ node_size s)
    (fr : List ℕ) (p : ℕ) (hi : p < 77) (ls : List Letter) (fit : Fit table i p ls)
    (core : Core s (rows_of s (with_node s memory i l)) (put M i (placed (M i) fr p ls)))
    (here : (q : ℕ) → q < 64 → p ≡ 13 + q → get_or (rows_of s (with_node s memory i l) i (13 + q)) gap_word 0 ≡ gap_flag (firsts ls))
    (others : (q : ℕ) → q < 64 → (p ≡ 13 + q → ⊥) → rows_of s (with_node s memory i l) i (13 + q) ≡ rows_of s memory i (13 + q)) where
  pub working_put : Working s table (with_node s memory i l) (put M i (placed (M i) fr p ls))
  working_put =
      record {
        size = with_long s memory wk.size i h l long ∙ wk.size;
        core = core;
        order = order-put M i fr p ls table wk.order hi fit;
        flags = flags-put M i fr p ls (rows_of s memory) (rows_of s (with_node s memory i l)) wk.flags here
            (λ k q a b n. same? k i
            (λ e t. ap (λ (x : ℕ). rows_of s (with_node s memory i l) x (13 + q)) e ∙ others q b (n e) ∙ ap (λ (x : ℕ). rows_of s memory x (13 + q)) (sym e))
            (λ e t. rows_away s memory wk.size i h l long k (13 + q) e));
      }

-- ---- A CALL BEGINS with the memory and its nodes, and ends with a machine whose positions are those that it had
pub begins_working : (s : Settings) (memory : List ℕ) (m : Machine) → RepresentsAt s memory m → Working s (table_in memory) memory m.node
begins_working s memory m rep = record { size = rep.size; core = rep.core; order = rep.formed.order; flags = rep.shows.flags }

pub ends_working : (s : Settings) (memory : List ℕ) (m : Machine) → RepresentsAt s memory m → (i : ℕ) → i < 6 → (l : List ℕ) → length l ≡ node_size s
    → (fr : List ℕ) (p : ℕ) → 1 ≤ p → (ls : List Letter) → ((j : ℕ) → j < 6 → Heads m i p ls j)
    → Working s (table_in memory) (with_node s memory i l) (put m.node i (placed (m.node i) fr p ls))
    → RepresentsAt s (with_node s memory i l) (with_nodes m (put m.node i (placed (m.node i) fr p ls)))
ends_working s memory m rep i h l long fr p lo ls heads wk =
    let word : (k : ℕ) → k < 536 → get_or (with_node s memory i l) k 0 ≡ get_or memory k 0 = with_word s memory rep.size i h l long in
    let e : table_in (with_node s memory i l) ≡ table_in memory = with_table s memory rep.size i h l long in
    let hand : (j : ℕ) → (put m.node i (placed (m.node i) fr p ls) j).letters 0 ≡ (m.node j).letters 0 = λ j. at_other m.node i fr p ls j 0 (λ u v. omega arith) in
    record {
      size = wk.size;
      table = rw e rep.table;
      core = wk.core;
      shows = record {
        turn = word 5 (omega arith) ∙ rep.shows.turn;
        stage = λ j g. word (6 + j * 3) (omega arith) ∙ rep.shows.stage j g;
        other = λ j g. word (6 + j * 3 + 1) (omega arith) ∙ rep.shows.other j g;
        hand = λ j g. word (6 + j * 3 + 2) (omega arith) ∙ rep.shows.hand j g ∙ ap (λ (x : List Letter). get_or (firsts x) 0 0) (sym (hand j));
        flags = wk.flags;
      };
      formed = rw e (record { turn = rep.formed.turn; order = wk.order; positions = λ j g. position_put m i fr p lo ls j (rep.formed.positions j g) (heads j g) });
    }
