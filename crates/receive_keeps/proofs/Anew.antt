-- A node's stretch put anew, whose queues differ in one task queue alone: what the memory represents after it. Assumes nothing.
use mathlib.Core.Path.{◌≡◌, sym, ap, ◌∙◌}
use mathlib.Core.List.{List, []}
use Prim.Native.Nat.{ℕ, ◌+◌, ◌*◌, ◌≤◌, ◌<◌}
use native.Mathlib.Omega.{arith}
use lib.ListN.{length, get_or}
use Rattle.words.proofs.Lists.{put_other, same?}
use Rattle.settings.specs.declared.Settings.{Settings}
use Rattle.layout.specs.Places.{gap_word, node_size, node, with_node}
use Rattle.blocks.proofs.Rows.{rows}
use Rattle.queues.specs.Items.{gap_flag}
use Rattle.queues.proofs.Items.{FirstLive}
use Rattle.sound.specs.Reading.{table_in}
use Rattle.machine.specs.Machine.{Letter, firsts, Live, Node, Machine, All}
use Rattle.machine.specs.Core.{rows_of, Core}
use Rattle.machine.specs.Represents.{InOrder, Right, RightPosition, WellFormed, Shows, RepresentsAt}
use Rattle.moves.proofs.Memory.{with_node_lem, with_long, with_word, with_table}

-- a machine with other nodes
abbrev pub with_nodes : Machine → (ℕ → Node) → Machine
with_nodes m N = record { turn = m.turn; stage = m.stage; other = m.other; node = N }

module _ (s : Settings) (memory : List ℕ) (m : Machine) (rep : RepresentsAt s memory m) (i q : ℕ) (h : i < 6) (g : q < 64) (l : List ℕ) (long : length l ≡ node_size s)
    (N : ℕ → Node) (core : Core s (rows_of s (with_node s memory i l)) N)
    (still : (k : ℕ) → k < 6 → (N k).letters 77 ≡ [])
    (same : (k p : ℕ) → k < 6 → p < 77 → (k ≡ i → p ≡ 13 + q → ⊥) → (N k).letters p ≡ (m.node k).letters p)
    (rows_same : (r : ℕ) → r < 64 → (r ≡ q → ⊥) → rows_of s (with_node s memory i l) i (13 + r) ≡ rows_of s memory i (13 + r))
    (first : FirstLive (firsts ((N i).letters (13 + q))))
    (flag : get_or (rows_of s (with_node s memory i l) i (13 + q)) gap_word 0 ≡ gap_flag (firsts ((N i).letters (13 + q))))
    (none : (m.node i).letters (13 + q) ≡ [] → (N i).letters (13 + q) ≡ [])
    (right : All (λ L. Live L → Right (table_in memory) i (13 + q) L.words) ((N i).letters (13 + q))) where
  -- what holds of that queue's letters now, and held of the others, holds of all
  each : (P : ℕ → ℕ → List Letter → Type 0) → P i (13 + q) ((N i).letters (13 + q)) → (k p : ℕ) → k < 6 → p < 77 → P k p ((m.node k).letters p) → P k p ((N k).letters p)
  each P here k p a b there =
      same? k i
      (λ e t. same? p (13 + q)
      (λ e' t'. rw (e, e') here)
      (λ e' t'. rw (same k p a b (λ x y. e' y)) there))
      (λ e t. rw (same k p a b (λ x y. e x)) there)

  word : (k : ℕ) → k < 536 → get_or (with_node s memory i l) k 0 ≡ get_or memory k 0
  word = with_word s memory rep.size i h l long

  row-there : (k r : ℕ) → (k ≡ i → ⊥) → rows_of s (with_node s memory i l) k r ≡ rows_of s memory k r
  row-there k r n = ap (λ (w : List ℕ). rows s w r) (with_node_lem s memory rep.size i h l long k ∙ put_other (node s memory) i l k n)

  flags : (k r : ℕ) → k < 6 → r < 64 → get_or (rows_of s (with_node s memory i l) k (13 + r)) gap_word 0 ≡ gap_flag (firsts ((N k).letters (13 + r)))
  flags k r a b =
      same? k i
      (λ e t. same? r q
      (λ e' t'. rw (e, e') flag)
      (λ e' t'. rw e (ap (λ (w : List ℕ). get_or w 2 0) (rows_same r b e') ∙ rep.shows.flags i r h b ∙ ap (λ (ls : List Letter). gap_flag (firsts ls)) (sym (same i (13 + r) h (omega arith) (λ x y. e' (omega arith)))))))
      (λ e t. ap (λ (w : List ℕ). get_or w 2 0) (row-there k (13 + r) e) ∙ rep.shows.flags k r a b ∙ ap (λ (ls : List Letter). gap_flag (firsts ls)) (sym (same k (13 + r) a (omega arith) (λ x y. e x))))

  shows : Shows s (with_node s memory i l) (with_nodes m N)
  shows =
      record {
        turn = word 5 (omega arith) ∙ rep.shows.turn;
        stage = λ j a. word (6 + j * 3) (omega arith) ∙ rep.shows.stage j a;
        other = λ j a. word (6 + j * 3 + 1) (omega arith) ∙ rep.shows.other j a;
        hand = λ j a. word (6 + j * 3 + 2) (omega arith) ∙ rep.shows.hand j a ∙ ap (λ (ls : List Letter). get_or (firsts ls) 0 0) (sym (same j 0 a (omega arith) (λ x y. omega arith)));
        flags = flags;
      }

  position : (j : ℕ) → j < 6 → RightPosition (with_nodes m N) j
  position j a =
      let p = rep.formed.positions j a in
      let hand : (N j).letters 0 ≡ (m.node j).letters 0 = same j 0 a (omega arith) (λ x y. omega arith) in
      record {
        none = p.none;
        most = p.most;
        names = p.names;
        another = p.another;
        waits = λ z. rw (sent z) (p.waits z);
        hand = λ n. hand ∙ p.hand n;
        copy = λ e. rw (hand, sent (omega arith)) (p.copy e);
      }
    where
      sent : 1 ≤ m.stage j → (N (m.other j)).letters (1 + j) ≡ (m.node (m.other j)).letters (1 + j)
      sent z = same (m.other j) (1 + j) (omega (arith, (rep.formed.positions j a).names z)) (omega arith) (λ x y. omega arith)

  order : InOrder (table_in memory) N
  order =
      let f = rep.formed.order in
      record {
        still = still;
        live = λ k p a b. rw (same k p a (omega arith) (λ x y. omega arith)) (f.live k p a b);
        fronts = λ k r a b. each (λ (k p : ℕ) (ls : List Letter). FirstLive (firsts ls)) first k (13 + r) a (omega arith) (f.fronts k r a b);
        itself = λ k a. same k (1 + k) a (omega arith) (λ x y. omega arith) ∙ f.itself k a;
        itself_ack = λ k a. same k (7 + k) a (omega arith) (λ x y. omega arith) ∙ f.itself_ack k a;
        unbound = λ k r a b z.
            same? k i
            (λ e t. same? r q
            (λ e' t'. let y : (m.node i).letters (13 + q) ≡ [] = rw (e, e') at (f.unbound k r a b z) in rw (e, e') (none y))
            (λ e' t'. same k (13 + r) a (omega arith) (λ x y. e' (omega arith)) ∙ f.unbound k r a b z))
            (λ e t. same k (13 + r) a (omega arith) (λ x y. e x) ∙ f.unbound k r a b z);
        letters = λ k p a b. each (λ (k p : ℕ) (ls : List Letter). All (λ L. Live L → Right (table_in memory) k p L.words) ls) right k p a b (f.letters k p a b);
      }

  formed : WellFormed (table_in memory) (with_nodes m N)
  formed = record { turn = rep.formed.turn; order = order; positions = position }

  -- THE MACHINE WITH ITS NODES ANEW
  pub represents_anew : RepresentsAt s (with_node s memory i l) (with_nodes m N)
  represents_anew =
      let t : table_in (with_node s memory i l) ≡ table_in memory = with_table s memory rep.size i h l long in
      record {
        size = with_long s memory rep.size i h l long ∙ rep.size;
        table = rw t rep.table;
        core = core;
        shows = shows;
        formed = rw t formed;
      }
