-- What a memory represents after the empty count of a task queue rose, and after a letter was taken out of it and its chain given back. Assumes nothing.
use mathlib.Core.Path.{◌≡◌, refl, sym, ap, ◌∙◌, subst}
use mathlib.Core.List.{List, [], ◌∷◌, ◌++◌}
use Prim.Native.Nat.{ℕ, ◌+◌, ◌<◌}
use native.Mathlib.Omega.{arith}
use lib.ListN.{length, get_or}
use Rattle.words.proofs.Lists.{put, put_same, put_other, same?}
use Rattle.settings.specs.declared.Settings.{Settings}
use Rattle.layout.specs.Places.{empty_word, node_size, memory_size, node, with_node, task_at}
use Rattle.blocks.specs.Moves.{given_back}
use Rattle.blocks.proofs.Moves.{length-given}
use Rattle.queues.specs.Moves.{counted}
use Rattle.queues.specs.Items.{gap_flag}
use Rattle.queues.proofs.Items.{FirstLive}
use Rattle.queues.proofs.Tasks.{TaskRing}
use Rattle.taking.specs.Take.{taken_out}
use Rattle.sound.specs.Reading.{table_in}
use Rattle.machine.specs.Machine.{Letter, gap, first, firsts, Live, Node, Machine, All}
use Rattle.machine.specs.Core.{rows_of}
use Rattle.machine.specs.Represents.{Right, RepresentsAt}
use Rattle.machine.proofs.Gives.{gives_stretch, gives_row}
use Rattle.moves.proofs.Made.{put_row, moved, placed, letters_without}
use Rattle.moves.proofs.Rows.{row_same, row_other, moved_transit}
use Rattle.moves.proofs.Items.{all_without}
use Rattle.taking.proofs.Taken.{length_taken as length-taken-out}
use Rattle.moves.proofs.Queues.{length-counted, task_take-flag, task_empty_flag}
use Rattle.moves.proofs.Memory.{node_with, with_with, with_long}
use Rattle.moves.proofs.Words.{give_row, task_take-row, task_take-words, task_empty_row, task_empty_words}
use Rattle.moves.proofs.Calls.{receive-words}
use Rattle.receive_keeps.proofs.Anew.{with_nodes, represents_anew}

-- a node after the letter at index n of place p was taken out and its chain given back
abbrev pub without_letter : Node → ℕ → ℕ → Node
without_letter X p n = placed X ((get_or (X.letters p) n gap).chain ++ X.free) p (letters_without n (X.letters p))

module _ (X : Node) (p n : ℕ) where
  pub without-free : (without_letter X p n).free ≡ (get_or (X.letters p) n gap).chain ++ X.free
  unfolding placed
  without-free = refl

  pub without_at : (without_letter X p n).letters p ≡ letters_without n (X.letters p)
  unfolding placed
  without_at = put_same X.letters p (letters_without n (X.letters p))

  pub without_other : (k : ℕ) → (k ≡ p → ⊥) → (without_letter X p n).letters k ≡ X.letters k
  unfolding placed
  without_other k e = put_other X.letters p (letters_without n (X.letters p)) k e

module _ (s : Settings) (memory : List ℕ) (m : Machine) (rep : RepresentsAt s memory m) (i q : ℕ) (h : i < 6) (g : q < 64) where
  abbrev R : ℕ → ℕ → List ℕ
  R = rows_of s memory

  abbrev ls : List Letter
  ls = (m.node i).letters (13 + q)

  pub ring_of : TaskRing s (rows_of s memory i (13 + q)) 0 (firsts ((m.node i).letters (13 + q)))
  ring_of = gives_row s memory rep.size m.node rep.core i q h g (rep.shows.flags i q h g) (rep.formed.order.fronts i q h g)

  long-node : length (node s memory i) ≡ node_size s
  long-node = (gives_stretch s memory rep.size m.node rep.core i h).long

  -- THE EMPTY COUNT
  pub long_empty : length (counted (node s memory i) (task_at s q + empty_word)) ≡ node_size s
  long_empty = length-counted (node s memory i) (task_at s q + 4) ∙ long-node

  pub represents_empty : RepresentsAt s (with_node s memory i (counted (node s memory i) (task_at s q + empty_word))) (with_nodes m m.node)
  represents_empty =
      let w : List ℕ = counted (R i (13 + q)) 4 in
      let e = task_empty_row s memory rep.size m.node rep.core i q h g ring_of in
      represents_anew s memory m rep i q h g (counted (node s memory i) (task_at s q + 4)) long_empty m.node
      (task_empty_words s memory rep.size m.node rep.core i q h g ring_of)
      rep.formed.order.still
      (λ k p a b c. refl)
      (λ r a n. ap (λ (Q : ℕ → ℕ → List ℕ). Q i (13 + r)) e ∙ row_other R i (13 + q) w i (13 + r) (λ z. n (omega arith)))
      (rep.formed.order.fronts i q h g)
      (ap (λ (Q : ℕ → ℕ → List ℕ). get_or (Q i (13 + q)) 2 0) e ∙ ap (λ (v : List ℕ). get_or v 2 0) (row_same R i (13 + q) w)
      ∙ (task_empty_flag s R m.node rep.core i q h g ring_of).flag)
      (λ z. z)
      (rep.formed.order.letters i (13 + q) h (omega arith))

  -- THE LETTER AT INDEX n
  module _ (n : ℕ) (is : n < length ((m.node i).letters (13 + q))) (some : Live (get_or ((m.node i).letters (13 + q)) n gap)) where
    abbrev L : Letter
    L = get_or ((m.node i).letters (13 + q)) n gap

    abbrev l₁ : List ℕ
    l₁ = taken_out s (node s memory i) (task_at s q) n

    long₁ : length l₁ ≡ node_size s
    long₁ = length-taken-out s (node s memory i) (task_at s q) n ∙ long-node

    abbrev m₁ : List ℕ
    m₁ = with_node s memory i l₁

    abbrev X₁ : Node
    X₁ = moved (m.node i) (13 + q) (letters_without n ls) (L ∷ [])

    size₁ : length m₁ ≡ memory_size s
    size₁ = with_long s memory rep.size i h l₁ long₁ ∙ rep.size

    one₁ : (put m.node i X₁ i).letters 77 ≡ L ∷ []
    one₁ = ap (λ (Y : Node). Y.letters 77) (put_same m.node i X₁) ∙ moved_transit (m.node i) (13 + q) (letters_without n ls) (L ∷ []) (λ e. omega arith)

    abbrev l₂ : List ℕ
    l₂ = given_back s (taken_out s (node s memory i) (task_at s q) n) (length L.chain) (first L)

    pub long-taken : length (given_back s (taken_out s (node s memory i) (task_at s q) n) (length (get_or ((m.node i).letters (13 + q)) n gap).chain) (first (get_or ((m.node i).letters (13 + q)) n gap))) ≡ node_size s
    long-taken = length-given s l₁ (length L.chain) (first L) ∙ long₁

    memory₂ : with_node s m₁ i (given_back s (node s m₁ i) (length L.chain) (first L)) ≡ with_node s memory i l₂
    memory₂ =
        ap (λ (x : List ℕ). with_node s m₁ i (given_back s x (length L.chain) (first L))) (node_with s memory rep.size i h l₁ long₁)
        ∙ with_with s memory rep.size i h l₁ long₁ l₂

    -- no other queue's row has changed
    row₂ : (r : ℕ) → r < 64 → rows_of s (with_node s memory i l₂) i (13 + r) ≡ put_row R i (13 + q) (taken_out s (R i (13 + q)) 0 n) i (13 + r)
    row₂ r a =
        ap (λ (x : List ℕ). rows_of s x i (13 + r)) (sym memory₂)
        ∙ give_row s m₁ size₁ (put m.node i X₁) (task_take-words s memory rep.size m.node rep.core i q h g ring_of n is (rep.formed.order.still i h)) i h L one₁ some (13 + r) (omega arith) (omega arith)
        ∙ ap (λ (Q : ℕ → ℕ → List ℕ). Q i (13 + r)) (task_take-row s memory rep.size m.node rep.core i q h g ring_of n)

    abbrev X : Node
    X = without_letter (m.node i) (13 + q) n

    here : (put m.node i X i).letters (13 + q) ≡ letters_without n ls
    here = ap (λ (Y : Node). Y.letters (13 + q)) (put_same m.node i X) ∙ without_at (m.node i) (13 + q) n

    still : (k : ℕ) → k < 6 → (put m.node i X k).letters 77 ≡ []
    still k a =
        same? k i
        (λ e t. rw t (without_other (m.node i) (13 + q) n 77 (λ z. omega arith) ∙ rep.formed.order.still i h))
        (λ e t. rw t (rep.formed.order.still k a))

    pub taken_same : (k p : ℕ) → k < 6 → p < 77 → (k ≡ i → p ≡ 13 + q → ⊥) → (put m.node i (without_letter (m.node i) (13 + q) n) k).letters p ≡ (m.node k).letters p
    taken_same k p a b c =
        same? k i
        (λ e t. rw t (without_other (m.node i) (13 + q) n p (c e) ∙ ap (λ (y : ℕ). (m.node y).letters p) (sym e)))
        (λ e t. rw t)

    pub taken_here : (put m.node i (without_letter (m.node i) (13 + q) n) i).letters (13 + q) ≡ letters_without n ((m.node i).letters (13 + q))
    taken_here = here

    pub represents_taken : RepresentsAt s
        (with_node s memory i (given_back s (taken_out s (node s memory i) (task_at s q) n) (length (get_or ((m.node i).letters (13 + q)) n gap).chain) (first (get_or ((m.node i).letters (13 + q)) n gap))))
        (with_nodes m (put m.node i (without_letter (m.node i) (13 + q) n)))
    represents_taken =
        let w : List ℕ = taken_out s (R i (13 + q)) 0 n in
        let f = task_take-flag s R m.node rep.core i q h g ring_of n is (rep.formed.order.still i h) in
        represents_anew s memory m rep i q h g l₂ long-taken (put m.node i X)
        (receive-words s memory rep.size m.node rep.core i q n h g (rep.formed.order.still i h) ring_of is some)
        still
        taken_same
        (λ r a e. row₂ r a ∙ row_other R i (13 + q) w i (13 + r) (λ z. e (omega arith)))
        (subst (λ (k : List Letter). FirstLive (firsts k)) (sym here) f.first)
        (ap (λ (v : List ℕ). get_or v 2 0) (row₂ q g ∙ row_same R i (13 + q) w) ∙ f.flag ∙ ap (λ (k : List Letter). gap_flag (firsts k)) (sym here))
        (λ z. absurd (omega (arith, ap length z)))
        (subst (λ (k : List Letter). All (λ K. Live K → Right (table_in memory) i (13 + q) K.words) k) (sym here)
        (all_without (λ (K : Letter). Live K → Right (table_in memory) i (13 + q) K.words) n ls (λ v. absurd (omega arith)) (rep.formed.order.letters i (13 + q) h (omega arith))))
