-- A memory while node j's postman is at work: what stands but for his own position, and that position stored. Assumes nothing.
--     stand_node, stand_table, stand_settings, stand_length     his position stored changes nothing else
--     midway_of, here_of     a memory that is sound with him at a position; stands_midway     and back, with another position
--     goes_midway     nodes anew, the other postmen's hands and the queues to them as they were
use mathlib.Core.Path.{◌≡◌, sym, ap, ◌∙◌, subst}
use mathlib.Core.Bool.{true}
use mathlib.Core.List.{List, [], ◌∷◌, map}
use Prim.Native.Nat.{ℕ, ◌+◌, ◌*◌, ◌≤◌, ◌<◌}
use native.Mathlib.Omega.{arith}
use lib.ListN.{length, get_or, set, take, length-set}
use lib.Seq.{get_or-set_same, get_or-set_other}
use Rattle.words.proofs.Lists.{put, put_same, put_other, same?}
use Rattle.settings.specs.declared.Settings.{Settings}
use Rattle.layout.specs.Places.{memory_size, node_size, nodes_at, node, with_node}
use Rattle.layout.proofs.Fits.{nodes_fit}
use Rattle.tasks.specs.Table.{right_table}
use Rattle.sound.specs.Reading.{settings_in, table_in, turn_in, stage_of, other_of, held_of}
use Rattle.machine.specs.Machine.{Letter, first, firsts, words_of, Node, Machine}
use Rattle.machine.specs.Spelled.{machine_of}
use Rattle.machine.specs.Core.{rows_of, Core}
use Rattle.machine.specs.Represents.{RightPosition, Flagged, RepresentsAt}
use Rattle.machine.proofs.Sound.{sound_represents}
use Rattle.machine.proofs.Back.{represents_sound_at}
use Rattle.moves.proofs.Made.{Working}
use Rattle.moves.proofs.Memory.{with_word, with_table, set-node, set_rows, set-settings, set-table}
use Rattle.postman.specs.declared.Position.{Position}
use Rattle.postman.specs.Position.{at, at_rest, standing}
use Rattle.postman.specs.Asked.{SoundAt}

-- ---- HIS POSITION STORED
module _ (m : List ℕ) (j : ℕ) (p : Position) where
  abbrev a : ℕ
  a = 6 + j * 3

  abbrev m₁ : List ℕ
  m₁ = set m (6 + j * 3) p.stage

  abbrev m₂ : List ℕ
  m₂ = set (set m (6 + j * 3) p.stage) (6 + j * 3 + 1) p.other

  pub stand_length : length (standing m j p) ≡ length m
  unfolding standing
  stand_length = length-set m₂ (a + 2) p.held ∙ length-set m₁ (a + 1) p.other ∙ length-set m a p.stage

  -- a word that is none of the three
  pub stand_word : (k : ℕ) → (k ≡ 6 + j * 3 → ⊥) → (k ≡ 6 + j * 3 + 1 → ⊥) → (k ≡ 6 + j * 3 + 2 → ⊥) → get_or (standing m j p) k 0 ≡ get_or m k 0
  unfolding standing
  stand_word k x y z = get_or-set_other m₂ (a + 2) k p.held 0 z ∙ get_or-set_other m₁ (a + 1) k p.other 0 y ∙ get_or-set_other m a k p.stage 0 x

  module _ (h : j < 6) where
    pub stand_settings : settings_in (standing m j p) ≡ settings_in m
    unfolding standing
    stand_settings =
        set-settings m₂ (a + 2) p.held (omega arith) (omega arith) ∙ set-settings m₁ (a + 1) p.other (omega arith) (omega arith) ∙ set-settings m a p.stage (omega arith) (omega arith)

    pub stand_table : table_in (standing m j p) ≡ table_in m
    unfolding standing
    stand_table =
        set-table m₂ (a + 2) p.held (omega arith) (omega arith) ∙ set-table m₁ (a + 1) p.other (omega arith) (omega arith) ∙ set-table m a p.stage (omega arith) (omega arith)

    -- the three
    module _ (long : nodes_at ≤ length m) where
      pub stand_stage : stage_of (standing m j p) j ≡ p.stage
      unfolding standing
      stand_stage =
          get_or-set_other m₂ (a + 2) a p.held 0 (λ e. omega arith) ∙ get_or-set_other m₁ (a + 1) a p.other 0 (λ e. omega arith) ∙ get_or-set_same m a p.stage 0 (omega arith)

      pub stand_other : other_of (standing m j p) j ≡ p.other
      unfolding standing
      stand_other =
          get_or-set_other m₂ (a + 2) (a + 1) p.held 0 (λ e. omega arith) ∙ get_or-set_same m₁ (a + 1) p.other 0 (omega (arith, length-set m a p.stage))

      pub stand_held : held_of (standing m j p) j ≡ p.held
      unfolding standing
      stand_held =
          get_or-set_same m₂ (a + 2) p.held 0 (omega (arith, length-set m a p.stage, length-set m₁ (a + 1) p.other))

module _ (s : Settings) (m : List ℕ) (j : ℕ) (p : Position) (h : j < 6) where
  pub stand_node : (i : ℕ) → node s (standing m j p) i ≡ node s m i
  unfolding standing
  stand_node i =
      set-node s (m₂ m j p) (6 + j * 3 + 2) p.held (omega arith) i ∙ set-node s (m₁ m j p) (6 + j * 3 + 1) p.other (omega arith) i ∙ set-node s m (6 + j * 3) p.stage (omega arith) i

  pub stand_rows : rows_of s (standing m j p) ≡ rows_of s m
  unfolding standing
  stand_rows =
      set_rows s (m₂ m j p) (6 + j * 3 + 2) p.held (omega arith) ∙ set_rows s (m₁ m j p) (6 + j * 3 + 1) p.other (omega arith) ∙ set_rows s m (6 + j * 3) p.stage (omega arith)

-- ---- WHAT STANDS WHILE HE IS AT WORK, but for his own position
pub record Midway (s : Settings) (m : List ℕ) (j : ℕ) (M : Machine) : Type 0 where
  pub settings : settings_in m ≡ s
  pub table : right_table (table_in m) ≡ true
  pub works : Working s (table_in m) m M.node
  pub turn : turn_in m ≡ M.turn
  pub low : M.turn ≤ 5
  pub stages : (k : ℕ) → k < 6 → (k ≡ j → ⊥) → stage_of m k ≡ M.stage k
  pub others : (k : ℕ) → k < 6 → (k ≡ j → ⊥) → other_of m k ≡ M.other k
  pub hands : (k : ℕ) → k < 6 → (k ≡ j → ⊥) → held_of m k ≡ get_or (firsts ((M.node k).letters 0)) 0 0
  pub positions : (k : ℕ) → k < 6 → (k ≡ j → ⊥) → RightPosition M k

-- his position in the machine
pub record Here (M : Machine) (j : ℕ) (p : Position) : Type 0 where
  pub stage : M.stage j ≡ p.stage
  pub other : M.other j ≡ p.other
  pub held : p.held ≡ get_or (firsts ((M.node j).letters 0)) 0 0
  pub right : RightPosition M j

-- the words of another postman's position
module _ (m : List ℕ) (j : ℕ) (p : Position) (k : ℕ) (n : k ≡ j → ⊥) where
  pub others-stage : stage_of (standing m j p) k ≡ stage_of m k
  others-stage = stand_word m j p (6 + k * 3) (λ e. n (omega arith)) (λ e. omega arith) (λ e. omega arith)

  pub others_other : other_of (standing m j p) k ≡ other_of m k
  others_other = stand_word m j p (6 + k * 3 + 1) (λ e. omega arith) (λ e. n (omega arith)) (λ e. omega arith)

  pub others-held : held_of (standing m j p) k ≡ held_of m k
  others-held = stand_word m j p (6 + k * 3 + 2) (λ e. omega arith) (λ e. omega arith) (λ e. n (omega arith))

-- A TURN'S WORK BEGINS: a memory that represents a machine with him at a position
module _ (s : Settings) (m : List ℕ) (j : ℕ) (p : Position) (h : j < 6) (own : settings_in m ≡ s) (M : Machine) (rep : RepresentsAt s (standing m j p) M) where
  t_same : table_in (standing m j p) ≡ table_in m
  t_same = stand_table m j p h

  pub front_in : nodes_at ≤ length m
  front_in = omega (arith, nodes_fit s, stand_length m j p, rep.size)

  pub midway_of : Midway s m j M
  midway_of =
      record {
        settings = own;
        table = subst (λ (x : List ℕ). right_table x ≡ true) t_same rep.table;
        works =
            record {
              size = sym (stand_length m j p) ∙ rep.size;
              core = subst (λ (Q : ℕ → ℕ → List ℕ). Core s Q M.node) (stand_rows s m j p h) rep.core;
              order = rw t_same at rep.formed.order;
              flags = subst (λ (Q : ℕ → ℕ → List ℕ). Flagged Q M.node) (stand_rows s m j p h) rep.shows.flags;
            };
        turn = sym (stand_word m j p 5 (λ e. omega arith) (λ e. omega arith) (λ e. omega arith)) ∙ rep.shows.turn;
        low = rep.formed.turn;
        stages = λ k g n. sym (others-stage m j p k n) ∙ rep.shows.stage k g;
        others = λ k g n. sym (others_other m j p k n) ∙ rep.shows.other k g;
        hands = λ k g n. sym (others-held m j p k n) ∙ rep.shows.hand k g;
        positions = λ k g n. rep.formed.positions k g;
      }

  pub here_of : Here M j p
  here_of =
      record {
        stage = sym (rep.shows.stage j h) ∙ stand_stage m j p h front_in;
        other = sym (rep.shows.other j h) ∙ stand_other m j p h front_in;
        held = sym (stand_held m j p h front_in) ∙ rep.shows.hand j h;
        right = rep.formed.positions j h;
      }

-- AND ENDS with him at a position
module _ (s : Settings) (m : List ℕ) (j : ℕ) (p : Position) (h : j < 6) (M : Machine) (mid : Midway s m j M) (here : Here M j p) where
  t-back : table_in (standing m j p) ≡ table_in m
  t-back = stand_table m j p h

  long_in : nodes_at ≤ length m
  long_in = omega (arith, nodes_fit s, mid.works.size)

  -- what a word shows for each node, his own and another's
  each : (f : List ℕ → ℕ → ℕ) (g : ℕ → ℕ) → f (standing m j p) j ≡ g j → ((k : ℕ) → k < 6 → (k ≡ j → ⊥) → f (standing m j p) k ≡ g k) → (k : ℕ) → k < 6 → f (standing m j p) k ≡ g k
  each f g x y k a = same? k j (λ e t. rw e x) (λ e t. y k a e)

  pub represents_midway : RepresentsAt s (standing m j p) M
  represents_midway =
      record {
        size = stand_length m j p ∙ mid.works.size;
        table = subst (λ (x : List ℕ). right_table x ≡ true) (sym t-back) mid.table;
        core = subst (λ (Q : ℕ → ℕ → List ℕ). Core s Q M.node) (sym (stand_rows s m j p h)) mid.works.core;
        shows =
            record {
              turn = stand_word m j p 5 (λ e. omega arith) (λ e. omega arith) (λ e. omega arith) ∙ mid.turn;
              stage = each stage_of M.stage (stand_stage m j p h long_in ∙ sym here.stage) (λ k a n. others-stage m j p k n ∙ mid.stages k a n);
              other = each other_of M.other (stand_other m j p h long_in ∙ sym here.other) (λ k a n. others_other m j p k n ∙ mid.others k a n);
              hand = each held_of (λ k. get_or (firsts ((M.node k).letters 0)) 0 0) (stand_held m j p h long_in ∙ here.held) (λ k a n. others-held m j p k n ∙ mid.hands k a n);
              flags = subst (λ (Q : ℕ → ℕ → List ℕ). Flagged Q M.node) (sym (stand_rows s m j p h)) mid.works.flags;
            };
        formed =
            rw t-back
            (record { turn = mid.low; order = mid.works.order; positions = λ k a. same? k j (λ e t. rw e here.right) (λ e t. mid.positions k a e) });
      }

  pub stands_midway : SoundAt s m j p
  stands_midway =
      record {
        settings = sym mid.settings;
        postman = h;
        holds = represents_sound_at s (standing m j p) M (stand_settings m j p h ∙ mid.settings) represents_midway;
      }

-- from what a stage asks for
module _ (s : Settings) (m : List ℕ) (j : ℕ) (p : Position) (st : SoundAt s m j p) where
  unfoldable pub machine_at : Machine
  machine_at = machine_of (standing m j p)

  pub stands_represents : RepresentsAt s (standing m j p) machine_at
  unfolding machine_at
  stands_represents =
      subst (λ (x : Settings). RepresentsAt x (standing m j p) (machine_of (standing m j p))) (stand_settings m j p st.postman ∙ sym st.settings)
      (sound_represents (standing m j p) st.holds)

-- ---- A STEP OF HIS WORK
-- the words before the stretches are the same
pub record Front (m m' : List ℕ) : Type 0 where
  pub words : (k : ℕ) → k < 536 → get_or m' k 0 ≡ get_or m k 0
  pub table : table_in m' ≡ table_in m

pub front_with : (s : Settings) (m : List ℕ) → length m ≡ memory_size s → (i : ℕ) → i < 6 → (l : List ℕ) → length l ≡ node_size s → Front m (with_node s m i l)
front_with s m size i h l long = record { words = with_word s m size i h l long; table = with_table s m size i h l long }

pub front_then : {m m' m'' : List ℕ} → Front m m' → Front m' m'' → Front m m''
front_then f g = record { words = λ k a. g.words k a ∙ f.words k a; table = g.table ∙ f.table }

front_settings : (m m' : List ℕ) → Front m m' → settings_in m' ≡ settings_in m
front_settings m m' f = rw (f.words 0 (omega arith), f.words 1 (omega arith), f.words 2 (omega arith), f.words 3 (omega arith), f.words 4 (omega arith))

-- the other postmen's hands, and the send queues to their nodes, are the same
pub record Beside (j : ℕ) (N N' : ℕ → Node) : Type 0 where
  pub hands : (k : ℕ) → k < 6 → (k ≡ j → ⊥) → (N' k).letters 0 ≡ (N k).letters 0
  pub sends : (i k : ℕ) → i < 6 → k < 6 → (k ≡ j → ⊥) → (N' i).letters (1 + k) ≡ (N i).letters (1 + k)

-- the machine with node j's postman at position p, and other nodes
abbrev pub with_position : Machine → ℕ → Position → (ℕ → Node) → Machine
with_position M j p N = record { turn = M.turn; stage = put M.stage j p.stage; other = put M.other j p.other; node = N }

-- a position of which nothing changes
position_same : (M M' : Machine) (k : ℕ) → M'.stage k ≡ M.stage k → M'.other k ≡ M.other k → (M'.node k).letters 0 ≡ (M.node k).letters 0
    → (1 ≤ M.stage k → (M'.node (M.other k)).letters (1 + k) ≡ (M.node (M.other k)).letters (1 + k)) → RightPosition M k → RightPosition M' k
position_same M M' k e f g w o =
    record {
      none = λ z. f ∙ o.none (sym e ∙ z);
      most = rw e o.most;
      names = λ z. rw f (o.names (rw e at z));
      another = λ z y. o.another (rw e at z) (sym f ∙ y);
      waits = λ z. rw (f, w (rw e at z)) (o.waits (rw e at z));
      hand = λ z. g ∙ o.hand (λ y. z (e ∙ y));
      copy = λ z. let y : M.stage k ≡ 2 = sym e ∙ z in rw (g, f, w (omega arith)) (o.copy y);
    }

module _ (s : Settings) (m m' : List ℕ) (j : ℕ) (M : Machine) (mid : Midway s m j M) (front : Front m m') (N' : ℕ → Node) (works : Working s (table_in m) m' N') (beside : Beside j M.node N') (p : Position) where
  pub goes_midway : Midway s m' j (with_position M j p N')
  goes_midway =
      record {
        settings = front_settings m m' front ∙ mid.settings;
        table = subst (λ (x : List ℕ). right_table x ≡ true) (sym front.table) mid.table;
        works = subst (λ (x : List ℕ). Working s x m' N') (sym front.table) works;
        turn = front.words 5 (omega arith) ∙ mid.turn;
        low = mid.low;
        stages = λ k g n. front.words (6 + k * 3) (omega arith) ∙ mid.stages k g n ∙ sym (put_other M.stage j p.stage k n);
        others = λ k g n. front.words (6 + k * 3 + 1) (omega arith) ∙ mid.others k g n ∙ sym (put_other M.other j p.other k n);
        hands = λ k g n. front.words (6 + k * 3 + 2) (omega arith) ∙ mid.hands k g n ∙ ap (λ (x : List Letter). get_or (firsts x) 0 0) (sym (beside.hands k g n));
        positions = λ k g n. position_same M (with_position M j p N') k (put_other M.stage j p.stage k n) (put_other M.other j p.other k n) (beside.hands k g n)
            (λ z. beside.sends (M.other k) k (omega (arith, (mid.positions k g n).names z)) g n) (mid.positions k g n);
      }

-- his own position: at rest; or at a stage that names node i, whose send queue to j has a letter
module _ (M : Machine) (j : ℕ) (N : ℕ → Node) where
  pub here_rest : (N j).letters 0 ≡ [] → Here (with_position M j at_rest N) j at_rest
  here_rest e =
      let z : put M.stage j 0 j ≡ 0 = put_same M.stage j 0 in
      record {
        stage = z;
        other = put_same M.other j 0;
        held = sym (ap (λ (x : List Letter). get_or (firsts x) 0 0) e);
        right =
            record {
              none = λ y. put_same M.other j 0;
              most = rw z (omega arith);
              names = λ y. absurd (omega arith);
              another = λ y. absurd (omega arith);
              waits = λ y. absurd (omega arith);
              hand = λ y. e;
              copy = λ y. absurd (omega arith);
            };
      }

  module _ (i : ℕ) (h : i < 6) (apart : i ≡ j → ⊥) (some : 1 ≤ length ((N i).letters (1 + j))) where
    -- stages 1 and 3, with nothing in the hand
    pub here_at : (stage : ℕ) → 1 ≤ stage → stage ≤ 3 → (stage ≡ 2 → ⊥) → (N j).letters 0 ≡ [] → Here (with_position M j (at stage i 0) N) j (at stage i 0)
    here_at stage lo hi two e =
        let z : put M.stage j stage j ≡ stage = put_same M.stage j stage in
        let w : put M.other j i j ≡ i = put_same M.other j i in
        record {
          stage = z;
          other = w;
          held = sym (ap (λ (x : List Letter). get_or (firsts x) 0 0) e);
          right =
              record {
                none = λ y. absurd (omega arith);
                most = rw z hi;
                names = λ y. rw w (omega arith);
                another = λ y x. apart (sym w ∙ x);
                waits = λ y. rw w some;
                hand = λ y. e;
                copy = λ y. absurd (two (sym z ∙ y));
              };
        }

    -- stage 2, with a copy of its first letter
    pub here_hold : (L : Letter) → (N j).letters 0 ≡ L ∷ [] → L.words ∷ [] ≡ take 1 (map words_of ((N i).letters (1 + j))) → Here (with_position M j (at 2 i (first L)) N) j (at 2 i (first L))
    here_hold L e copy =
        let z : put M.stage j 2 j ≡ 2 = put_same M.stage j 2 in
        let w : put M.other j i j ≡ i = put_same M.other j i in
        record {
          stage = z;
          other = w;
          held = sym (ap (λ (x : List Letter). get_or (firsts x) 0 0) e);
          right =
              record {
                none = λ y. absurd (omega arith);
                most = rw z (omega arith);
                names = λ y. rw w (omega arith);
                another = λ y x. apart (sym w ∙ x);
                waits = λ y. rw w some;
                hand = λ y. absurd (y z);
                copy = λ y. rw (e, w) copy;
              };
        }
