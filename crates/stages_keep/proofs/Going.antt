-- From a memory with node j's postman at a position to the memory that a stage leaves: what both represent. Assumes nothing.
use mathlib.Core.Path.{◌≡◌, refl, sym, ap, ◌∙◌, subst}
use mathlib.Core.Bool.{true}
use mathlib.Core.List.{List, [], ◌∷◌, map}
use Prim.Native.Nat.{ℕ, ◌+◌, ◌-◌, ◌<◌}
use native.Mathlib.Omega.{arith}
use lib.Dec.{eqb}
use lib.ListN.{length, get_or}
use borrow.Author.Tests.{eq-eqb}
use Rattle.words.proofs.Lists.{put_same, put_other, same?}
use Rattle.settings.specs.declared.Settings.{Settings}
use Rattle.layout.specs.Numbers.{source_task_word, destination_task_word}
use Rattle.layout.proofs.NodeRows.{by_head, by_task}
use Rattle.tasks.specs.Table.{node_of, queue_of, is_bound, right_table}
use Rattle.tasks.proofs.Laws.{seat_below}
use Rattle.sound.specs.Reading.{table_in}
use Rattle.sound.specs.Queues.{task_of}
use Rattle.sound.specs.Letters.{from_to, right_place}
use Rattle.machine.specs.Machine.{Letter, words_of, Node, Machine}
use Rattle.machine.specs.Represents.{Right}
use Rattle.moves.specs.Letters.{live_ones}
use Rattle.stages_keep.specs.Way.{to_carry, Carries}
use Rattle.moves.proofs.Seats.{bound_some, task_is}
use Rattle.postman.specs.declared.Position.{Position}
use Rattle.stages_keep.proofs.Standing.{Midway, Here, with_position}
use Rattle.stages_keep.proofs.Headers.{Header, header-says, send-says}
use Rattle.stages_keep.proofs.Way.{carry_stage, carry_same, carries_none}

-- the memory, with node j's postman at position p, represents M
pub record Is (s : Settings) (m : List ℕ) (j : ℕ) (p : Position) (M : Machine) : Type 0 where
  pub mid : Midway s m j M
  pub here : Here M j p

-- from M on: the memory m with him at position p represents a machine after he carried those letters, and n of what f counts
pub record Goes (s : Settings) (table m : List ℕ) (j : ℕ) (p : Position) (M : Machine) (news : List (List ℕ)) (f : Machine → ℕ) (n : ℕ) : Type 0 where
  pub after : Machine
  pub is : Is s m j p after
  pub same : table_in m ≡ table
  pub way : Carries table j M after news
  pub turn : after.turn ≡ M.turn
  pub left : f after ≡ n

-- ---- a step that changes no task queue and no send queue
module _ (table : List ℕ) (M : Machine) (j : ℕ) (h : j < 6) (p : Position) (N : ℕ → Node)
    (tasks : (k q : ℕ) → k < 6 → q < 64 → (N k).letters (13 + q) ≡ (M.node k).letters (13 + q))
    (sends : (i k : ℕ) → i < 6 → k < 6 → (N i).letters (1 + k) ≡ (M.node i).letters (1 + k)) where
  abbrev M' : Machine
  M' = with_position M j p N

  way_of : ((i : ℕ) → i < 6 → j < 6 → to_carry M' i j ≡ to_carry M i j) → Carries table j M (with_position M j p N) []
  way_of f =
      carries_none table j M M' h
      (λ k q a b. ap live_ones (tasks k q a b))
      (λ i k a b. same? k j
      (λ e t. subst (λ (x : ℕ). to_carry M' i x ≡ to_carry M i x) (sym e) (f i a (rw (← e) b)))
      (λ e t. carry_same M M' i k (put_other M.stage j p.stage k e) (put_other M.other j p.other k e) (sends i k a b)))

  -- and leads to no stage 3 and from none
  pub still-way : (M.stage j ≡ 3 → ⊥) → (p.stage ≡ 3 → ⊥) → Carries table j M (with_position M j p N) []
  still-way x y =
      way_of (λ i a b. carry_stage M' i j (λ z. y (sym (put_same M.stage j p.stage) ∙ z)) ∙ sends i j a b ∙ sym (carry_stage M i j x))

  -- and leaves the position
  pub stop-way : M.stage j ≡ p.stage → M.other j ≡ p.other → Carries table j M (with_position M j p N) []
  stop-way x y =
      way_of (λ i a b. carry_same M M' i j (put_same M.stage j p.stage ∙ sym x) (put_same M.other j p.other ∙ sym y) (sends i j a b))

-- ---- one letter in a hand
pub one_of {ℓ} : {P : Type ℓ} (ls : List Letter) (w : List ℕ) → map words_of ls ≡ w ∷ [] → ((L : Letter) → ls ≡ L ∷ [] → L.words ≡ w → P) → P
one_of [] w e f = absurd (let z : ◌≡◌ {A = ℕ} 0 1 = ap length e in omega arith)
one_of (L ∷ []) w e f = f L refl (ap (λ (l : List (List ℕ)). get_or l 0 []) e)
one_of (L ∷ K ∷ ls) w e f = absurd (let z : length (map words_of (L ∷ K ∷ ls)) ≡ 1 = ap length e in omega arith)

-- ---- what the header says of a letter that waits in node i for node j
module _ (table : List ℕ) (right : right_table table ≡ true) (i j : ℕ) (h : j < 6) (ws : List ℕ) (ok : Right table i (1 + j) ws) where
  abbrev d : ℕ
  d = get_or ws 2 0

  says : Header table ws
  says = header-says table ws ok.header

  ends : (get_or ws 1 0 ≡ i) × (get_or ws 3 0 ≡ j)
  ends = send-says table i j ws h ok.place

  pub source-node : node_of table (get_or ws source_task_word 0) ≡ i
  source-node = says.from ∙ ends.0

  pub destination_bound : is_bound table (get_or ws destination_task_word 0) ≡ true
  destination_bound = says.destination

  pub destination-node : node_of table (get_or ws destination_task_word 0) ≡ j
  destination-node = says.to ∙ ends.1

  pub queue_in : queue_of table (get_or ws destination_task_word 0) < 64
  queue_in = (seat_below table d right destination_bound).1

  task_there : task_of table j (queue_of table d) ≡ d
  task_there = ap (λ (k : ℕ). task_of table k (queue_of table d)) (sym destination-node) ∙ task_is table right d destination_bound

  pub queue_bound : task_of table j (queue_of table (get_or ws destination_task_word 0)) ≡ 0 → ⊥
  queue_bound z = bound_some table right d destination_bound (sym task_there ∙ z)

  -- it is right in a postman's hand
  pub right_hand : Right table j 0 ws
  unfolding right_place
  right_hand =
      record { least = ok.least; most = ok.most; told = ok.told; header = ok.header; place = by_head 0 true (from_to j (0 - 1) ws) (from_to j (0 - 7) ws) (eqb (get_or ws 2 0) (task_of table j (0 - 13))) true (omega arith) }

  -- and in the task queue that it is for
  pub right_queue : Right table j (13 + queue_of table (get_or ws destination_task_word 0)) ws
  unfolding right_place
  right_queue =
      let q : ℕ = queue_of table d in
      let e : 13 + queue_of table d - 13 ≡ queue_of table d = omega arith in
      record {
        least = ok.least;
        most = ok.most;
        told = ok.told;
        header = ok.header;
        place =
            by_task (13 + q) true (from_to j (13 + q - 1) ws) (from_to j (13 + q - 7) ws) (eqb d (task_of table j (13 + q - 13))) true (omega arith) (omega (arith, queue_in))
            ∙ eq-eqb d (task_of table j (13 + q - 13)) (sym (ap (task_of table j) e ∙ task_there));
      }
