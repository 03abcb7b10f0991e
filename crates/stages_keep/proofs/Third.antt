-- STAGE 3, 'append the source's block to j's acknowledge queue for that node; drop the send item', or the queue's full count has risen. Assumes nothing.
use mathlib.Core.Path.{◌≡◌, refl, sym, ap, ◌∙◌, subst}
use mathlib.Core.List.{List, [], ◌∷◌, ◌++◌}
use Prim.Native.Nat.{ℕ, ◌+◌, ◌≤◌, ◌<◌}
use native.Mathlib.Omega.{arith}
use lib.Dec.{ltb}
use lib.ListN.{length, get_or, drop}
use borrow.Author.Tests.{ltb-true, ltb-false, lt-ltb, le-ltb}
use Rattle.words.proofs.Lists.{put, put_same, put_other, split, same?}
use Rattle.settings.specs.declared.Settings.{Settings}
use Rattle.layout.specs.Places.{node_size, memory_size, node, with_node, ack_at, send_at}
use Rattle.queues.specs.Queue.{send_kind, ack_kind, items}
use Rattle.queues.specs.Moves.{appended, append_answer, dropped}
use Rattle.queues.proofs.Views.{length-appended, length-dropped}
use Rattle.sound.specs.Reading.{table_in}
use Rattle.answers.specs.Numbers.{acknowledge_queue_full}
use Rattle.machine.specs.Machine.{Letter, first, firsts, Node, Machine}
use Rattle.machine.proofs.Letters.{length-firsts}
use Rattle.machine.proofs.Gives.{gives_stretch, gives_ack}
use Rattle.moves.specs.Letters.{live_ones}
use Rattle.stages_keep.specs.Way.{to_carry}
use Rattle.moves.proofs.Made.{placed, Working}
use Rattle.moves.proofs.Memory.{with_long, with_node_lem}
use Rattle.moves.proofs.Rising.{ack_full_works}
use Rattle.moves.proofs.Works.{hand_over_works}
use Rattle.postman.specs.declared.Stage.{Stage}
use Rattle.postman.specs.declared.Stage.TheVariants.{Done, Stopped}
use Rattle.postman.specs.Position.{at, at_rest}
use Rattle.postman.specs.Round.{on_stage}
use Rattle.stages_keep.specs.Steps.{first_of, acknowledged, send_dropped}
use Rattle.stages_keep.proofs.Standing.{Front, with_position, front_with, front_then, goes_midway, here_rest, here_at}
use Rattle.stages_keep.proofs.Shown.{send-shown}
use Rattle.stages_keep.proofs.Way.{carry_stage, carry_away, carry_over, carry_same, carries_none}
use Rattle.stages_keep.proofs.Going.{Is, Goes, stop-way}

-- a stage that is done has not stopped
pub not_done : {n : ℕ} → Done ≡ Stopped n → ⊥
not_done q = let y : ◌≡◌ {A = ℕ} 0 1 = ap (λ (x : Stage). on_stage x 1 0) q in omega arith

module _ (s : Settings) (m : List ℕ) (j i : ℕ) (h : j < 6) (g : i < 6) (M : Machine) (at-m : Is s m j (at 3 i 0) M) (K : Letter) (rest : List Letter) (e : (M.node i).letters (1 + j) ≡ K ∷ rest) where
  abbrev N : ℕ → Node
  N = M.node

  abbrev t : List ℕ
  t = table_in m

  wk : Working s (table_in m) m M.node
  wk = at-m.mid.works

  abbrev count : Machine → ℕ
  count X = length ((X.node i).letters (1 + j))

  stage_3 : M.stage j ≡ 3
  stage_3 = at-m.here.stage

  other_i : M.other j ≡ i
  other_i = at-m.here.other

  apart : i ≡ j → ⊥
  apart z = at-m.here.right.another (omega (arith, stage_3)) (other_i ∙ z)

  empty : (N j).letters 0 ≡ []
  empty = at-m.here.right.hand (λ z. omega (arith, stage_3))

  first_k : first_of s j m i ≡ first K
  first_k = ap (λ (l : List ℕ). get_or l 0 0) (send-shown s t m N wk i j g h ∙ ap firsts e)

  some_left : 1 ≤ length ((N i).letters (1 + j))
  some_left = rw e (omega arith)

  abbrev l₁ : List ℕ
  l₁ = appended (ack_kind s) (node s m j) (ack_at s i) (first K)

  long₁ : length l₁ ≡ node_size s
  long₁ = length-appended (ack_kind s) (node s m j) (ack_at s i) (first K) ∙ (gives_stretch s m wk.size N wk.core j h).long

  abbrev m₁ : List ℕ
  m₁ = with_node s m j l₁

  size₁ : length m₁ ≡ memory_size s
  size₁ = with_long s m wk.size j h l₁ long₁ ∙ wk.size

  front₁ : Front m m₁
  front₁ = front_with s m wk.size j h l₁ long₁

  -- how many letters of node i stand acknowledged in j
  items_is : items (ack_kind s) (node s m j) (ack_at s i) ≡ length ((N i).letters (7 + j))
  items_is = (gives_ack s m wk.size N wk.core j i h g).count ∙ length-firsts ((N i).letters (7 + j))

  memory_is : (acknowledged s j m i).memory ≡ m₁
  unfolding acknowledged
  memory_is = rw first_k

  done-how : length ((N i).letters (7 + j)) < s.a → (acknowledged s j m i).how ≡ Done
  unfolding acknowledged append_answer
  done-how z = rw (items_is, lt-ltb (length ((N i).letters (7 + j))) s.a z)

  full_how : s.a ≤ length ((N i).letters (7 + j)) → (acknowledged s j m i).how ≡ Stopped acknowledge_queue_full
  unfolding acknowledged append_answer
  full_how z = rw (items_is, le-ltb (length ((N i).letters (7 + j))) s.a z)

  -- ---- the queue was full
  full_goes : s.a ≤ length ((N i).letters (7 + j)) → Goes s t m₁ j (at 3 i 0) M [] count (length ((N i).letters (1 + j)))
  full_goes full =
      record {
        after = with_position M j (at 3 i 0) N;
        is =
            record {
              mid = goes_midway s m m₁ j M at-m.mid front₁ N (ack_full_works s t m N wk i j g h (first K) full) (record { hands = λ k a b. refl; sends = λ i k a b d. refl }) (at 3 i 0);
              here = here_at M j N i g apart some_left 3 (omega arith) (omega arith) (λ z. omega arith) empty;
            };
        same = front₁.table;
        way = stop-way t M j h (at 3 i 0) N (λ k q a b. refl) (λ i k a b. refl) stage_3 other_i;
        turn = refl;
        left = refl;
      }

  -- ---- handed over
  abbrev l₂ : List ℕ
  l₂ = dropped (send_kind s) (node s m i) (send_at s j)

  abbrev m₂ : List ℕ
  m₂ = with_node s m₁ i l₂

  front₂ : Front m m₂
  front₂ = front_then front₁ (front_with s m₁ size₁ i g l₂ (length-dropped (send_kind s) (node s m i) (send_at s j) ∙ (gives_stretch s m wk.size N wk.core i g).long))

  dropped_is : send_dropped s j m₁ i ≡ m₂
  dropped_is =
      ap (λ (l : List ℕ). with_node s m₁ i (dropped (send_kind s) l (send_at s j))) (with_node_lem s m wk.size j h l₁ long₁ i ∙ put_other (node s m) j l₁ i apart)

  abbrev ks : List Letter
  ks = (N i).letters (7 + j) ++ K ∷ []

  abbrev X : Node
  X = placed (placed (N i) (N i).free (1 + j) rest) (N i).free (7 + j) ks

  abbrev N₂ : ℕ → Node
  N₂ = put N i X

  other₂ : (k p : ℕ) → (k ≡ i → p ≡ 1 + j → ⊥) → (k ≡ i → p ≡ 7 + j → ⊥) → (N₂ k).letters p ≡ (N k).letters p
  unfolding placed
  other₂ k p u v =
      same? k i
      (λ a b. rw b (put_other (put (N i).letters (1 + j) rest) (7 + j) ks p (v a) ∙ put_other (N i).letters (1 + j) rest p (u a) ∙ ap (λ (x : ℕ). (N x).letters p) (sym a)))
      (λ a b. rw b)

  rest₂ : (N₂ i).letters (1 + j) ≡ rest
  unfolding placed
  rest₂ =
      ap (λ (Y : Node). Y.letters (1 + j)) (put_same N i X) ∙ put_other (put (N i).letters (1 + j) rest) (7 + j) ks (1 + j) (λ z. omega arith) ∙ put_same (N i).letters (1 + j) rest

  abbrev M₂ : Machine
  M₂ = with_position M j at_rest N₂

  stage₂ : M₂.stage j ≡ 3 → ⊥
  stage₂ z = let y : ◌≡◌ {A = ℕ} 0 3 = sym (put_same M.stage j 0) ∙ z in omega arith

  carry₂ : (x k : ℕ) → x < 6 → k < 6 → to_carry M₂ x k ≡ to_carry M x k
  carry₂ x k a b =
      same? k j
      (λ u z. rw u (same? x i
      (λ v y. rw v (carry_stage M₂ i j stage₂ ∙ rest₂ ∙ sym (carry_over M i j stage_3 other_i ∙ ap (drop 1) e)))
      (λ v y. carry_stage M₂ x j stage₂ ∙ other₂ x (1 + j) (λ p q. v p) (λ p q. v p) ∙ sym (carry_away M x j (λ p. v (sym p ∙ other_i))))))
      (λ u z. carry_same M M₂ x k (put_other M.stage j 0 k u) (put_other M.other j 0 k u) (other₂ x (1 + k) (λ p q. u (omega arith)) (λ p q. omega arith)))

  handed_goes : length ((N i).letters (7 + j)) < s.a → Goes s t m₂ j at_rest M [] count (length rest)
  handed_goes less =
      record {
        after = M₂;
        is =
            record {
              mid = goes_midway s m m₂ j M at-m.mid front₂ N₂ (hand_over_works s t m N wk i j g h (λ z. apart (sym z)) K rest e less)
                  (record { hands = λ k a b. other₂ k 0 (λ u v. omega arith) (λ u v. omega arith); sends = λ x k a b d. other₂ x (1 + k) (λ u v. d (omega arith)) (λ u v. omega arith) }) at_rest;
              here = here_rest M j N₂ (other₂ j 0 (λ u v. omega arith) (λ u v. omega arith) ∙ empty);
            };
        same = front₂.table;
        way = carries_none t j M M₂ h (λ k q a b. ap live_ones (other₂ k (13 + q) (λ u v. omega arith) (λ u v. omega arith))) carry₂;
        turn = refl;
        left = ap length rest₂;
      }

  -- STAGE 3, done or stopped
  pub third_goes : (acknowledged s j m i).how ≡ Done → Goes s (table_in m) (send_dropped s j (acknowledged s j m i).memory i) j at_rest M [] (λ X. length ((X.node i).letters (1 + j))) (length rest)
  third_goes z =
      split (ltb (length ((N i).letters (7 + j))) s.a)
      (λ u. subst (λ (x : List ℕ). Goes s t x j at_rest M [] count (length rest)) (sym (ap (λ (x : List ℕ). send_dropped s j x i) memory_is ∙ dropped_is)) (handed_goes (ltb-true (length ((N i).letters (7 + j))) s.a u)))
      (λ u. absurd (not_done (sym z ∙ full_how (ltb-false (length ((N i).letters (7 + j))) s.a u))))

  pub third_stops : {n : ℕ} → (acknowledged s j m i).how ≡ Stopped n → Goes s (table_in m) (acknowledged s j m i).memory j (at 3 i 0) M [] (λ X. length ((X.node i).letters (1 + j))) (length ((M.node i).letters (1 + j)))
  third_stops {n} z =
      split (ltb (length ((N i).letters (7 + j))) s.a)
      (λ u. absurd (not_done (sym (done-how (ltb-true (length ((N i).letters (7 + j))) s.a u)) ∙ z)))
      (λ u. subst (λ (x : List ℕ). Goes s t x j (at 3 i 0) M [] count (length ((N i).letters (1 + j)))) (sym memory_is) (full_goes (ltb-false (length ((N i).letters (7 + j))) s.a u)))
