-- STAGE 2, 'append to the task queue, closing gaps as above': the copy in the hand is in the queue, or its full count has risen. Assumes nothing.
use Rattle.std.specs.Prelude.{Err, Ok, Result}
use mathlib.Core.Path.{◌≡◌, refl, sym, ap, ◌∙◌, subst}
use mathlib.Core.List.{List, [], ◌∷◌, ◌++◌, map}
use Prim.Native.Nat.{ℕ, ◌+◌, ◌≤◌, ◌<◌}
use native.Mathlib.Omega.{arith}
use lib.ListN.{length, get_or, take}
use Rattle.words.proofs.Count.{down_range}
use Rattle.words.proofs.Lists.{put, put_same, put_other, same?}
use Rattle.settings.specs.declared.Settings.{Settings}
use Rattle.layout.specs.Places.{node, with_node, task_at}
use Rattle.tasks.specs.Table.{queue_of}
use Rattle.queues.specs.declared.Full.{Full}
use Rattle.queues.specs.Items.{gap_flag}
use Rattle.queues.proofs.Tasks.{TaskRing}
use Rattle.gaps.specs.Close.{task_appended, task_answer}
use Rattle.gaps.proofs.Closed.{append-room, append-gap, append_full, append_cases}
use Rattle.sound.specs.Reading.{table_in}
use Rattle.sound.specs.Queues.{task_of}
use Rattle.answers.specs.Numbers.{queue_full}
use Rattle.machine.specs.Machine.{Letter, first, firsts, Live, words_of, Node, Machine, many}
use Rattle.machine.specs.Represents.{Right}
use Rattle.machine.proofs.Letters.{length-firsts, first_in_lem}
use Rattle.machine.proofs.Gives.{gives_stretch, gives_flagged, gives_among}
use Rattle.moves.specs.Letters.{live_ones}
use Rattle.moves.proofs.Made.{placed, Working}
use Rattle.moves.proofs.Queues.{length_task_appended}
use Rattle.moves.proofs.Rising.{task_full_works}
use Rattle.moves.proofs.Hands.{resume_works, resume_gap_works}
use Rattle.postman.specs.Position.{at}
use Rattle.postman.specs.Round.{Did, did, on_stage}
use Rattle.stages_keep.specs.Steps.{on_append, queue_for, queued}
use Rattle.stages_keep.proofs.Standing.{Here, Front, with_position, front_with, goes_midway, here_at, here_hold}
use Rattle.stages_keep.proofs.Shown.{words-shown, first_live_lem, first_right}
use Rattle.stages_keep.proofs.Way.{carries_one}
use Rattle.stages_keep.proofs.Going.{Is, Goes, stop-way, source-node, queue_in, queue_bound, right_queue}
use Rattle.moves.proofs.Items.{live_more, live_twice}

module _ (s : Settings) (m : List ℕ) (j i c : ℕ) (h : j < 6) (g : i < 6) (M : Machine) (at-m : Is s m j (at 2 i c) M)
    (K : Letter) (rest : List Letter) (e : (M.node i).letters (1 + j) ≡ K ∷ rest) (L : Letter) (one : (M.node j).letters 0 ≡ L ∷ []) (copy : L.words ≡ K.words) where
  abbrev N : ℕ → Node
  N = M.node

  abbrev t : List ℕ
  t = table_in m

  wk : Working s (table_in m) m M.node
  wk = at-m.mid.works

  abbrev count : Machine → ℕ
  count X = length ((X.node i).letters (1 + j))

  stage_2 : M.stage j ≡ 2
  stage_2 = at-m.here.stage

  apart : i ≡ j → ⊥
  apart z = at-m.here.right.another (omega (arith, stage_2)) (at-m.here.other ∙ z)

  first_c : c ≡ first L
  first_c = at-m.here.held ∙ ap (λ (ls : List Letter). get_or (firsts ls) 0 0) one

  live_l : Live L
  live_l = first_live_lem s t m N wk j 0 h (omega arith) L [] one (omega arith)

  begins : first L ≡ 0 → ⊥
  begins z =
      let r = down_range s.m (first L) (omega (arith, first_in_lem L live_l, gives_among s m wk.size N wk.core j 0 h (omega arith) (first L), ap (many (first L)) one)) in
      omega arith

  ok : Right (table_in m) i (1 + j) K.words
  ok = first_right s t m N wk i (1 + j) g (omega arith) K rest e (first_live_lem s t m N wk i (1 + j) g (omega arith) K rest e (omega arith))

  -- the queue that it is for
  abbrev q : ℕ
  q = queue_of t (get_or K.words 2 0)

  q_in : q < 64
  q_in = queue_in t at-m.mid.table i j h K.words ok

  right_l : Right (table_in m) j (13 + q) L.words
  right_l = subst (Right t j (13 + q)) (sym copy) (right_queue t at-m.mid.table i j h K.words ok)

  bound : task_of (table_in m) j q ≡ 0 → ⊥
  bound = queue_bound t at-m.mid.table i j h K.words ok

  words_c : queue_for s j m c ≡ task_at s q
  words_c = ap (λ (x : ℕ). queue_for s j m x) first_c ∙ ap (λ (ws : List ℕ). task_at s (queue_of t (get_or ws 2 0))) (words-shown s t m N wk j 0 h (omega arith) L [] one ∙ copy)

  abbrev ls : List Letter
  ls = (N j).letters (13 + q)

  ring : TaskRing s (node s m j) (task_at s q) (firsts ls)
  ring = gives_flagged s m wk.size N wk.core j q h q_in (wk.flags j q h q_in) (wk.order.fronts j q h q_in)

  abbrev l₁ : List ℕ
  l₁ = task_appended s (node s m j) (task_at s q) (first L)

  abbrev m₁ : List ℕ
  m₁ = with_node s m j l₁

  front : Front m m₁
  front =
      front_with s m wk.size j h l₁ (length_task_appended s (node s m j) (task_at s q) (first L) ∙ (gives_stretch s m wk.size N wk.core j h).long)

  queued_is : (a : Result Unit Full) → task_answer s (node s m j) (task_at s q) ≡ a → did m₁ (on_append a queue_full) ≡ queued s j m c
  unfolding queued
  queued_is a z = rw (words_c, first_c, z)

  some_left : 1 ≤ length ((N i).letters (1 + j))
  some_left = rw e (omega arith)

  -- ---- in the queue, whose letters are now ks
  module _ (ks : List Letter) (wk' : Working s (table_in m) m₁ (put M.node j (placed (placed (M.node j) (M.node j).free 0 []) (M.node j).free (13 + queue_of (table_in m) (get_or K.words 2 0)) ks)))
      (more : live_ones ks ≡ live_ones ((M.node j).letters (13 + queue_of (table_in m) (get_or K.words 2 0))) ++ L ∷ []) where
    abbrev X : Node
    X = placed (placed (N j) (N j).free 0 []) (N j).free (13 + q) ks

    abbrev N₁ : ℕ → Node
    N₁ = put N j X

    here₁ : (N₁ j).letters (13 + q) ≡ ks
    unfolding placed
    here₁ = ap (λ (Y : Node). Y.letters (13 + q)) (put_same N j X) ∙ put_same (put (N j).letters 0 []) (13 + q) ks

    hand₁ : (N₁ j).letters 0 ≡ []
    unfolding placed
    hand₁ =
        ap (λ (Y : Node). Y.letters 0) (put_same N j X) ∙ put_other (put (N j).letters 0 []) (13 + q) ks 0 (λ z. omega arith) ∙ put_same (N j).letters 0 []

    other₁ : (k p : ℕ) → (k ≡ j → p ≡ 0 → ⊥) → (k ≡ j → p ≡ 13 + q → ⊥) → (N₁ k).letters p ≡ (N k).letters p
    unfolding placed
    other₁ k p u v =
        same? k j
        (λ a b. rw b (put_other (put (N j).letters 0 []) (13 + q) ks p (v a) ∙ put_other (N j).letters 0 [] p (u a) ∙ ap (λ (x : ℕ). (N x).letters p) (sym a)))
        (λ a b. rw b)

    sends₁ : (k p : ℕ) → k < 6 → p < 6 → (N₁ k).letters (1 + p) ≡ (N k).letters (1 + p)
    sends₁ k p a b = other₁ k (1 + p) (λ u v. omega arith) (λ u v. omega arith)

    done_goes : Goes s t m₁ j (at 3 i 0) M (K.words ∷ []) count (length ((N i).letters (1 + j)))
    done_goes =
        record {
          after = with_position M j (at 3 i 0) N₁;
          is =
              record {
                mid = goes_midway s m m₁ j M at-m.mid front N₁ wk'
                    (record { hands = λ k a b. other₁ k 0 (λ u v. b u) (λ u v. b u); sends = λ i k a b d. sends₁ i k a b }) (at 3 i 0);
                here = here_at M j N₁ i g apart (rw (sends₁ i j g h) some_left) 3 (omega arith) (omega arith) (λ z. omega arith) hand₁;
              };
          same = front.table;
          way =
              carries_one t M (with_position M j (at 3 i 0) N₁) i j q g h L K rest copy (source-node t at-m.mid.table i j h K.words ok) refl e
              (λ z. omega (arith, stage_2)) (put_same M.stage j 3) (put_same M.other j i)
              (λ k a n. put_other M.stage j 3 k n) (λ k a n. put_other M.other j i k n)
              sends₁ (ap live_ones here₁ ∙ more)
              (λ k p a b n. ap live_ones (other₁ k (13 + p) (λ u v. omega arith) (λ u v. n u (omega arith))));
          turn = refl;
          left = ap length (sends₁ i j g h);
        }

  -- ---- the queue was full
  full_goes : length ls ≡ s.t → gap_flag (firsts ls) ≡ 0 → Goes s t m₁ j (at 2 i c) M [] count (length ((N i).letters (1 + j)))
  full_goes full gaps =
      record {
        after = with_position M j (at 2 i c) N;
        is =
            record {
              mid = goes_midway s m m₁ j M at-m.mid front N (task_full_works s t m N wk j q h q_in (first L) full gaps) (record { hands = λ k a b. refl; sends = λ i k a b d. refl }) (at 2 i c);
              here = subst (λ (x : ℕ). Here (with_position M j (at 2 i x) N) j (at 2 i x)) (sym first_c)
                  (here_hold M j N i g apart some_left L one (ap (λ (w : List ℕ). w ∷ []) copy ∙ ap (λ (x : List Letter). take 1 (map words_of x)) (sym e)));
            };
        same = front.table;
        way = stop-way t M j h (at 2 i c) N (λ k q a b. refl) (λ i k a b. refl) stage_2 at-m.here.other;
        turn = refl;
        left = refl;
      }

  -- STAGE 2
  pub second_goes : Goes s (table_in m) (queued s j m c).memory j (on_stage (queued s j m c).how (at 2 i c) (at 3 i 0)) M (on_stage (queued s j m c).how [] (K.words ∷ [])) (λ X. length ((X.node i).letters (1 + j))) (length ((M.node i).letters (1 + j)))
  second_goes =
      let P : Did → Type 0 = λ d. Goes s t d.memory j (on_stage d.how (at 2 i c) (at 3 i 0)) M (on_stage d.how [] (K.words ∷ [])) count (length ((N i).letters (1 + j))) in
      append_cases s (node s m j) (task_at s q) (firsts ls) ring
      (λ z. subst P (queued_is (Ok tt) (append-room s (node s m j) (task_at s q) (firsts ls) ring (first L) begins z).1)
      (done_goes (ls ++ L ∷ []) (resume_works s t m N wk j q h q_in L one begins right_l bound (omega (arith, length-firsts ls))) (live_more ls L begins)))
      (λ z f. subst P (queued_is (Ok tt) (append-gap s (node s m j) (task_at s q) (firsts ls) ring (first L) begins z f).1)
      (done_goes (live_ones ls ++ L ∷ []) (resume_gap_works s t m N wk j q h q_in L one begins right_l bound (sym (length-firsts ls) ∙ z) f)
      (live_more (live_ones ls) L begins ∙ ap (λ (x : List Letter). x ++ L ∷ []) (live_twice ls))))
      (λ z f. subst P (queued_is (Err (record {})) (append_full s (node s m j) (task_at s q) (firsts ls) ring (first L) z f).1)
      (full_goes (sym (length-firsts ls) ∙ z) f))
