-- What a postman carried: nothing where queues and positions are the same, a letter whose copy is appended while it counts as handed over, one thing after
-- another; and that the letters on the way are then the same. Assumes nothing.
--     carry_stage, carry_away, carry_over, carry_same     what is still to be handed over; carries_none, carries_one, carries_then
--     carries-way     THE SAME LETTERS ON THE WAY
use mathlib.Core.Path.{◌≡◌, refl, sym, ap, ap₂, ◌∙◌}
use mathlib.Core.Bool.{Bool, true, false}
use mathlib.Core.List.{List, [], ◌∷◌, ◌++◌, map, map-append, append_assoc, append-nil}
use Prim.Native.Nat.{ℕ, ◌+◌, ◌<◌}
use lib.Dec.{eqb}
use lib.ListN.{get_or, drop}
use borrow.Author.Tests.{eqb-true, eq-eqb, ne_eqb}
use Rattle.words.proofs.Lists.{split, same?, and-true, and-false}
use Rattle.layout.specs.Numbers.{source_task_word, destination_task_word}
use Rattle.tasks.specs.Table.{node_of, queue_of, right_table}
use Rattle.tasks.proofs.Laws.{seat_below}
use Rattle.machine.specs.Machine.{Letter, words_of, Machine}
use Rattle.moves.specs.Letters.{live_ones}
use Rattle.stages_keep.specs.Way.{those, between, is_from, is_for, in_queue, to_carry, on_the_way, SameWay, Carries}

module _ (p : List ℕ → Bool) where
  pub those-append : (xs ys : List (List ℕ)) → those p (xs ++ ys) ≡ those p xs ++ those p ys
  unfolding those
  those-append [] ys = refl
  those-append (x ∷ xs) ys = split (p x) (λ e. rw e (ap (λ l. x ∷ l) (those-append xs ys))) (λ e. rw e (those-append xs ys))

  -- one that passes, one that does not
  pub those_one : (w : List ℕ) → p w ≡ true → those p (w ∷ []) ≡ w ∷ []
  unfolding those
  those_one w e = rw e

  pub those_none : (w : List ℕ) → p w ≡ false → those p (w ∷ []) ≡ []
  unfolding those
  those_none w e = rw e

  -- a test that the other passes too
  pub those-those : (q : List ℕ → Bool) → ((w : List ℕ) → p w ≡ true → q w ≡ true) → (xs : List (List ℕ)) → those p (those q xs) ≡ those p xs
  unfolding those
  those-those q f [] = refl
  those-those q f (x ∷ xs) =
      split (p x)
      (λ e. rw (f x e) (rw e (ap (λ l. x ∷ l) (those-those q f xs))))
      (λ e. split (q x) (λ d. rw d (rw e (those-those q f xs))) (λ d. rw d (rw e (those-those q f xs))))

-- ---- what is still to be handed over
module _ (m : Machine) (i k : ℕ) where
  pub carry_stage : (m.stage k ≡ 3 → ⊥) → to_carry m i k ≡ (m.node i).letters (1 + k)
  unfolding to_carry
  carry_stage n = rw (ne_eqb (m.stage k) 3 n)

  pub carry_away : (m.other k ≡ i → ⊥) → to_carry m i k ≡ (m.node i).letters (1 + k)
  unfolding to_carry
  carry_away n = rw (ne_eqb (m.other k) i n, and-false (eqb (m.stage k) 3))

  pub carry_over : m.stage k ≡ 3 → m.other k ≡ i → to_carry m i k ≡ drop 1 ((m.node i).letters (1 + k))
  unfolding to_carry
  carry_over e f = rw (eq-eqb (m.stage k) 3 e, eq-eqb (m.other k) i f)

pub carry_same : (m m' : Machine) (i k : ℕ) → m'.stage k ≡ m.stage k → m'.other k ≡ m.other k → (m'.node i).letters (1 + k) ≡ (m.node i).letters (1 + k) → to_carry m' i k ≡ to_carry m i k
unfolding to_carry
carry_same m m' i k e f g = rw (e, f, g)

-- ---- queues and positions that are the same: nothing was carried
pub carries_none : (table : List ℕ) (j : ℕ) (m m' : Machine) → j < 6 → ((k q : ℕ) → k < 6 → q < 64 → live_ones ((m'.node k).letters (13 + q)) ≡ live_ones ((m.node k).letters (13 + q)))
    → ((i k : ℕ) → i < 6 → k < 6 → to_carry m' i k ≡ to_carry m i k) → Carries table j m m' []
unfolding those in_queue
carries_none table j m m' h f g =
    record {
      arrived = λ q a. ap (map words_of) (f j q h a) ∙ sym (append-nil (map words_of (live_ones ((m.node j).letters (13 + q)))));
      left = λ i a. ap (map words_of) (sym (g i j a h));
      queues = λ k q a b n. ap (map words_of) (f k q a b);
      others = λ i k a b n. g i k a b;
    }

-- ---- A COPY APPENDED to task queue q of node j, whose letter, the first of node i's send queue for j, counts as handed over
module _ (table : List ℕ) (m m' : Machine) (i j q : ℕ) (i6 : i < 6) (j6 : j < 6) (L K : Letter) (rest : List Letter) (copy : L.words ≡ K.words)
    (from : node_of table (get_or K.words source_task_word 0) ≡ i) (to : queue_of table (get_or K.words destination_task_word 0) ≡ q)
    (first : (m.node i).letters (1 + j) ≡ K ∷ rest) (stage : m.stage j ≡ 3 → ⊥) (stage' : m'.stage j ≡ 3) (other' : m'.other j ≡ i)
    (stages : (k : ℕ) → k < 6 → (k ≡ j → ⊥) → m'.stage k ≡ m.stage k) (others : (k : ℕ) → k < 6 → (k ≡ j → ⊥) → m'.other k ≡ m.other k)
    (sends : (k p : ℕ) → k < 6 → p < 6 → (m'.node k).letters (1 + p) ≡ (m.node k).letters (1 + p))
    (here : live_ones ((m'.node j).letters (13 + q)) ≡ live_ones ((m.node j).letters (13 + q)) ++ L ∷ [])
    (tasks : (k p : ℕ) → k < 6 → p < 64 → (k ≡ j → p ≡ q → ⊥) → live_ones ((m'.node k).letters (13 + p)) ≡ live_ones ((m.node k).letters (13 + p))) where
  abbrev w : List ℕ
  w = K.words

  for_q : is_for table q w ≡ true
  unfolding is_for
  for_q = eq-eqb (queue_of table (get_or w 2 0)) q to

  for_other : (p : ℕ) → (p ≡ q → ⊥) → is_for table p w ≡ false
  unfolding is_for
  for_other p n = ne_eqb (queue_of table (get_or w 2 0)) p (λ e. n (sym e ∙ to))

  from_i : is_from table i w ≡ true
  unfolding is_from
  from_i = eq-eqb (node_of table (get_or w 0 0)) i from

  from_other : (k : ℕ) → (k ≡ i → ⊥) → is_from table k w ≡ false
  unfolding is_from
  from_other k n = ne_eqb (node_of table (get_or w 0 0)) k (λ e. n (sym e ∙ from))

  -- the task queues of j
  in_q : (p : ℕ) → p < 64 → in_queue m' j p ≡ in_queue m j p ++ those (is_for table p) (w ∷ [])
  unfolding in_queue
  in_q p a =
      same? p q
      (λ e t. rw e (ap (map words_of) here ∙ map-append words_of (live_ones ((m.node j).letters (13 + q))) (L ∷ []) ∙ ap (λ (x : List ℕ). map words_of (live_ones ((m.node j).letters (13 + q))) ++ x ∷ []) copy
      ∙ ap (λ (l : List (List ℕ)). map words_of (live_ones ((m.node j).letters (13 + q))) ++ l) (sym (those_one (is_for table q) w for_q))))
      (λ e t. ap (map words_of) (tasks j p j6 a (λ u v. e v)) ∙ sym (append-nil (map words_of (live_ones ((m.node j).letters (13 + p)))))
      ∙ ap (λ (l : List (List ℕ)). map words_of (live_ones ((m.node j).letters (13 + p))) ++ l) (sym (those_none (is_for table p) w (for_other p e))))

  -- what waits for j
  in_node : (k : ℕ) → k < 6 → map words_of (to_carry m k j) ≡ those (is_from table k) (w ∷ []) ++ map words_of (to_carry m' k j)
  in_node k a =
      same? k i
      (λ e t. rw e
      (ap (map words_of) (carry_stage m i j stage ∙ first)
      ∙ sym (ap₂ (λ (l n : List (List ℕ)). l ++ n) (those_one (is_from table i) w from_i) (ap (map words_of) (carry_over m' i j stage' other' ∙ ap (drop 1) (sends i j i6 j6 ∙ first))))))
      (λ e t. ap (map words_of) (carry_stage m k j stage)
      ∙ sym (ap₂ (λ (l n : List (List ℕ)). l ++ n) (those_none (is_from table k) w (from_other k e)) (ap (map words_of) (carry_away m' k j (λ u. e (sym u ∙ other')) ∙ sends k j a j6))))

  pub carries_one : Carries table j m m' (K.words ∷ [])
  unfolding in_queue
  carries_one =
      record {
        arrived = in_q;
        left = in_node;
        queues = λ k p a b n. ap (map words_of) (tasks k p a b (λ u v. n u));
        others = λ k p a b n. carry_same m m' k p (stages p b n) (others p b n) (sends k p a b);
      }

-- ---- one after another
pub carries_then : (table : List ℕ) (j : ℕ) (m m' m'' : Machine) (xs ys : List (List ℕ)) → Carries table j m m' xs → Carries table j m' m'' ys → Carries table j m m'' (xs ++ ys)
carries_then table j m m' m'' xs ys f g =
    record {
      arrived = λ q a. g.arrived q a ∙ ap (λ (l : List (List ℕ)). l ++ those (is_for table q) ys) (f.arrived q a) ∙ append_assoc (in_queue m j q) (those (is_for table q) xs) (those (is_for table q) ys)
          ∙ ap (λ (l : List (List ℕ)). in_queue m j q ++ l) (sym (those-append (is_for table q) xs ys));
      left = λ i a. f.left i a ∙ ap (λ (l : List (List ℕ)). those (is_from table i) xs ++ l) (g.left i a)
          ∙ sym (append_assoc (those (is_from table i) xs) (those (is_from table i) ys) (map words_of (to_carry m'' i j)))
          ∙ ap (λ (l : List (List ℕ)). l ++ map words_of (to_carry m'' i j)) (sym (those-append (is_from table i) xs ys));
      queues = λ k q a b n. g.queues k q a b n ∙ f.queues k q a b n;
      others = λ i k a b n. g.others i k a b n ∙ f.others i k a b n;
    }

-- ---- THE SAME LETTERS ON THE WAY
module _ (table : List ℕ) (right : right_table table ≡ true) (j : ℕ) (m m' : Machine) (news : List (List ℕ)) (c : Carries table j m m' news) where
  -- a letter from a to b comes from a's node and is for b's queue
  is_from_lem : (a b : ℕ) (w : List ℕ) → between a b w ≡ true → is_from table (node_of table a) w ≡ true
  unfolding between is_from
  is_from_lem a b w e = eq-eqb (node_of table (get_or w 0 0)) (node_of table a) (ap (node_of table) (eqb-true (get_or w 0 0) a (and-true (eqb (get_or w 0 0) a) (eqb (get_or w 2 0) b) e).0))

  is_for_lem : (a b : ℕ) (w : List ℕ) → between a b w ≡ true → is_for table (queue_of table b) w ≡ true
  unfolding between is_for
  is_for_lem a b w e = eq-eqb (queue_of table (get_or w 2 0)) (queue_of table b) (ap (queue_of table) (eqb-true (get_or w 2 0) b (and-true (eqb (get_or w 0 0) a) (eqb (get_or w 2 0) b) e).1))

  module _ (a b : ℕ) where
    abbrev p : List ℕ → Bool
    p = between a b

    abbrev i : ℕ
    i = node_of table a

    abbrev q : ℕ
    q = queue_of table b

    own : i < 6 → q < 64 → those p (in_queue m' j q ++ map words_of (to_carry m' i j)) ≡ those p (in_queue m j q ++ map words_of (to_carry m i j))
    own x y =
        let t : List (List ℕ) = map words_of (to_carry m' i j) in
        those-append p (in_queue m' j q) t
        ∙ ap (λ (l : List (List ℕ)). those p l ++ those p t) (c.arrived q y)
        ∙ ap (λ (l : List (List ℕ)). l ++ those p t) (those-append p (in_queue m j q) (those (is_for table q) news))
        ∙ append_assoc (those p (in_queue m j q)) (those p (those (is_for table q) news)) (those p t)
        ∙ ap (λ (l : List (List ℕ)). those p (in_queue m j q) ++ (l ++ those p t))
        (those-those p (is_for table q) (is_for_lem a b) news ∙ sym (those-those p (is_from table i) (is_from_lem a b) news))
        ∙ ap (λ (l : List (List ℕ)). those p (in_queue m j q) ++ l) (sym (those-append p (those (is_from table i) news) t) ∙ ap (those p) (sym (c.left i x)))
        ∙ sym (those-append p (in_queue m j q) (map words_of (to_carry m i j)))

  pub carries-way : SameWay table m m'
  unfolding on_the_way
  carries-way a b x y =
      let u = seat_below table a right x in
      let v = seat_below table b right y in
      same? (node_of table b) j
      (λ e t. rw e (own a b u.0 v.1))
      (λ e t. ap₂ (λ (l : List (List ℕ)) (k : List Letter). those (between a b) (l ++ map words_of k))
      (c.queues (node_of table b) (queue_of table b) v.0 v.1 e) (c.others (node_of table a) (node_of table b) u.0 v.0 e))
